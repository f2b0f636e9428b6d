-- The last pattern that matches, by its place.
use Prim.Native.Nat.{zero}
use Rattle.std.proofs.Common.{◌≡◌, ◌∙◌, ◌⊎◌, inl, inr, ◌<◌, ◌≤◌, ◌+◌, ℕ, suc, Bool, true, false, Option, Some, None, List, [], ◌∷◌, ◌++◌, length, take, drop, get_or, ap, subst, refl, sym, arith, append_assoc, length-take, take-append-drop}
use Rattle.std.specs.Prelude.{is_some, MatchOption}
use Rattle.std.proofs.lemmas.List.{drop_more, get_or_append_left, get_or-append-add, length-append}
use Rattle.jwalk_ignore_rules.specs.Pattern.{Pattern, Matches}
use Rattle.jwalk_ignore_rules.specs.Rules.{LastMatch, NoneMatches, Says}
use Rattle.jwalk_ignore_rules.specs.Rules.LastNames.{IsLastMatch, MatchesAt, NoneFrom}
use Rattle.jwalk_ignore_rules.specs.declared.rules.decision.Decision.{Decision}
use Rattle.jwalk_ignore_rules.specs.declared.rules.decision.Decision.TheVariants.{Ignored, Kept, Unsaid}
use Rattle.jwalk_ignore_rules.proofs.IndexFacts.{Ascend, below_or_last, at_new}

-- the first of these numbers
abbrev pub IsFront : List ℕ → List ℕ → Type 0
IsFront others rest = (length rest ≤ length others) × ((k : ℕ) → k < length rest → get_or rest k 0 ≡ get_or others k 0)

-- what matches from a place on can't be outside of these first numbers
abbrev pub IsLeft : List Pattern → List ℕ → Bool → ℕ → List ℕ → List ℕ → Type 0
IsLeft patterns path is_dir from others rest =
    (place : ℕ) → (p : Pattern) → from ≤ place → MatchesAt patterns path is_dir place p → ((k : ℕ) × (k < length rest) × (get_or others k 0 ≡ place) → ⊥) → ⊥

module _ (patterns : List Pattern) (path : List ℕ) (is_dir : Bool) where
  -- none of the patterns from a place on matches
  none_behind : (from : ℕ) → NoneFrom patterns path is_dir from → (front behind : List Pattern) → patterns ≡ front ++ behind → from ≤ length front → NoneMatches behind path is_dir
  none_behind from none front [] is within = tt
  none_behind from none front (p ∷ behind) is within = (
    (λ hit. none (length front) p within (front, behind, is, refl, hit)),
    none_behind from none (front ++ p ∷ []) behind (is ∙ sym (append_assoc front (p ∷ []) behind)) (omega (arith, within, length-append front (p ∷ []))),
  )

  -- the last that matches, by its place, is the last match
  pub last_match : (p : Pattern) → IsLastMatch patterns path is_dir p → LastMatch patterns path is_dir p.keeps
  last_match p (place, (front, behind, is, at, hit), none) =
      (front, p, behind, is, hit, refl, none_behind (place + 1) none (front ++ p ∷ []) behind (is ∙ sym (append_assoc front (p ∷ []) behind)) (omega (arith, at, length-append front (p ∷ []))))

  none_append : (xs ys : List Pattern) → NoneMatches xs path is_dir → NoneMatches ys path is_dir → NoneMatches (xs ++ ys) path is_dir
  none_append [] ys none more = more
  none_append (x ∷ xs) ys none more = (none.0, none_append xs ys none.1 more)

  -- a front is as long as asked, or nothing is behind it
  front_or_all : (n : ℕ) (xs : List Pattern) → (length (take n xs) ≡ n) ⊎ (drop n xs ≡ [])
  front_or_all zero xs = inl refl
  front_or_all (suc n) [] = inr refl
  front_or_all (suc n) (x ∷ xs) = one_more (front_or_all n xs) where
    one_more : (length (take n xs) ≡ n) ⊎ (drop n xs ≡ []) → (length (take (suc n) (x ∷ xs)) ≡ suc n) ⊎ (drop (suc n) (x ∷ xs) ≡ [])
    one_more (inl long) = inl (ap suc long)
    one_more (inr none) = inr none

  module _ (count : ℕ) (none : NoneFrom patterns path is_dir count) where
    whole : patterns ≡ take count patterns ++ drop count patterns
    whole = sym (take-append-drop count patterns)

    none_left : NoneMatches (drop count patterns) path is_dir
    none_left = by (front_or_all count patterns) where
      by : (length (take count patterns) ≡ count) ⊎ (drop count patterns ≡ []) → NoneMatches (drop count patterns) path is_dir
      by (inl long) = none_behind count none (take count patterns) (drop count patterns) whole (omega (arith, long))
      by (inr empty) = subst (λ (ps : List Pattern). NoneMatches ps path is_dir) (sym empty) tt

    last_up_to : (keeps : Bool) → LastMatch (take count patterns) path is_dir keeps → LastMatch patterns path is_dir keeps
    last_up_to keeps (before, p, behind, is, hit, same, nothing) = (
      before,
      p,
      behind ++ drop count patterns,
      whole ∙ ap (λ (ps : List Pattern). ps ++ drop count patterns) is ∙ append_assoc before (p ∷ behind) (drop count patterns),
      hit,
      same,
      none_append behind (drop count patterns) nothing none_left,
    )

    -- where no pattern from a place on matches, those in front of it decide
    pub says_up_to : (decision : Decision) → Says (take count patterns) path is_dir decision → Says patterns path is_dir decision
    says_up_to Ignored says = last_up_to _ says
    says_up_to Kept says = last_up_to _ says
    says_up_to Unsaid says = subst (λ (ps : List Pattern). NoneMatches ps path is_dir) (sym whole) (none_append (take count patterns) (drop count patterns) says none_left)

  -- a pattern that matches, at its place
  pub match_here : (place : ℕ) (p d : Pattern) → place < length patterns → get_or patterns place d ≡ p → Matches p path is_dir → MatchesAt patterns path is_dir place p
  match_here place p d within is hit = (
    take place patterns,
    drop (place + 1) patterns,
    sym (take-append-drop place patterns) ∙ ap (λ (l : List Pattern). take place patterns ++ l) (drop_more patterns place d within ∙ ap (λ (q : Pattern). q ∷ drop (place + 1) patterns) is),
    omega (arith, within, length-take place patterns),
    hit,
  )

  -- where a pattern matches, it is at its place
  pub matched_at : (place : ℕ) (p d : Pattern) → MatchesAt patterns path is_dir place p → (place < length patterns) × (get_or patterns place d ≡ p) × Matches p path is_dir
  matched_at place p d (front, behind, is, at, hit) = (
    omega (arith, at, ap length is, length-append front (p ∷ behind)),
    ap (λ (ps : List Pattern). get_or ps place d) is ∙ ap (λ (n : ℕ). get_or (front ++ p ∷ behind) n d) (let e : place ≡ length front + 0 = omega (arith, at) in e) ∙ get_or-append-add front (p ∷ behind) 0 d,
    hit,
  )

  module _ (from : ℕ) (others : List ℕ) (ascend : Ascend others) where
    module _ (rest before : List ℕ) (last : ℕ) (is : rest ≡ before ++ last ∷ []) (front : IsFront others rest) where
      long : length rest ≡ length before + 1
      long = ap length is ∙ length-append before (last ∷ [])

      last_at : get_or others (length before) 0 ≡ last
      last_at = sym (front.1 (length before) (omega (arith, long))) ∙ ap (λ (xs : List ℕ). get_or xs (length before) 0) is ∙ at_new before last (length before) refl

      -- what is in front of the last place is a front too
      pub front_before : IsFront others before
      front_before = (
        omega (arith, long, front.0),
        (λ k within. sym (get_or_append_left before (last ∷ []) 0 k within) ∙ ap (λ (xs : List ℕ). get_or xs k 0) (sym is) ∙ front.1 k (omega (arith, long, within))),
      )

      module _ (left : IsLeft patterns path is_dir from others rest) where
        -- nothing that matches is behind the last place that is left
        none_above : (place : ℕ) (p : Pattern) → from ≤ place → MatchesAt patterns path is_dir place p → last < place → ⊥
        none_above place p within hit above =
            left place p within hit
            (λ at. omega (arith, above, at.1, at.2, last_at, long, front.0, ascend at.0 (length before) (omega (arith, at.1, long)) (omega (arith, long, front.0))))

        -- where the last place that is left is in front, nothing matches
        pub none_from : last < from → NoneFrom patterns path is_dir from
        none_from below place p within hit = none_above place p within hit (omega (arith, below, within))

        -- what matches at the last place that is left is the last that matches
        pub last_of_all : from ≤ last → (p : Pattern) → MatchesAt patterns path is_dir last p → IsLastMatch patterns path is_dir p
        last_of_all above p hit = (last, hit, (λ place q within later. none_above place q (omega (arith, above, within)) later (omega (arith, within))))

        -- what doesn't match at the last place is still left
        pub left_before : ((p : Pattern) → MatchesAt patterns path is_dir last p → ⊥) → IsLeft patterns path is_dir from others before
        left_before never place p within hit nowhere = left place p within hit (λ at. by at.0 at.2 (below_or_last at.0 (length before) (omega (arith, at.1, long)))) where
          by : (k : ℕ) → get_or others k 0 ≡ place → (k < length before) ⊎ (k ≡ length before) → ⊥
          by k here (inl below) = nowhere (k, below, here)
          by k here (inr end) =
              let same : place ≡ last = sym here ∙ ap (λ (m : ℕ). get_or others m 0) end ∙ last_at in
              never p (subst (λ (m : ℕ). MatchesAt patterns path is_dir m p) same hit)

-- what was found, where something was
pub found_last : {X : Type 0} (P R : Type 0) (Q S : X → Type 0) (r : Option X) → is_some r ≡ true → MatchOption r P Q → ((x : X) → Q x → S x) → MatchOption r R S
found_last P R Q S None is found more = absurd (cc)
found_last P R Q S (Some x) is found more = more x found

-- where nothing was found
pub found_none : {X : Type 0} (P : Type 0) (Q : X → Type 0) (r : Option X) → is_some r ≡ false → MatchOption r P Q → P
found_none P Q None is found = found
found_none P Q (Some x) is found = absurd (cc)
