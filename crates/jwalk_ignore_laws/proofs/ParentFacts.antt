-- The parent of a path with one name more is that path, where it ends with a name itself.
use Prim.Native.Nat.{zero}
use Rattle.std.proofs.Common.{◌≡◌, ◌≢◌, ◌∙◌, ◌≤◌, ◌<◌, ◌+◌, ◌-◌, ℕ, suc, T, Bool, true, false, cond, ◌&&◌, ◌||◌, nat_lt, eqb, eqb-true, List, [], ◌∷◌, ◌++◌, length, get_or, take, drop, bytes_eq, Option, Some, None, option_map, ap, subst, refl, sym, arith, append_assoc, length-append, take_all, ne_eqb}
use Rattle.std.specs.Prelude.{◌==◌, not}
use Rattle.std.specs.Path.{HasNoSlash, has_no_slash, is_trailing, parent_and_last, path_parent, rfind_below, root_dir, rsplit_once, split_last_component, trim_trailing, trimmed_len}
use Rattle.std.proofs.lemmas.Bool.{cond-false, cond-true, eqb-false, false_from_ne_true}
use Rattle.std.proofs.lemmas.List.{get_or-append_right, get_or_at, take_at}
use Rattle.std.proofs.lemmas.Slice.Eq.{bytes_eq-Decides}
use Rattle.jwalk_model.specs.Paths.{dot, join, parent, slash, with_slash}
use Rattle.jwalk_model.specs.PathTexts.{IsName}
use Rattle.jwalk_model.proofs.PathFacts.{by_test}
use Rattle.jwalk_model.proofs.PathJoins.{with_slash_added}
use Rattle.jwalk_model.proofs.PathParents.{path_parent_is}
use Rattle.jwalk_ignore_laws.proofs.NameFacts.{joined}

byte_by : (c : ℕ) (cs : List ℕ) (k : ℕ) (b : Bool) → (c == slash) ≡ b → T (not b && has_no_slash cs) → k < length (c ∷ cs) → (HasNoSlash cs → (j : ℕ) → j < length cs → (get_or cs j 0 == slash) ≡ false) → (get_or (c ∷ cs) k 0 == slash) ≡ false
byte_by c cs k true is none less rest = absurd none
byte_by c cs zero false is none less rest = is
byte_by c cs (suc k) false is none less rest = rest none k (omega (arith, less))

-- no byte of a name is a slash
byte_of : (n : List ℕ) → HasNoSlash n → (k : ℕ) → k < length n → (get_or n k 0 == slash) ≡ false
byte_of [] none k less = absurd (omega (arith, less))
byte_of (c ∷ cs) none k less = byte_by c cs k (c == slash) refl none less (byte_of cs)

module _ (front n : List ℕ) (is : IsName n) where
  abbrev text : List ℕ
  text = front ++ n

  long : 0 < length n
  long = by n is.some
    where
      by : (m : List ℕ) → m ≢ [] → 0 < length m
      by [] some = absurd (some refl)
      by (c ∷ cs) some = omega arith

  at : (i : ℕ) → length front ≤ i → get_or text i 0 ≡ get_or n (i - length front) 0
  at i less = get_or-append_right front n (length front) i 0 refl less

  no_slash_at : (i : ℕ) → length front ≤ i → i < length text → (get_or text i 0 == slash) ≡ false
  no_slash_at i less more = ap (λ (b : ℕ). b == slash) (at i less) ∙ byte_of n is.no_slash (i - length front) (omega (arith, less, more, length-append front n))

  two_by : (b : Bool) → (get_or text (length text - 1) 0 == 46) ≡ b → (b && (get_or text (length text - 1 - 1) 0 == slash)) ≡ false
  two_by false e = refl
  two_by true e = by_test (eqb (length n) 1) (λ one. absurd (is.not_dot (alone n (eqb-true (length n) 1 one) (only one)))) (λ more. before more)
    where
      alone : (m : List ℕ) → length m ≡ 1 → get_or m 0 0 ≡ 46 → m ≡ dot
      alone [] one same = cc
      alone (c ∷ []) one same = ap (λ (d : ℕ). d ∷ []) same
      alone (c ∷ d ∷ cs) one same = absurd (omega (arith, one))

      only : eqb (length n) 1 ≡ true → get_or n 0 0 ≡ 46
      only one =
          let same : length text - 1 - length front ≡ 0 = omega (arith, length-append front n, eqb-true (length n) 1 one) in
          sym (at (length text - 1) (omega (arith, length-append front n, long)) ∙ ap (λ (k : ℕ). get_or n k 0) same) ∙ eqb-true (get_or text (length text - 1) 0) 46 e

      before : eqb (length n) 1 ≡ false → (get_or text (length text - 1 - 1) 0 == slash) ≡ false
      before more =
          let two : 1 < length n = omega (arith, long, eqb-false (length n) 1 more) in
          no_slash_at (length text - 1 - 1) (omega (arith, length-append front n, two)) (omega (arith, length-append front n, long))

  -- its last byte is not taken off
  kept_last : is_trailing text (length text - 1) ≡ false
  kept_last =
      let last = no_slash_at (length text - 1) (omega (arith, length-append front n, long)) (omega (arith, length-append front n, long)) in
      ap (λ (b : Bool). nat_lt 0 (length text - 1) && (b || ((get_or text (length text - 1) 0 == 46) && (get_or text (length text - 1 - 1) 0 == slash)))) last
      ∙ ap (λ (b : Bool). nat_lt 0 (length text - 1) && b) (two_by (get_or text (length text - 1) 0 == 46) refl) ∙ and_false (nat_lt 0 (length text - 1))
    where
      and_false : (b : Bool) → (b && false) ≡ false
      and_false true = refl
      and_false false = refl

  kept_by : (k : ℕ) → length text ≡ suc k → trimmed_len text (length text) ≡ length text
  kept_by k is_long =
      let last : is_trailing text k ≡ false = subst (λ (j : ℕ). is_trailing text j ≡ false) {x = length text - 1} {y = k} (omega (arith, is_long)) kept_last in
      subst (λ (j : ℕ). trimmed_len text j ≡ j) (sym is_long) (cond-false (is_trailing text k) (trimmed_len text k) (suc k) last)

  -- nothing is taken off its end
  trimmed : trim_trailing text ≡ text
  unfolding trim_trailing
  trimmed = ap (λ (k : ℕ). take k text) (kept_by (length text - 1) (omega (arith, length-append front n, long))) ∙ take_all (length text) text (omega arith)

  -- a slash is put behind it
  slash_put : with_slash text ≡ text ++ slash ∷ []
  slash_put =
      let last = no_slash_at (length text - 1) (omega (arith, length-append front n, long)) (omega (arith, length-append front n, long)) in
      sym (with_slash_added text (omega (arith, length-append front n, long)) (λ same. cc))

-- ---- the last slash

slash_from : (q m : List ℕ) → HasNoSlash m → (n k : ℕ) → n ≡ length q + 1 + k → k ≤ length m → rfind_below slash (q ++ slash ∷ m) n ≡ Some (length q)
slash_from q m none zero k is less = absurd (omega (arith, is))
slash_from q m none (suc n) zero is less =
    let at : n ≡ length q = omega (arith, is) in
    subst (λ (j : ℕ). rfind_below slash (q ++ slash ∷ m) (suc j) ≡ Some (length q)) (sym at)
    (cond-true (get_or (q ++ slash ∷ m) (length q) 0 == slash) (Some (length q)) (rfind_below slash (q ++ slash ∷ m) (length q)) (ap (λ (b : ℕ). b == slash) (get_or_at q slash m 0 (length q) refl)))
slash_from q m none (suc n) (suc k) is less =
    let behind : (get_or (q ++ slash ∷ m) n 0 == slash) ≡ false = ap (λ (b : ℕ). b == slash) (get_or-append_right q (slash ∷ m) (length q) n 0 refl (omega (arith, is))
    ∙ ap (λ (j : ℕ). get_or (slash ∷ m) j 0) {x = n - length q} {y = suc k} (omega (arith, is))) ∙ byte_of m none k (omega (arith, less)) in
    cond-false (get_or (q ++ slash ∷ m) n 0 == slash) (Some n) (rfind_below slash (q ++ slash ∷ m) n) behind ∙ slash_from q m none n k (omega (arith, is)) (omega (arith, less))

split_at : (q m : List ℕ) → HasNoSlash m → rsplit_once slash (q ++ slash ∷ m) ≡ Some (q, drop (length q + 1) (q ++ slash ∷ m))
unfolding rsplit_once
split_at q m none =
    let whole = q ++ slash ∷ m in
    ap (option_map (λ i. (take i whole, drop (i + 1) whole))) (slash_from q m none (length whole) (length m) (omega (arith, length-append q (slash ∷ m))) (omega arith))
    ∙ ap (λ (front : List ℕ). Some (front, drop (length q + 1) whole)) (take_at q (slash ∷ m) (length q) refl)

-- ---- the parent

parent_put : (front n m : List ℕ) → IsName n → IsName m → path_parent ((front ++ n) ++ slash ∷ m) ≡ Some (front ++ n)
unfolding path_parent split_last_component
parent_put front n m is_n is_m =
    let q : List ℕ = front ++ n in
    let whole : List ℕ = q ++ slash ∷ m in
    let behind : (q ++ slash ∷ []) ++ m ≡ whole = append_assoc q (slash ∷ []) m in
    let same : trim_trailing whole ≡ whole = subst (λ (t : List ℕ). trim_trailing t ≡ t) behind (trimmed (q ++ slash ∷ []) m is_m) in
    let some : 1 < length whole = omega (arith, length-append q (slash ∷ m), long front m is_m) in
    let filled : (length q == 0) ≡ false = ne_eqb (length q) 0 (λ none. absurd (omega (arith, none, length-append front n, long front n is_n))) in
    let other : (length whole == 0 || bytes_eq whole root_dir) ≡ false =
    ap (λ (b : Bool). b || bytes_eq whole root_dir) (ne_eqb (length whole) 0 (λ none. absurd (omega (arith, none, some))))
    ∙ false_from_ne_true (bytes_eq whole root_dir) (λ e. let one : length whole ≡ 1 = ap length ((bytes_eq-Decides whole root_dir).0 e) in absurd (omega (arith, one, some))) in
    ap (λ (t : List ℕ). option_map (λ split. split.0) (cond (length t == 0 || bytes_eq t root_dir) None (Some (parent_and_last t (rsplit_once slash t))))) same
    ∙ ap (λ (b : Bool). option_map (λ split. split.0) (cond b None (Some (parent_and_last whole (rsplit_once slash whole))))) other
    ∙ ap (λ (r : Option (List ℕ × List ℕ)). Some (parent_and_last whole r).0) (split_at q m is_m.no_slash)
    ∙ ap Some (cond-false (length q == 0) root_dir (trim_trailing q) filled ∙ trimmed front n is_n)

-- the parent of what is in a directory that has a name
pub parent_joined : (d n m : List ℕ) → IsName n → IsName m → parent (join (join d n) m) ≡ Some (join d n)
parent_joined d n m is_n is_m =
    let front : List ℕ = with_slash d in
    let q : List ℕ = front ++ n in
    let named : join d n ≡ q = joined d n is_n in
    let whole : join q m ≡ q ++ slash ∷ m = joined q m is_m ∙ ap (λ (l : List ℕ). l ++ m) (slash_put front n is_n) ∙ append_assoc q (slash ∷ []) m in
    ap (λ (p : List ℕ). parent (join p m)) named ∙ ap parent whole ∙ sym (path_parent_is (q ++ slash ∷ m)) ∙ parent_put front n m is_n is_m ∙ ap Some (sym named)
