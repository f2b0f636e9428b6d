-- Listings by readings of two greatest depths, where nothing is as deep as the less.
use Prim.Native.Nat.{zero}
use Rattle.std.proofs.Common.{◌≡◌, ◌∙◌, ◌≤◌, ◌<◌, ◌+◌, ℕ, suc, List, [], ◌∷◌, ◌++◌, map, flat_map, Ok, Err, ap, ap₂, subst, refl, arith}
use Rattle.jwalk_model.specs.Entry.{Item}
use Rattle.jwalk_model.specs.ReadDir.{Outcome, Spec, spec_of}
use Rattle.jwalk_model.specs.Listing.{Source, after_reading, below, nothing, pair, pairs_of, source_of, stands, unread, was_read}
use Rattle.jwalk_ignore.specs.Callback.IgnoreFiles.{depth_of}
use Rattle.jwalk_ignore_laws.proofs.DeeperFacts.{Each}
use Rattle.jwalk_ignore_laws.proofs.FoundFacts.{ItemsFit, OpensTo, SourceFits, source_fits, stands_at}

pub each_front : {X : Type 0} (has : X → Type 0) (xs ys : List X) → Each has (xs ++ ys) → Each has xs
each_front has [] ys h = tt
each_front has (x ∷ xs) ys h = (h.0, each_front has xs ys h.1)

each_behind : {X : Type 0} (has : X → Type 0) (xs ys : List X) → Each has (xs ++ ys) → Each has ys
each_behind has [] ys h = h
each_behind has (x ∷ xs) ys h = each_behind has xs ys h.1

module _ {R E : Type 0} (limit : ℕ) (these those : Spec R → Outcome R E) (Fits : Spec R → Type 0) (same : (spec : Spec R) → spec.depth < limit → these spec ≡ those spec) where
  -- An item is above the limit.
  abbrev pub IsAbove : Item R E → Type 0
  IsAbove x = depth_of x < limit

  stands_same : (depth : ℕ) (x : Item R E) (source : Source R E) → SourceFits these Fits depth source → depth < limit → stands these x source ≡ stands those x source
  stands_same depth x nothing fits less = refl
  stands_same depth x (unread spec) fits less = ap (λ (o : Outcome R E). after_reading o x) (same spec (omega (arith, fits.0, less)))
  stands_same depth x (was_read spec outcome) fits less = refl

  listed_same : (depth : ℕ) (lower other : Source R E → List (Item R E)) → ((source : Source R E) → SourceFits these Fits depth source → depth < limit → Each IsAbove (lower source) → lower source ≡ other source)
      → (state : R) (list : List (Item R E)) → ItemsFit these Fits depth state list → Each IsAbove (flat_map (λ p. stands these p.item p.source ∷ lower p.source) (map (pair state) list))
      → flat_map (λ p. stands these p.item p.source ∷ lower p.source) (map (pair state) list) ≡ flat_map (λ p. stands those p.item p.source ∷ other p.source) (map (pair state) list)
  listed_same depth lower other each state [] fits above = refl
  listed_same depth lower other each state (x ∷ list) (at, fits, others) (first, rest) =
      let source : Source R E = source_of (spec_of state x) in
      let behind : List (Item R E) = flat_map (λ p. stands these p.item p.source ∷ lower p.source) (map (pair state) list) in
      let less : depth < limit = omega (arith, first, stands_at these Fits x source, at) in
      let fit = source_fits these Fits depth state x at fits in
      ap₂ ◌++◌ (ap₂ (λ (y : Item R E) (l : List (Item R E)). y ∷ l) (stands_same depth x source fit less) (each source fit less (each_front IsAbove (lower source) behind rest)))
      (listed_same depth lower other each state list others (each_behind IsAbove (lower source) behind rest))

  outcome_same : (depth : ℕ) (lower other : Source R E → List (Item R E)) → ((source : Source R E) → SourceFits these Fits (depth + 1) source → depth + 1 < limit → Each IsAbove (lower source) → lower source ≡ other source)
      → (spec : Spec R) → spec.depth ≡ depth → (outcome : Outcome R E) → OpensTo these Fits spec outcome → Each IsAbove (flat_map (λ p. stands these p.item p.source ∷ lower p.source) (pairs_of outcome))
      → flat_map (λ p. stands these p.item p.source ∷ lower p.source) (pairs_of outcome) ≡ flat_map (λ p. stands those p.item p.source ∷ other p.source) (pairs_of outcome)
  outcome_same depth lower other each spec at (Err f) fits above = refl
  outcome_same depth lower other each spec at (Ok r) fits above = listed_same (depth + 1) lower other each r.state r.list (subst (λ (n : ℕ). ItemsFit these Fits (n + 1) r.state r.list) at fits) above

  -- what is below a directory, for a number of levels or for more, where nothing there is at the limit
  pub shallow : ((spec : Spec R) → Fits spec → OpensTo these Fits spec (these spec)) → (n m depth : ℕ) → n + depth ≡ limit → n ≤ m → (source : Source R E) → SourceFits these Fits depth source → depth < limit
      → Each IsAbove (below these m source) → below these m source ≡ below those n source
  unfolding below
  shallow opens zero m depth levels less source fits higher above = absurd (omega (arith, levels, higher))
  shallow opens (suc n) zero depth levels less source fits higher above = absurd (omega (arith, less))
  shallow opens (suc n) (suc m) depth levels less nothing fits higher above = refl
  shallow opens (suc n) (suc m) depth levels less (unread spec) (at, fits) higher above =
      outcome_same depth (below these m) (below those n) (λ source fit more each. shallow opens n m (depth + 1) (omega (arith, levels)) (omega (arith, less)) source fit more each) spec at (these spec) (opens spec fits) above
      ∙ ap (λ (o : Outcome R E). flat_map (λ p. stands those p.item p.source ∷ below those n p.source) (pairs_of o)) (same spec (omega (arith, at, higher)))
  shallow opens (suc n) (suc m) depth levels less (was_read spec outcome) fits higher above = absurd fits
