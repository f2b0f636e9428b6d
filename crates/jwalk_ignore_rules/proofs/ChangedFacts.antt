-- Lists of which each item is changed in turn.
use Rattle.std.proofs.Common.{◌≡◌, ℕ, ◌+◌, ◌<◌, ◌≤◌, List, ◌++◌, map, length, take, drop, get_or, set, ap, sym, ◌∙◌, arith, append-nil}
use Rattle.std.proofs.lemmas.List.{map-set, get_or-map, length-map, take_all, drop_all}
use Rattle.std.proofs.lemmas.List.Edits.{map_over_more}

module _ {X Y : Type 0} (view : X → Y) (change : Y → Y) (xs : List X) where
  -- the list so far: the first items of xs are changed, as a view shows them
  abbrev pub IsChangedTo : ℕ → List X → Type 0
  IsChangedTo i ys = map view ys ≡ map change (take i (map view xs)) ++ drop i (map view xs)

  -- one more item
  pub changed_more : (ys : List X) (i : ℕ) (x d : X) → length ys ≡ length xs → i < length xs → view x ≡ change (view (get_or ys i d)) → IsChangedTo i ys → IsChangedTo (i + 1) (set ys i x)
  changed_more ys i x d same below is h =
      let long = length-map xs view in
      let old = get_or ys i d in
      map-set view ys i x ∙ ap (set (map view ys) i) is
      ∙ map_over_more change (map view xs) (map view ys) i (view old) (omega arith) h (sym (get_or-map view ys i d (view old) (omega arith)))

  -- all of them
  pub changed_all : (ys : List X) (i : ℕ) → length xs ≤ i → IsChangedTo i ys → map view ys ≡ map change (map view xs)
  changed_all ys i past h =
      let long = length-map xs view in
      h
      ∙ ap (λ l. map change (take i (map view xs)) ++ l) (drop_all i (map view xs) (omega arith))
      ∙ append-nil (map change (take i (map view xs)))
      ∙ ap (map change) (take_all i (map view xs) (omega arith))
