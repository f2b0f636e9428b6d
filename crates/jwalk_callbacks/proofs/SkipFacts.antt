-- Names that are looked for, and lists of which each item is changed in turn.
use Rattle.std.proofs.Common.{◌≡◌, ℕ, ◌+◌, ◌<◌, ◌≤◌, Bool, true, false, ◌||◌, cond, List, [], ◌∷◌, ◌++◌, map, length, Option, Some, None, Result, Ok, Err, take, drop, get_or, set, refl, ap, sym, ◌∙◌, arith, append-nil}
use Rattle.std.specs.Prelude.{OnOk}
use Rattle.std.specs.List.{list_any}
use Rattle.std.proofs.lemmas.List.{map-set, get_or-map, length-map, take_all, drop_all}
use Rattle.std.proofs.lemmas.List.Edits.{map_over_more}
use Rattle.jwalk_model.specs.Entry.{Item}
use Rattle.jwalk_model.specs.Counted.{entry_by, item_by, reading_by}
use Rattle.jwalk_callbacks.specs.SkipNames.{is_one_of, skipped_item, skips}

-- what holds of every result holds of an `Ok`
pub on_ok : {T F : Type 0} {P : Type 0} (r : Result T F) → P → OnOk r P
on_ok (Ok x) p = p
on_ok (Err e) p = tt

-- a test of what a view shows
pub list_any-map : {X Y : Type 0} (view : X → Y) (test : Y → Bool) (xs : List X) → list_any test (map view xs) ≡ list_any (λ x. test (view x)) xs
list_any-map view test [] = refl
list_any-map view test (x ∷ xs) = ap (λ b. test (view x) || b) (list_any-map view test xs)

module _ {X Y : Type 0} (view : X → Y) (change : Y → Y) (xs : List X) where
  -- the list so far: the first items of xs are changed, as a view shows them
  abbrev pub IsChangedTo : ℕ → List X → Type 0
  IsChangedTo i ys = map view ys ≡ map change (take i (map view xs)) ++ drop i (map view xs)

  -- one more item
  pub changed_more : (ys : List X) (i : ℕ) (x d : X) → length ys ≡ length xs → i < length xs → view x ≡ change (view (get_or ys i d)) → IsChangedTo i ys → IsChangedTo (i + 1) (set ys i x)
  changed_more ys i x d same below is h =
      let long = length-map xs view in
      let old = get_or ys i d in
      map-set view ys i x ∙ ap (set (map view ys) i) is
      ∙ map_over_more change (map view xs) (map view ys) i (view old) (omega arith) h (sym (get_or-map view ys i d (view old) (omega arith)))

  -- all of them
  pub changed_all : (ys : List X) (i : ℕ) → length xs ≤ i → IsChangedTo i ys → map view ys ≡ map change (map view xs)
  changed_all ys i past h =
      let long = length-map xs view in
      h
      ∙ ap (λ l. map change (take i (map view xs)) ++ l) (drop_all i (map view xs) (omega arith))
      ∙ append-nil (map change (take i (map view xs)))
      ∙ ap (map change) (take_all i (map view xs) (omega arith))

module _ {R E V W : Type 0} (view : R → V) (mark : E → W) (names : List (List ℕ)) where
  counted-skipped_item : (x : Item R E) → skipped_item names (item_by view mark x) ≡ item_by view mark (skipped_item names x)
  counted-skipped_item (Err f) = refl
  counted-skipped_item (Ok e) =
      elim (is_one_of names e.file_name) as (λ b. ◌≡◌ {A = Item V W} (Ok (cond b (record (entry_by view mark e) { read_children = None }) (entry_by view mark e))) (item_by view mark (Ok (cond b (record e { read_children = None }) e)))) [
        | true ↦ refl
        | false ↦ refl
      ]

  counted-items : (l : List (Item R E)) → map (skipped_item names) (map (item_by view mark) l) ≡ map (item_by view mark) (map (skipped_item names) l)
  counted-items [] = refl
  counted-items (x ∷ l) = rw (counted-skipped_item x) (ap (λ m. item_by view mark (skipped_item names x) ∷ m) (counted-items l))

  -- names don't count states
  pub counted-skips : (depth : Option ℕ) (path : List ℕ) (state : R) (list : List (Item R E)) → skips names depth path (view state) (map (item_by view mark) list) ≡ reading_by view mark (skips names depth path state list)
  counted-skips None path state list = refl
  counted-skips (Some depth) path state list = rw (counted-items list) refl
