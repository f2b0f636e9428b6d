-- Lists on which names were handed on.
use Rattle.std.proofs.Common.{◌≡◌, ◌∙◌, ◌<◌, ℕ, suc, true, false, List, [], ◌∷◌, map, length, get_or, cond, Option, Some, None, option_map, String, Result, Ok, Err, OnOk, refl, ap, subst, sym, arith}
use Rattle.std.specs.Prelude.{filter, is_some}
use Rattle.jwalk.specs.jwalk_model.Entry.{Item, has_directory}
use Rattle.jwalk.specs.jwalk_model.Counted.{children_by, item_by}
use Rattle.jwalk.specs.jwalk_job.declared.dir_entry.DirEntry.{DirEntry}
use Rattle.jwalk.specs.jwalk_job.declared.error.Error.{Error}
use Rattle.jwalk.specs.jwalk_job.Entry.{item}
use Rattle.jwalk.specs.jwalk_job.Given.{Given, counted_list, IsProcessed}
use Rattle.example_proofs.specs.HandsOnNames.{worth_of, handed, names_handed_on}

-- lists of equal length, where each item of one is seen as that of the other, changed
pub all_changed : {X Y V : Type 0} (item : X → Y) (view : Y → V) (change : V → V) (old new : List X) → length new ≡ length old → ((k : ℕ) (d : X) → k < length new → view (item (get_or new k d)) ≡ change (view (item (get_or old k d)))) → map view (map item new) ≡ map change (map view (map item old))
all_changed item view change [] [] long each = refl
all_changed item view change [] (y ∷ new) long each = absurd (omega arith)
all_changed item view change (x ∷ old) [] long each = absurd (omega arith)
all_changed item view change (x ∷ old) (y ∷ new) long each =
    ap (λ v. v ∷ map view (map item new)) (each 0 y (omega arith))
    ∙ ap (λ l. change (view (item x)) ∷ l) (all_changed item view change old new (omega (arith, long)) (λ k d within. each (suc k) d (omega (arith, within))))

module _ {R E V W : Type 0} (view : R → V) (mark : E → W) where
  -- an item has a directory as its states count if it has one, and only then
  same_test : (i : Item R E) → has_directory (item_by view mark i) ≡ has_directory i
  same_test (Err f) = refl
  same_test (Ok e) = elim e.read_children as (λ o. is_some (option_map (children_by view) o) ≡ is_some o) [ None ↦ refl | Some c ↦ refl ]

  -- directories are kept, whether states count or not
  kept_counted : {X : Type 0} (item : X → Item R E) (list : List X) → map (item_by view mark) (map item (filter (λ x. has_directory (item x)) list)) ≡ filter has_directory (map (item_by view mark) (map item list))
  kept_counted item [] = refl
  kept_counted item (x ∷ list) =
      let counted = item_by view mark in
      let others = filter (λ x. has_directory (item x)) list in
      let others' = filter has_directory (map counted (map item list)) in
      rw (same_test (item x)) (elim (has_directory (item x)) as (λ b. map counted (map item (cond b (x ∷ others) others)) ≡ cond b (counted (item x) ∷ others') others') [
        | true ↦ ap (λ l. counted (item x) ∷ l) (kept_counted item list)
        | false ↦ kept_counted item list
      ])

-- what the callback makes of a list, where it kept the directories and then handed names on
pub made_by : {C A B D F : Type 0} (depth : Option ℕ) (path : List ℕ) (answer : Result (Unit {0}) F) (state : Option (String A)) (list kept new : List (Result (DirEntry C D (Option (String A)) (Option (String B))) (Error D)))
    → kept ≡ filter (λ x. has_directory (item x)) list → OnOk answer (counted_list names_handed_on new ≡ map (handed (worth_of state)) (counted_list names_handed_on kept))
    → OnOk answer (IsProcessed names_handed_on depth path state (map item list) state (map item new))
made_by depth path (Err refused) state list kept new is made = tt
made_by depth path (Ok done) state list kept new is made =
    let directories = ap (counted_list names_handed_on) is ∙ kept_counted worth_of worth_of item list in
    ap (λ l. record { state = worth_of state; list = l }) (sym (made ∙ ap (map (handed (worth_of state))) directories))

-- the same for anything that is to be said in this way
pub made_for : {R E F : Type 0} (told : Given R E) (depth : Option ℕ) (path : List ℕ) (answer : Result (Unit {0}) F) (state state' : R) (list list' : List (Item R E))
    → OnOk answer (IsProcessed told depth path state list state' list') → (given : Given R E) → given ≡ told → OnOk answer (IsProcessed given depth path state list state' list')
made_for told depth path answer state state' list list' made given is = subst (λ g. OnOk answer (IsProcessed g depth path state list state' list')) (sym is) made
