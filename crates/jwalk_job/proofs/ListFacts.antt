-- Facts about lists that are gathered.
use Rattle.std.proofs.Common.{◌≡◌, ◌++◌, List, [], ◌∷◌, Result, map, ap, ◌∙◌, append-nil, option_to_list}
use Rattle.std.proofs.lemmas.Grind.{flat_map-append}
use Rattle.std.proofs.lemmas.List.{map-append}
use Rattle.jwalk_model.specs.Entry.{Item}
use Rattle.jwalk_model.specs.ReadDir.{Spec, spec_of, children, AreClones}
use Rattle.jwalk_job.specs.declared.dir_entry.DirEntry.{DirEntry}
use Rattle.jwalk_job.specs.declared.error.Error.{Error}
use Rattle.jwalk_job.specs.Entry.{item}
use Rattle.jwalk_job.specs.Given.{Given, counted_item, counted_list}

-- items as they count, one list after another
pub counted-append : {C A R E : Type 0} (given : Given R E) (l m : List (Result (DirEntry C A R E) (Error A))) → counted_list given (l ++ m) ≡ counted_list given l ++ counted_list given m
counted-append given l m = ap (map (counted_item given)) (map-append item l m) ∙ map-append (counted_item given) (map item l) (map item m)

-- the directories of one more item
pub children_more : {R E : Type 0} (state : R) (l : List (Item R E)) (x : Item R E) → children (record { state = state; list = l ++ x ∷ [] }) ≡ children (record { state = state; list = l }) ++ option_to_list (spec_of state x)
children_more state l x = flat_map-append (λ y. option_to_list (spec_of state y)) l (x ∷ []) ∙ ap (λ m. children (record { state = state; list = l }) ++ m) (append-nil (option_to_list (spec_of state x)))

-- clones of one list and then of another
pub AreClones-append : {R : Type 0} (is_clone : R → R → Type 0) (specs clones more others : List (Spec R)) → AreClones is_clone specs clones → AreClones is_clone more others → AreClones is_clone (specs ++ more) (clones ++ others)
AreClones-append is_clone [] [] more others h k = k
AreClones-append is_clone [] (c ∷ clones) more others h k = absurd h
AreClones-append is_clone (s ∷ specs) [] more others h k = absurd h
AreClones-append is_clone (s ∷ specs) (c ∷ clones) more others h k = (h.0, AreClones-append is_clone specs clones more others h.1 k)
