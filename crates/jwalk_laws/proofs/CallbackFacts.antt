-- All lists are emptied but the root's.
use Rattle.std.proofs.Common.{◌≡◌, ℕ, List, Option, Some, None, Result, Ok, Err, map, ap, sym}
use Rattle.std.specs.Prelude.{OnOk}
use Rattle.jwalk.specs.jwalk_model.Entry.{Item}
use Rattle.jwalk.specs.jwalk_model.Counted.{blank}
use Rattle.jwalk.specs.jwalk_model.ReadDir.{Reading}
use Rattle.jwalk.specs.jwalk_job.Given.{counted_item, IsProcessed}
use Rattle.jwalk_laws.specs.Callbacks.{emptied, root_alone}

-- such a list is what is given, where states count as nothing
pub made_empty : {R E F : Type 0} (depth : Option ℕ) (path : List ℕ) (answer : Result (Unit {0}) F) (state state' : R) (old new : List (Item R E)) → new ≡ emptied depth old → OnOk answer (IsProcessed root_alone depth path state old state' new)
made_empty None path (Ok done) state state' old new is = ap (λ l. record { state = blank; list = map (counted_item root_alone) l }) (sym is)
made_empty (Some depth) path (Ok done) state state' old new is = ap (λ l. record { state = blank; list = map (counted_item root_alone) l }) (sym is)
made_empty depth path (Err refused) state state' old new is = tt

-- where a reading is known, its list is
pub list_made : {R E F : Type 0} (made : Reading R E) (state : R) (list : List (Item R E)) (answer : Result (Unit {0}) F) → OnOk answer (made ≡ record { state = state; list = list }) → OnOk answer (list ≡ made.list)
list_made made state list (Ok done) is = sym (ap (λ r. r.list) is)
list_made made state list (Err refused) is = tt
