-- What a closure makes of lists, and what is kept of that.
use Rattle.std.specs.Prelude.{◌≡◌, ◌==◌, ℕ, Bool, true, List, Option, Result, Ok, Err, OnOk, map}
use Rattle.std.specs.List.{filter}
use Rattle.std.specs.declared.alloc.AllocError.{AllocError}
use Rattle.jwalk_model.specs.Entry.{Item, AtDepth}
use Rattle.jwalk_model.specs.ReadDir.{list_depth}
use Rattle.jwalk_job.specs.Given.{Given, IsProcessed}
use Rattle.jwalk_callbacks.specs.declared.calls.Closure.{Closure}
use Rattle.jwalk_callbacks.specs.declared.by_fn.ByFn.{ByFn}

-- whether an item is an error or an entry at this depth
abbrev pub is_at : {R E : Type 0} → ℕ → Item R E → Bool
is_at depth (Ok e) = e.depth == depth
is_at depth (Err f) = true

-- The errors and the entries at a depth are kept of a list that was left: all of it, if every entry is at that depth.
pub record Keeps {R E X : Type 0} (item : X → Item R E) (depth : ℕ) (left kept : List X) : Type 0 where
  pub at_depth : kept ≡ filter (λ x. is_at depth (item x)) left
  pub all : AtDepth depth (map item left) → kept ≡ left

-- A call makes of every list what is given, unless memory runs out.
abbrev pub MakesBy : {R E L : Type 0} → (L → List (Item R E)) → (Option ℕ → List ℕ → R → L → Result (Unit {0}) AllocError → R → L → Type 0) → Given R E → Type 0
MakesBy {R} {E} {L} items gives given =
    (depth : Option ℕ) (path : List ℕ) (state state' : R) (list list' : L) (answer : Result (Unit {0}) AllocError)
    → AtDepth (list_depth depth) (items list) → gives depth path state list answer state' list'
    → OnOk answer (IsProcessed given depth path state (items list) state' (items list'))

-- what a callback of this kind calls
abbrev pub call_of : {K : Type 0} → ByFn K → K
call_of it = it.call

-- the closure that it calls
abbrev pub closure_of : {F : Type 0} → ByFn (Closure F) → F
closure_of it = it.call.f
