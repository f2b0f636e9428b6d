-- The subtotals of a walk, taken one after another.
use Rattle.std.specs.Prelude.{◌≡◌, ℕ, Bool, false, not, List, flat_map, Option, None, Result, Ok, Err, is_some, option_and_then}
use Rattle.std.specs.List.{list_all, list_any}
use Rattle.std.specs.Iterator.{YieldsThen}
use Rattle.jwalk_subtotals.specs.Coming.{ends_with, value}
use Rattle.jwalk_subtotals.specs.Subtotals.{Yielded}
use Rattle.jwalk_subtotals.specs.declared.error.SubtotalError.{SubtotalError}
use Rattle.jwalk_subtotals.specs.declared.stack.WithSubtotal.{WithSubtotal}
use Rattle.tally_run.specs.Results.{rows_of, Takes}
use Rattle.tally_run.specs.declared.results.Results.{Results}
use Rattle.tally_run.specs.declared.shown.Shown.{Shown}

-- whether what is yielded is no error, and that of an entry whose directory was read if it was to be
abbrev pub is_clean : {R E : Type 0} → Yielded R E → Bool
is_clean (Ok (e, t)) = not (is_some (option_and_then (λ children. children.error) e.read_children))
is_clean (Err f) = false

-- Calls from one state to another yielded something and then `None`. None of it is an error behind which nothing comes, what is written of it below a root is taken, and it is known whether all of it is clean.
pub record TakesAll {S C A R E : Type 0} (next : S → Option (Result (WithSubtotal C A R E) (SubtotalError A)) → S → Type 0) (root : List ℕ) (shown : Shown) (start end : S) (old : Results) (before : Option (List ℕ)) (new : Results) (after : Option (List ℕ)) (clean : Bool) : Type 0 where
  pub yielded : List (Result (WithSubtotal C A R E) (SubtotalError A))
  pub calls : YieldsThen next start yielded None end
  pub goes_on : list_any ends_with yielded ≡ false
  pub tells : clean ≡ list_all is_clean (flat_map value yielded)
  pub taken : Takes (rows_of root shown (flat_map value yielded)) old before new after
