-- Subtotals of a walk without states.
use Rattle.std.specs.Prelude.{List, Result, flat_map, map}
use Rattle.jwalk.specs.jwalk_model.Counted.{Worth, blank}
use Rattle.jwalk_subtotals.specs.Coming.{value}
use Rattle.jwalk_subtotals.specs.Subtotals.{Yielded, yielded_by}
use Rattle.jwalk_subtotals.specs.declared.error.SubtotalError.{SubtotalError}
use Rattle.jwalk_subtotals.specs.declared.stack.WithSubtotal.{WithSubtotal}

-- what is yielded of subtotals, by value
abbrev pub by_value : {C A R E : Type 0} → List (Result (WithSubtotal C A R E) (SubtotalError A)) → List (Yielded Worth Worth)
by_value all = map (yielded_by (λ state. blank) (λ state. blank)) (flat_map value all)
