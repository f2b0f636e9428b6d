use Rattle.std.proofs.Common.{◌≡◌, drop}
use Rattle.jwalk_subtotals.specs.Subtotal.{plus}
use Rattle.jwalk_subtotals.proofs.OpenFacts.{sum_open}
use Rattle.jwalk_subtotals.proofs.stack.Stack.total.Given as goal

abbrev pub invariant-loop-open : goal.invariant-loop-open
invariant-loop-open g l = plus l.total (sum_open (drop l.open-index l.open-items)) ≡ sum_open l.fn.self.open.items
