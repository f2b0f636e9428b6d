use Rattle.std.proofs.Common.{◌≤◌, length, ℕ, drop}
use Rattle.jwalk_ignore_rules.specs.Pattern.Fits.{Fits}
use Rattle.jwalk_ignore_rules.proofs.pattern.search.take_front.Given as goal

-- what is left decides whether all fits, also where the text begins later
abbrev pub invariant-loop-part : goal.invariant-loop-part
invariant-loop-part g l = record {
  enough : Fits g.T.ItemTest.takes l.rest (g.T.ItemTest.items l.left) → Fits g.T.ItemTest.takes l.fn.parts (g.T.ItemTest.items l.fn.text);
  later : (n : ℕ) → Fits g.T.ItemTest.takes l.fn.parts (drop n (g.T.ItemTest.items l.fn.text)) → Fits g.T.ItemTest.takes l.rest (drop n (g.T.ItemTest.items l.left));
  shorter : length l.rest ≤ length l.fn.parts;
}

abbrev pub decreases-loop-part : goal.decreases-loop-part
decreases-loop-part g l = length l.rest
