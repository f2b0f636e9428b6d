use Rattle.std.proofs.Common.{◌↔◌, length}
use Rattle.jwalk_ignore_rules.specs.Pattern.Fits.{Fits}
use Rattle.jwalk_ignore_rules.proofs.pattern.search.take_back.Given as goal

-- all fits exactly if what is left does
abbrev pub invariant-loop-part : goal.invariant-loop-part
invariant-loop-part g l =
    Fits g.T.ItemTest.takes l.fn.parts (g.T.ItemTest.items l.fn.text) ↔ Fits g.T.ItemTest.takes l.rest (g.T.ItemTest.items l.left)

abbrev pub decreases-loop-part : goal.decreases-loop-part
decreases-loop-part g l = length l.rest
