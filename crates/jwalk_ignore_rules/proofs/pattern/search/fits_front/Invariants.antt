use Rattle.jwalk_ignore_rules.specs.Pattern.Fits.{Fits}
use Rattle.jwalk_ignore_rules.specs.Pattern.Taken.{Decides, left_over}
use Rattle.jwalk_ignore_rules.proofs.pattern.search.fits_front.Given as goal

-- what was taken decides whether the text fits
abbrev pub invariant-loop-taken : goal.invariant-loop-taken
invariant-loop-taken g l = Decides g.T.ItemTest.takes g.T.ItemTest.items l.taken (Fits g.T.ItemTest.takes l.parts (g.T.ItemTest.items l.text))

abbrev pub decreases-loop-taken : goal.decreases-loop-taken
decreases-loop-taken g l = left_over l.taken
