use Rattle.std.proofs.Common.{◌↔◌, ◌∷◌, length}
use Rattle.jwalk_ignore_rules.specs.declared.pattern.part.Part.TheVariants.{Many}
use Rattle.jwalk_ignore_rules.specs.Pattern.Fits.{Fits}
use Rattle.jwalk_ignore_rules.proofs.pattern.search.take_behind_star.Given as goal

-- what fits behind the star does so from here on
abbrev pub invariant-places : goal.invariant-places
invariant-places g l =
    Fits g.T.ItemTest.takes (Many ∷ l.parts) (g.T.ItemTest.items l.fn.text) ↔ Fits g.T.ItemTest.takes (Many ∷ l.parts) (g.T.ItemTest.items l.from)

abbrev pub decreases-places : goal.decreases-places
decreases-places g l = length l.from
