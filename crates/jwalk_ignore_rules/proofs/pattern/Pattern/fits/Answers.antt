use Rattle.jwalk_ignore_rules.specs.Pattern.Glob.{glob_value, IsNamed}
use Rattle.jwalk_ignore_rules.specs.Pattern.Names.{names_of}
use Rattle.jwalk_ignore_rules.proofs.FitsFacts.{by_value}
use Rattle.jwalk_ignore_rules.proofs.pattern.Pattern.fits.Goals as goal

pub returns : goal.returns
returns g c = by_value glob_value IsNamed c.deref.result.now c.args.self.now.parts.items (names_of c.args.path.now) c.deref.ensures.value c.fits.ensures
