use Rattle.jwalk_ignore_rules.specs.Pattern.ByteTest.{test_value}
use Rattle.jwalk_ignore_rules.specs.Pattern.Glob.{TakesByte}
use Rattle.jwalk_ignore_rules.proofs.FitsFacts.{by_value}
use Rattle.jwalk_ignore_rules.proofs.pattern.glob.Glob.fits.Goals as goal

pub returns : goal.returns
returns g c = by_value test_value TakesByte c.deref.result.now c.args.self.now.parts.items c.args.name.now c.deref.ensures.value c.fits.ensures
