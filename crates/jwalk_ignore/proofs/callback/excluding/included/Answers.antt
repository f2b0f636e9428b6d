use Rattle.std.proofs.Common.{refl}
use Rattle.jwalk_ignore.specs.Callback.Excluding.{excluded_of, is_included}
use Rattle.jwalk_ignore.proofs.callback.excluding.included.Goals as goal

pub returns : goal.returns
returns g c = c.kept.ensures (is_included (excluded_of c.args.excluding.now) c.args.place.items) refl
