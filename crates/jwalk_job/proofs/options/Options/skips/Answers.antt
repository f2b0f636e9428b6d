use Rattle.std.proofs.Common.{refl}
use Rattle.jwalk_job.proofs.options.Options.skips.Goals as goal

pub returns-then-self : goal.returns-then-self
returns-then-self c = rw c.if-self.true c.is_hidden.ensures

pub returns-else-self : goal.returns-else-self
returns-else-self c = rw c.if-self.false refl
