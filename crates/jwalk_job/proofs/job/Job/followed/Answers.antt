use Rattle.std.proofs.Common.{sym, ◌∙◌}
use Rattle.jwalk_job.proofs.job.Job.followed.Goals as goal

pub returns-then-gives_way-clause-value : goal.returns-then-gives_way-clause-value
returns-then-gives_way-clause-value g c = λ given fixed default. rw (sym c.gives_way.ensures ∙ c.if-gives_way.true) (c.follow_link.ensures.value given fixed default)
