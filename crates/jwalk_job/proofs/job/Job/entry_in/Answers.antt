use Rattle.std.proofs.Common.{◌∙◌, ap, rules}
use Rattle.jwalk_job.specs.Ancestors.{texts}
use Rattle.jwalk_job.proofs.job.Job.entry_in.Goals as goal

pub returns-clause-value : goal.returns-clause-value
returns-clause-value g c = λ given default inside.
    let above = c.in_ok-ancestors.ensures ∙ ap texts c.ancestors.ensures ∙ inside.ancestors in
    let within = inside.within in
    search (rules, above, within)
