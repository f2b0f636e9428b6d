use Rattle.std.proofs.Common.{◌≡◌, ◌∙◌, ap, sym}
use Rattle.jwalk_job.specs.Ancestors.{texts}
use Rattle.jwalk_job.specs.Entry.{entry}
use Rattle.jwalk_job.specs.Inside.{IsAsked}
use Rattle.jwalk_job.proofs.job.Job.root_target.Goals as goal

pub returns-in-Ok-clause-value : goal.returns-in-Ok-clause-value
returns-in-Ok-clause-value g c = λ given fixed default.
    let inside = c.new-inside.result in
    let asked : IsAsked (g.S.FileSystem.functions c.args.self.now.fs) inside = rw c.new-inside.ensures.identities tt in
    let above : (entry c.args.found).ancestors ≡ texts inside.ancestors = sym (ap texts c.new-inside.ensures.ancestors ∙ c.in_ok-share.ensures ∙ c.ancestors.ensures) in
    let followed = rw (c.in-Ok.is, c.new-inside.ensures.within) at (c.in_ok-found.ensures.value given fixed default asked above) in
    rw (← followed) (c.with_target.ensures.value given fixed)
