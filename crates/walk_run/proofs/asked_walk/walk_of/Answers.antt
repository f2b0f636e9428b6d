use Rattle.std.proofs.Common.{◌∙◌, ap, subst, sym}
use Rattle.jwalk_model.specs.Options.{Parallelism, with_parallelism}
use Rattle.jwalk_job.specs.Options.{options_value}
use Rattle.walk_run.specs.AskedWalk.{IsReadBy}
use Rattle.walk_run.proofs.asked_walk.walk_of.Goals as goal

pub returns-clause-options : goal.returns-clause-options
returns-clause-options g c =
    let options = options_value c.options_of.result in
    c.parallelism.ensures.options
    ∙ ap (with_parallelism _) c.with_options.ensures.options
    ∙ ap (λ (p : Parallelism). with_parallelism p options) c.in_ok-parallelism.ensures.value
    ∙ c.options_of.ensures

pub returns-clause-crew : goal.returns-clause-crew
returns-clause-crew g c = subst (IsReadBy c.args.asked.read_by) (sym c.parallelism.ensures.crew) c.in_ok-parallelism.ensures.crew
