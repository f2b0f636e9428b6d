use Rattle.std.proofs.Common.{inr, map, string_bytes}
use Rattle.std.specs.Prelude.{codes}
use Rattle.program_parts.specs.Errors.{IsTold}
use Rattle.since_run.proofs.RunFacts.{run_ends, run_low}
use Rattle.since_run.proofs.run.Since.run.Goals as goal

pub returns-in-Ok-clause-status : goal.returns-in-Ok-clause-status
returns-in-Ok-clause-status g c =
    run_low _ g.K.Store c.args.self c.in-Ok.asked _ _ c.args.store.now c.run_asked-ended.new.store
    c.run_asked-ended.result c.status_of.result c.run_asked-ended.ensures.tells c.status_of.ensures.ok c.status_of.ensures.failed

pub returns-in-Ok-clause-ends : goal.returns-in-Ok-clause-ends
returns-in-Ok-clause-ends g c =
    inr (run_ends _ g.K.Store c.args.self c.in-Ok.asked _ _ c.args.store.now c.run_asked-ended.new.store
    c.run_asked-ended.result (map string_bytes c.args.words.now) c.status_of.result (IsTold g.E.Write.contents (codes "since") c.status_of.new.err)
    c.run_asked-ended.ensures.tells c.in-Ok.ensures.asked c.status_of.ensures.ok c.status_of.ensures.failed c.run_asked-ended.ensures.kept c.status_of.ensures.told)
