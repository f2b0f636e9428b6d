use Rattle.std.proofs.Common.{map}
use Rattle.std.proofs.lemmas.Result.{on_ok_weaker}
use Rattle.jwalk_job.specs.Entry.{item}
use Rattle.jwalk_job.proofs.GivenFacts.{adds_more}
use Rattle.jwalk_callbacks.proofs.both.BothProcessReadDir.process.Goals as goal

pub returns-clause-root : goal.returns-clause-root
returns-clause-root g c = λ keeps at.
    on_ok_weaker c.process-2.result (adds_more (map item c.args.list.now.items) (map item c.process.new.list.items) (map item c.process-2.new.list.items) (c.in_ok-process.ensures.root keeps.0 at)) (c.process-2.ensures.root keeps.1 at)
