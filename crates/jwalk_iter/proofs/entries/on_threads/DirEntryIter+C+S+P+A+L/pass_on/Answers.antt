use Rattle.jwalk_iter.proofs.PreparedPassFacts.{prepared_passes, unprepared_passes}
use Rattle.jwalk_iter.proofs.entries.on_threads.DirEntryIter+C+S+P+A+L.pass_on.Goals as goal

pub returns : goal.returns
returns g c = prepared_passes _ c.args.self.now c.prepare_on.new.self c.pass.new.self tt c.pass.result c.in_ok-prepare_on.ensures.steps c.pass.ensures

pub returns-in_err-prepare_on : goal.returns-in_err-prepare_on
returns-in_err-prepare_on g c =
    let told = c.from_residual in
    unprepared_passes _ c.args.self.now c.prepare_on.new.self _ told.result told.ensures.0 told.ensures.1 c.in_err-prepare_on.ensures.steps
