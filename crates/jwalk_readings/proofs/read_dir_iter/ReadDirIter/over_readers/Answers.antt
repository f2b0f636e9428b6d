use Rattle.std.proofs.Common.{◌∙◌, map, sym, ap}
use Rattle.std.proofs.lemmas.List.{length-map}
use Rattle.std.specs.Arc.{arc_value}
use Rattle.jwalk_order.specs.Frontier.{roots}
use Rattle.jwalk_job.specs.ReadDirSpec.{spec}
use Rattle.jwalk_readings.proofs.CrewSteadyFacts.{begins_by, starts_steady}
use Rattle.jwalk_readings.proofs.read_dir_iter.ReadDirIter.over_readers.Goals as goal

pub returns-in-Ok-clause-steady : goal.returns-in-Ok-clause-steady
returns-in-Ok-clause-steady g c = λ comes.
    let made = c.in-Ok.ensures in
    starts_steady g.S.FileSystem g.P.ProcessReadDir g.C.ReadDirState.Clone g.C.DirEntryState.Default g.L.Readers c.in-Ok.reads (begins_by g.S.FileSystem g.P.ProcessReadDir g.C.ReadDirState.Clone g.C.DirEntryState.Default g.L.Readers c.in-Ok.reads c.args.readers (arc_value c.args.job) (map spec c.args.roots.items) made.begins made.job made.to_read (comes.0, comes.1 ∙ ap roots (sym (length-map c.args.roots.items spec))))
