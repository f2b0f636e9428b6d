use Rattle.std.proofs.Common.{◌∙◌, map, sym}
use Rattle.jwalk_job.specs.ReadDirSpec.{spec}
use Rattle.jwalk_readings.proofs.CrewSteadyFacts.{starts_steady}
use Rattle.jwalk_readings.proofs.RestFacts.{alone_steady}
use Rattle.jwalk_readings.proofs.ResultFacts.{ok_none}
use Rattle.jwalk_readings.proofs.read_dir_iter.over_crew.ReadDirIter+C+S+P+A+Session+R+C+S+P+A.try_with_crew.Goals as goal

pub returns-in-Ok-clause-most : goal.returns-in-Ok-clause-most
returns-in-Ok-clause-most g c = rw (sym c.into_crew.ensures, c.in-Some.is) c.in-Ok.ensures.most

pub returns-clause-most : goal.returns-clause-most
returns-clause-most g c = ok_none _ _ c.alone.result (sym c.into_crew.ensures ∙ c.in-None.is)

pub returns-in-Ok-clause-steady : goal.returns-in-Ok-clause-steady
returns-in-Ok-clause-steady g c = starts_steady g.S.FileSystem g.P.ProcessReadDir g.C.ReadDirState.Clone g.C.DirEntryState.Default _ c.in-Ok.reads c.in-Ok.ensures.begins

pub returns-clause-steady : goal.returns-clause-steady
returns-clause-steady g c = alone_steady g.S.FileSystem g.P.ProcessReadDir g.C.ReadDirState.Clone g.C.DirEntryState.Default _ (map spec c.args.roots.items) c.alone.result c.alone.ensures.own c.alone.ensures.read_ahead
