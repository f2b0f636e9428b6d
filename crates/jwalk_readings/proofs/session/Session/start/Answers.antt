use Rattle.jwalk_readings.proofs.AtJob.{alike_at}
use Rattle.jwalk_readings.proofs.session.Session.start.Goals as goal

pub start-requires-clause-alike : goal.start-requires-clause-alike
start-requires-clause-alike g c κs within = alike_at g.S.FileSystem g.P.ProcessReadDir g.C.ReadDirState.Clone g.C.DirEntryState.Default c.args.origin.now.plan c.args.roots.items c.args.origin.now.roots c.requires.alike
