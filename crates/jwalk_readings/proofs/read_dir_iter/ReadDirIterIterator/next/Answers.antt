use Rattle.std.proofs.Common.{◌<◌, IfSome, rules, ap}
use Rattle.std.specs.Prelude.{option_map}
use Rattle.jwalk_model.specs.Held.{spec_weight}
use Rattle.jwalk_job.specs.ReadDir.{outcome}
use Rattle.jwalk_job.specs.Job.{callback, greatest_depth}
use Rattle.jwalk_readings.specs.Gives.{source_of, Known}
use Rattle.jwalk_readings.specs.ReadDirIter.{readings_by, job_of, to_read}
use Rattle.jwalk_readings.proofs.ResultFacts.{goes_on}
use Rattle.jwalk_readings.proofs.GivesFacts.{gives_fewer, some_of}
use Rattle.jwalk_readings.proofs.read_dir_iter.ReadDirIterIterator.next.Goals as goal

pub returns-clause-goes : goal.returns-clause-goes
returns-clause-goes g c =
    let old = c.args.self.now in
    let new = c.next_or_stop.new.self in
    let gives = c.next_or_stop.ensures in
    let lawful : g.P.ProcessReadDir.IsLawful (callback (job_of new)) = rw (ap (λ b. b.job) gives.base) c.requires in
    let fewer : IfSome c.next_or_stop.result (λ _. spec_weight (greatest_depth (job_of new)) (to_read new) < spec_weight (greatest_depth (job_of old)) (to_read old))
    = rw (ap (λ b. b.job) gives.base) (some_of _ outcome c.next_or_stop.result (gives_fewer (source_of (readings_by g.S.FileSystem g.P.ProcessReadDir g.C.ReadDirState.Clone g.C.DirEntryState.Default g.L.Readers) old) (Known (readings_by g.S.FileSystem g.P.ProcessReadDir g.C.ReadDirState.Clone g.C.DirEntryState.Default g.L.Readers) old) (to_read old) (to_read new) (option_map outcome c.next_or_stop.result) gives.first)) in
    record {
      on = λ f. goes_on c.next_or_stop.result _ lawful fewer;
      keeps = search rules;
      rests = λ f. search rules;
    }
