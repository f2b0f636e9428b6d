use Rattle.std.proofs.Common.{◌∙◌, sym, ap, subst}
use Rattle.jwalk_job.specs.ReadDir.{reading}
use Rattle.jwalk_readings.specs.ReadDirIter as readings
use Rattle.jwalk_readings.specs.CrewReads as reads_by
use Rattle.jwalk_readings.specs.ReadDirIter.{base_of}
use Rattle.jwalk_iter.specs.DirEntryIter.{reads_of}
use Rattle.jwalk.specs.CrewStart.{IsToRead}
use Rattle.jwalk.proofs.CrewStartFacts.{left_placed, left_to_read, left_most, left_steady}
use Rattle.jwalk.proofs.walk_dir.crew_start.WalkDirGeneric+C+S+P+A+Crew+R.with_reads.Goals as goal

pub returns : goal.returns
returns g c =
    let old = c.args.reads in
    let new = c.start_reads.new.reads in
    let started = c.start_reads.ensures in
    let is = c.after_start.ensures in
    let read = reading c.args.read in
    let left =
    subst (IsToRead g.C.ReadDirState.Clone read c.err-why_not.result) (sym (ap readings.to_read is.reads))
    (subst (λ w. IsToRead g.C.ReadDirState.Clone read w (reads_by.to_read new)) (sym c.err-why_not.ensures.value)
    (left_to_read old new g.C.ReadDirState.Clone read c.start_reads.result started.to_read started.unchanged c.requires.nothing)) in
    record {
      by = ap readings.by_crew is.reads;
      job = ap readings.job_of is.reads ∙ started.job;
      begun = (is.refused, is.items, left);
      most = rw is.reads (left_most old new _ _ c.start_reads.result started.most started.unchanged);
      steady = λ given steady. record {
        reads = subst (readings.StartsSteady g.S.FileSystem g.P.ProcessReadDir g.C.ReadDirState.Clone g.C.DirEntryState.Default _) (sym is.reads)
            (left_steady old new g.S.FileSystem g.P.ProcessReadDir g.C.ReadDirState.Clone g.C.DirEntryState.Default _ c.start_reads.result started.begins started.unchanged c.requires.steady) given steady;
        placed = left_placed g.S.FileSystem g.P.ProcessReadDir g.C.ReadDirState.Clone g.C.DirEntryState.Default (base_of (reads_of c.after_start.result)) read c.err-why_not.result _ _ is.items left;
      };
    }
