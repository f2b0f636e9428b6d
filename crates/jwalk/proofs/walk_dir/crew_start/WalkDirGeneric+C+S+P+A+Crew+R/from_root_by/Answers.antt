use Rattle.std.proofs.Common.{option_map, inl, inr, refl, ap, ◌∙◌, arith}
use Rattle.jwalk_model.specs.Entry.{AtDepth}
use Rattle.jwalk_job.specs.Options as options
use Rattle.jwalk_job.specs.ReadDir.{reading}
use Rattle.jwalk_job.specs.Job.{options_of}
use Rattle.jwalk.proofs.CrewStartFacts.{reads_alone, refused_from_root, by_from_root, if_some_map}
use Rattle.jwalk_iter.specs.DirEntryIter.{reads_of}
use Rattle.jwalk_iter.proofs.StartFacts.{alone_steady}
use Rattle.jwalk.proofs.walk_dir.crew_start.WalkDirGeneric+C+S+P+A+Crew+R.from_root_by.Goals as goal

pub returns-in_default-clause-from_root : goal.returns-in_default-clause-from_root
returns-in_default-clause-from_root g c =
    let is = c.refused.ensures in
    refused_from_root g.C.ReadDirState.Clone (option_map reading c.args.read) c.args.job c.refused.result is.own is.job is.refused is.items is.unread is.width is.ahead

pub returns-in-Ok-clause-from_root : goal.returns-in-Ok-clause-from_root
returns-in-Ok-clause-from_root g c =
    let is = c.with_reads.ensures in
    by_from_root g.C.ReadDirState.Clone (option_map reading c.args.read) c.args.job c.with_reads.result.walk c.with_reads.result.why_not c.requires.mode (if_some_map reading (λ r. AtDepth 0 r.list) c.args.read c.requires.depth) is.by (is.job ∙ c.in-Ok.ensures.made.0) (rw c.in-Some.is is.begun)

pub returns-in-Err-clause-from_root : goal.returns-in-Err-clause-from_root
returns-in-Err-clause-from_root g c =
    let is = c.refused-in-Err.ensures in
    let same = c.in-Err.ensures.made in
    refused_from_root g.C.ReadDirState.Clone (option_map reading c.args.read) c.args.job c.refused-in-Err.result is.own (is.job ∙ same) is.refused is.items is.unread (is.width ∙ ap (λ j. options.width_of (options_of j).parallelism) same) is.ahead

pub returns-in_default-clause-by : goal.returns-in_default-clause-by
returns-in_default-clause-by g c = inl refl

pub returns-in-Ok-clause-by : goal.returns-in-Ok-clause-by
returns-in-Ok-clause-by g c = inr c.with_reads.ensures.by

pub returns-in-Err-clause-by : goal.returns-in-Err-clause-by
returns-in-Err-clause-by g c = inl refl

pub returns-in_default-clause-most : goal.returns-in_default-clause-most
returns-in_default-clause-most g c = rw (reads_alone (reads_of c.refused.result) c.refused.ensures.own).1 (omega arith)

pub returns-in-Ok-clause-most : goal.returns-in-Ok-clause-most
returns-in-Ok-clause-most g c = omega (arith, c.with_reads.ensures.most, c.in-Ok.ensures.most)

pub returns-in-Err-clause-most : goal.returns-in-Err-clause-most
returns-in-Err-clause-most g c = rw (reads_alone (reads_of c.refused-in-Err.result) c.refused-in-Err.ensures.own).1 (omega arith)

pub returns-in_default-clause-steady : goal.returns-in_default-clause-steady
returns-in_default-clause-steady g c = λ given steady. alone_steady g.S.FileSystem g.P.ProcessReadDir g.C.ReadDirState.Clone g.C.DirEntryState.Default _ c.refused.result given c.refused.ensures.own steady c.refused.ensures.ahead.done

pub returns-in-Err-clause-steady : goal.returns-in-Err-clause-steady
returns-in-Err-clause-steady g c = λ given steady. alone_steady g.S.FileSystem g.P.ProcessReadDir g.C.ReadDirState.Clone g.C.DirEntryState.Default _ c.refused-in-Err.result given c.refused-in-Err.ensures.own steady c.refused-in-Err.ensures.ahead.done
