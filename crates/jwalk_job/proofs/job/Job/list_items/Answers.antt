use Rattle.std.proofs.Common.{[], ap, subst, sym, ◌∙◌, string_bytes}
use Rattle.jwalk_job.specs.Given.{counted_list, counted_spec}
use Rattle.jwalk_job.specs.Inside.{IsInside}
use Rattle.jwalk_job.specs.Job.{job_by}
use Rattle.jwalk_job.specs.ReadDirSpec.{spec}
use Rattle.jwalk_job.proofs.GatheredFacts.{gathered_none, gathered_depth, gathered_value}
use Rattle.jwalk_job.proofs.job.Job.list_items.Goals as goal

pub returns-clause-depth : goal.returns-clause-depth
returns-clause-depth g c =
    let begun = c.new-gathering.result in
    let taken = c.in_ok-read_dir_into.ensures.taken in
    let all = taken.1 begun [] (gathered_none g.S.FileSystem g.C.DirEntryState.Default begun) in
    rw c.into_items.ensures (gathered_depth g.S.FileSystem g.C.DirEntryState.Default c.args.of.now begun _ taken.0 c.new-gathering.ensures.of c.new-gathering.ensures.items all)

pub returns-clause-listed : goal.returns-clause-listed
returns-clause-listed g c =
    let begun = c.new-gathering.result in
    let taken = c.in_ok-read_dir_into.ensures.taken in
    let place = c.as_str.ensures.value ∙ ap string_bytes c.deref.ensures in
    let all = taken.1 begun [] (gathered_none g.S.FileSystem g.C.DirEntryState.Default begun) in (
      taken.0,
      subst (λ p. g.S.FileSystem.read_dir_gives c.args.self.now.fs p taken.0) place taken.3,
      λ fixed. ap (g.S.FileSystem.functions c.args.self.now.fs).list_of (sym place) ∙ taken.2 fixed,
      λ given known default. ap (λ v. counted_list given v.items) c.into_items.ensures
          ∙ gathered_value g.S.FileSystem g.C.DirEntryState.Default c.args.self.now c.args.of.now begun _ taken.0 c.new-gathering.ensures.job c.new-gathering.ensures.of c.new-gathering.ensures.items
          (λ given known default. subst (IsInside (job_by g.S.FileSystem given c.args.self.now) (counted_spec given (spec c.args.of.now))) (sym c.new-gathering.ensures.inside) (c.in_ok-inside.ensures given known default))
          all given known default,
    )
