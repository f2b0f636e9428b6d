use Rattle.std.proofs.Common.{◌≡◌, ◌∙◌, ap, length, option_map}
use Rattle.jwalk_model.specs.Options.{Options}
use Rattle.jwalk_model.specs.Listing.{paired}
use Rattle.jwalk_model.specs.Counted.{Worth}
use Rattle.jwalk_model.specs.Job as value
use Rattle.jwalk_job.specs.ReadDir.{reading}
use Rattle.jwalk_job.specs.Options.{width_of}
use Rattle.jwalk_job.specs.Given.{IsOfRoot, counted_reading}
use Rattle.jwalk_job.specs.Job.{file_system, callback, options_of, job_by, IsSteady}
use Rattle.jwalk_iter.specs.DirEntryIter.{held_by}
use Rattle.jwalk.specs.WalkDir.{job_for, file_system_of, root_of, state_of}
use Rattle.jwalk.proofs.BeginFacts.{held_view, by_flag, either}
use Rattle.jwalk.proofs.BeginsFacts.{if_some_view}
use Rattle.jwalk.proofs.CrewStartFacts.{held_count, list_of, root_held}
use Rattle.jwalk.proofs.walk_dir.WalkDirGeneric+C+S+P+A+NoCrew.begin.Goals as goal

pub returns-clause-starts : goal.returns-clause-starts
returns-clause-starts g c =
    let jobs = c.new-job.ensures in
    record {
      file_system = ap file_system c.from_root.ensures.job ∙ jobs.file_system;
      callback = ap callback c.from_root.ensures.job ∙ jobs.callback;
      options = ap options_of c.from_root.ensures.job ∙ jobs.options;
      within = c.from_root.ensures.within;
      sourced = c.from_root.ensures.sourced;
      placed = c.from_root.ensures.placed;
      start = by_flag c.from_root.result.refused c.from_root.ensures.refused c.from_root.ensures.depth;
      width = c.from_root.ensures.width ∙ ap (λ o. width_of o.parallelism) jobs.options;
      ahead = λ alone. c.from_root.ensures.ahead;
    }

pub returns-clause-holds : goal.returns-clause-holds
returns-clause-holds g c = λ started given steady.
    let walk = c.args.self in
    let made = c.new-job.result in
    let jobs = c.new-job.ensures in
    let over : g.row.S.Denot → Options → value.Job Worth Worth = λ fs options. record { fs = g.S.FileSystem.functions fs; options = options; processed = given.processed; default = given.new_entry } in
    let same : job_by g.S.FileSystem given made ≡ job_for g.S.FileSystem given walk
    = ap (λ fs. over fs (options_of made)) jobs.file_system ∙ ap (over (file_system_of walk)) jobs.options in
    let steady_here : IsSteady g.S.FileSystem g.P.ProcessReadDir g.C.ReadDirState.Clone g.C.DirEntryState.Default (file_system made) (callback made) given = rw (jobs.file_system, jobs.callback) steady in
    let rooted : value.root_list (job_by g.S.FileSystem given made) c.as_str.result.now (given.read_dir_state walk.root_read_dir_state) ≡ value.root_list (job_for g.S.FileSystem given walk) (root_of walk) (given.read_dir_state (state_of walk))
    = ap (λ k. value.root_list k c.as_str.result.now (given.read_dir_state walk.root_read_dir_state)) same
    ∙ ap (λ p. value.root_list (job_for g.S.FileSystem given walk) p (given.read_dir_state walk.root_read_dir_state)) c.as_str.ensures.value in
    held_view (λ r. counted_reading given (reading r)) (value.root_list (job_by g.S.FileSystem given made) c.as_str.result.now (given.read_dir_state walk.root_read_dir_state)) (held_by given c.from_root.result) c.root_list-read.result c.ok.result c.ok.ensures.value (c.from_root.ensures.held given steady.clones started) (c.root_list-read.ensures.value given steady_here)
    ∙ ap paired rooted

pub returns-clause-one : goal.returns-clause-one
returns-clause-one g c = λ given makes keeps.
    let made = c.root_list-read.ensures.one given (rw c.new-job.ensures.callback makes) keeps in
    let one = if_some_view reading (λ r. length r.list ≡ 1) c.root_list-read.result c.ok.result c.ok.ensures.value made in
    either c.from_root.result.refused
    (λ refused. ap length (c.from_root.ensures.refused refused).tells)
    (λ started. held_count (option_map reading c.ok.result) c.from_root.result started (list_of c.ok.result c.from_root.result (c.from_root.ensures.list started)) one)

pub returns-clause-root : goal.returns-clause-root
returns-clause-root g c = λ keeps.
    let made = if_some_view reading (λ r. IsOfRoot r.list) c.root_list-read.result c.ok.result c.ok.ensures.value (c.root_list-read.ensures.root (rw c.new-job.ensures.callback keeps)) in
    by_flag c.from_root.result.refused c.from_root.ensures.refused
    (λ started. root_held (option_map reading c.ok.result) c.from_root.result (list_of c.ok.result c.from_root.result (c.from_root.ensures.list started)) made)
