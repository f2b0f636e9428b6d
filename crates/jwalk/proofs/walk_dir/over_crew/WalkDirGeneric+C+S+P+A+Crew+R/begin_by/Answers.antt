use Rattle.std.proofs.Common.{◌≡◌, ◌∙◌, true, false, length, option_map}
use Rattle.std.specs.Arc.{arc_value}
use Rattle.tree_crew.specs.Crew.{limit_of}
use Rattle.jwalk_job.specs.ReadDir.{reading}
use Rattle.jwalk_job.specs.Given.{IsOfRoot}
use Rattle.jwalk.proofs.BeginsFacts.{if_some_view, within_limit, made_root, one_from_root, root_from_root, starts_from_root, begins_from_root}
use Rattle.jwalk.proofs.walk_dir.over_crew.WalkDirGeneric+C+S+P+A+Crew+R.begin_by.Goals as goal

pub returns-in-Some-clause-starts : goal.returns-in-Some-clause-starts
returns-in-Some-clause-starts g c =
    let jobs = c.new-job.ensures in
    starts_from_root g.S.FileSystem g.P.ProcessReadDir g.C.ReadDirState.Clone g.C.DirEntryState.Default c.args.self c.from_root_by.result.walk c.new-job.result jobs.file_system jobs.callback jobs.options (option_map reading c.ok-read.result) c.from_root_by.result.why_not c.from_root_by.ensures.from_root

pub returns-in-Some-clause-begins : goal.returns-in-Some-clause-begins
returns-in-Some-clause-begins g c =
    let jobs = c.new-job.ensures in
    begins_from_root g.S.FileSystem g.P.ProcessReadDir g.C.ReadDirState.Clone g.C.DirEntryState.Default c.args.self c.from_root_by.result.walk c.new-job.result jobs.file_system jobs.callback jobs.options (option_map reading c.ok-read.result) c.from_root_by.result.why_not c.from_root_by.ensures.from_root
    (made_root g.S.FileSystem g.P.ProcessReadDir g.C.ReadDirState.Clone g.C.DirEntryState.Default c.args.self c.from_root_by.result.walk c.new-job.result jobs.file_system jobs.callback jobs.options c.as_str.result.now c.as_str.ensures.value _ c.root_list.result c.ok-read.result c.ok-read.ensures.value c.root_list.ensures.value)
    (λ crew some. c.from_root_by.ensures.by)

pub returns-in-Some-clause-most : goal.returns-in-Some-clause-most
returns-in-Some-clause-most g c = rw c.in-Some.ensures.some.1 c.from_root_by.ensures.most

pub returns-clause-most : goal.returns-clause-most
returns-clause-most g c = within_limit _ (λ own. limit_of (arc_value own.0)) c.args.self.crew c.from_root_alone.ensures.most

pub returns-clause-starts : goal.returns-clause-starts
returns-clause-starts g c =
    let jobs = c.new-job.ensures in
    starts_from_root g.S.FileSystem g.P.ProcessReadDir g.C.ReadDirState.Clone g.C.DirEntryState.Default c.args.self c.from_root_alone.result.walk c.new-job.result jobs.file_system jobs.callback jobs.options (option_map reading c.ok-read.result) c.from_root_alone.result.why_not c.from_root_alone.ensures.from_root

pub returns-clause-begins : goal.returns-clause-begins
returns-clause-begins g c =
    let jobs = c.new-job.ensures in
    begins_from_root g.S.FileSystem g.P.ProcessReadDir g.C.ReadDirState.Clone g.C.DirEntryState.Default c.args.self c.from_root_alone.result.walk c.new-job.result jobs.file_system jobs.callback jobs.options (option_map reading c.ok-read.result) c.from_root_alone.result.why_not c.from_root_alone.ensures.from_root
    (made_root g.S.FileSystem g.P.ProcessReadDir g.C.ReadDirState.Clone g.C.DirEntryState.Default c.args.self c.from_root_alone.result.walk c.new-job.result jobs.file_system jobs.callback jobs.options c.as_str.result.now c.as_str.ensures.value _ c.root_list.result c.ok-read.result c.ok-read.ensures.value c.root_list.ensures.value)
    (λ crew some. absurd (let no : false ≡ true = rw (c.in-None.ensures.none (c.mode.ensures ∙ crew)) at some in cc))

pub returns-in-Some-clause-one : goal.returns-in-Some-clause-one
returns-in-Some-clause-one g c =
    let jobs = c.new-job.ensures in
    one_from_root g.S.FileSystem g.P.ProcessReadDir g.C.ReadDirState.Clone g.C.DirEntryState.Default c.args.self c.from_root_by.result.walk c.new-job.result jobs.file_system jobs.callback jobs.options (option_map reading c.ok-read.result) c.from_root_by.result.why_not c.from_root_by.ensures.from_root
    (λ given makes keeps. if_some_view reading (λ r. length r.list ≡ 1) c.root_list.result c.ok-read.result c.ok-read.ensures.value (c.root_list.ensures.one given makes keeps))

pub returns-clause-one : goal.returns-clause-one
returns-clause-one g c =
    let jobs = c.new-job.ensures in
    one_from_root g.S.FileSystem g.P.ProcessReadDir g.C.ReadDirState.Clone g.C.DirEntryState.Default c.args.self c.from_root_alone.result.walk c.new-job.result jobs.file_system jobs.callback jobs.options (option_map reading c.ok-read.result) c.from_root_alone.result.why_not c.from_root_alone.ensures.from_root
    (λ given makes keeps. if_some_view reading (λ r. length r.list ≡ 1) c.root_list.result c.ok-read.result c.ok-read.ensures.value (c.root_list.ensures.one given makes keeps))

pub returns-in-Some-clause-root : goal.returns-in-Some-clause-root
returns-in-Some-clause-root g c =
    let jobs = c.new-job.ensures in
    root_from_root g.S.FileSystem g.P.ProcessReadDir g.C.ReadDirState.Clone g.C.DirEntryState.Default c.args.self c.from_root_by.result.walk c.new-job.result jobs.file_system jobs.callback jobs.options (option_map reading c.ok-read.result) c.from_root_by.result.why_not c.from_root_by.ensures.from_root
    (λ keeps. if_some_view reading (λ r. IsOfRoot r.list) c.root_list.result c.ok-read.result c.ok-read.ensures.value (c.root_list.ensures.root keeps))

pub returns-clause-root : goal.returns-clause-root
returns-clause-root g c =
    let jobs = c.new-job.ensures in
    root_from_root g.S.FileSystem g.P.ProcessReadDir g.C.ReadDirState.Clone g.C.DirEntryState.Default c.args.self c.from_root_alone.result.walk c.new-job.result jobs.file_system jobs.callback jobs.options (option_map reading c.ok-read.result) c.from_root_alone.result.why_not c.from_root_alone.ensures.from_root
    (λ keeps. if_some_view reading (λ r. IsOfRoot r.list) c.root_list.result c.ok-read.result c.ok-read.ensures.value (c.root_list.ensures.root keeps))
