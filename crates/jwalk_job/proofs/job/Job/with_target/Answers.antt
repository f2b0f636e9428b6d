use Rattle.std.proofs.Common.{◌≡◌, ◌∙◌, ℕ, List, true, cond, Result, Ok, Err, refl, sym}
use Rattle.jwalk_model.specs.declared.metadata.Metadata.{Metadata}
use Rattle.jwalk_model.specs.FileType.{is_dir, is_symlink}
use Rattle.jwalk_model.specs.Metadata.{type_of}
use Rattle.jwalk_model.specs.Entry.{Entry, path_of, children_at}
use Rattle.jwalk_model.specs.Paths.{join}
use Rattle.jwalk_model.specs.Counted.{Worth, entry_by}
use Rattle.jwalk_model.specs.Job.{Job, either, with_target}
use Rattle.jwalk_model.proofs.CountedFacts.{counted-with_directory}
use Rattle.jwalk_job.specs.Text.{text}
use Rattle.jwalk_job.specs.Entry.{entry}
use Rattle.jwalk_job.specs.Job.{job_by}
use Rattle.jwalk_job.proofs.job.Job.with_target.Goals as goal

-- an error stays one, whatever is made of what would have been met
still_refused : {X Y F E : Type 0} (h : X → Y) (view : F → E) (met : Result X F) (e : E) → either Ok (λ k. Err (view k)) met ≡ Err e → either (λ x. Ok (h x)) (λ k. Err (view k)) met ≡ Err e
still_refused h view (Ok x) e is = cc
still_refused h view (Err k) e is = cc

-- the link's entry once what is behind it is met
met_behind : {R E : Type 0} (view : R → Worth) (mark : E → Worth) (job : Job Worth Worth) (e made : Entry R E) (m : Metadata) (path : List ℕ) → is_symlink e.file_type ≡ true → path ≡ path_of e → job.fs.meta_of (path_of e) ≡ Ok m
    → made ≡ cond (is_dir (type_of m)) (record e { read_children = children_at true path }) e → Ok (entry_by view mark made) ≡ with_target job (entry_by view mark e)
met_behind view mark job e made m path link at met is =
    rw (link, met, is, counted-with_directory view mark e (is_dir (type_of m)) path, at) refl

pub returns-in-Ok-clause-value : goal.returns-in-Ok-clause-value
returns-in-Ok-clause-value g c = λ given fixed.
    let link : is_symlink c.args.found.file_type ≡ true = cc in
    let named : join c.parent_path.result.now c.file_name.result.now ≡ path_of (entry c.args.found) = rw (c.parent_path.ensures, c.file_name.ensures) refl in
    let path : text c.in-Ok.behind.path ≡ path_of (entry c.args.found) = (rw c.in-Ok.is at c.in_ok-behind.ensures.path) ∙ named in
    let met = rw (c.in-Ok.is, named) at (c.in_ok-behind.ensures.value fixed) in
    met_behind given.read_dir_state given.dir_entry_state (job_by g.S.FileSystem given c.args.self.now) (entry c.args.found) (entry c.with_directory.result) c.in-Ok.behind.metadata (text c.in-Ok.behind.path) link path met
    c.with_directory.ensures

pub returns-in-Err-clause-value : goal.returns-in-Err-clause-value
returns-in-Err-clause-value g c = λ given fixed.
    let link : is_symlink c.args.found.file_type ≡ true = cc in
    let named : join c.parent_path.result.now c.file_name.result.now ≡ path_of (entry c.args.found) = rw (c.parent_path.ensures, c.file_name.ensures) refl in
    let refused = rw (c.in-Err.is, named) at (c.in_ok-behind.ensures.value fixed) in
    rw link (sym (still_refused _ _ _ _ refused))
