use Rattle.std.proofs.Common.{◌≡◌, ℕ, List, [], ◌∷◌, None, Ok, Err, false, cond, ap, sym}
use Rattle.std.specs.Prelude.{string_bytes}
use Rattle.jwalk_model.specs.Entry.{Entry, Item}
use Rattle.jwalk_model.specs.Counted.{Worth}
use Rattle.jwalk_model.specs.Job.{Job, either, made, followed, with_target, root_item}
use Rattle.jwalk_job.specs.Entry.{entry, item}
use Rattle.jwalk_job.specs.Given.{counted_entry, counted_item}
use Rattle.jwalk_job.specs.Job.{job_by}
use Rattle.jwalk_job.proofs.job.Job.root_item.Goals as goal

-- the root's item, once its entry was made
rooted : (job : Job Worth Worth) (path : List ℕ) (e : Entry Worth Worth) (x : Item Worth Worth) → made job 0 path false (cond job.options.follow_links (path ∷ []) []) ≡ Ok e → x ≡ either (with_target job) Err (followed job None e) → x ≡ root_item job path
rooted job path e x met is = rw met is

pub returns-in_ok-item-in-Ok-clause-value : goal.returns-in_ok-item-in-Ok-clause-value
returns-in_ok-item-in-Ok-clause-value g c = λ given fixed default.
    let met = rw c.in-Ok.is at (c.in_ok-found.ensures.value given fixed default) in
    let job = job_by g.S.FileSystem given c.args.self.now in
    rooted job c.args.path.now (counted_entry given (entry c.in-Ok.found)) (counted_item given (item c.in_ok-item-in-Ok.item)) (sym met)
    (c.in_ok-item-in-Ok.ensures.value given fixed default)

pub returns-in_ok-item-in-Ok-clause-parent : goal.returns-in_ok-item-in-Ok-clause-parent
returns-in_ok-item-in-Ok-clause-parent g c = λ given fixed default.
    let met = rw c.in-Ok.is at (c.in_ok-found.ensures.value given fixed default) in
    rw (← met) (ap string_bytes c.in_ok-parent_path-in-Ok.ensures.cases)
