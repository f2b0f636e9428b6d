use Rattle.jwalk_job.proofs.job.Job.root_entry.Goals as goal

pub returns-clause-value : goal.returns-clause-value
returns-clause-value g c = λ given fixed default.
    let above = rw (c.follow_links-follow_links.ensures, c.none.ensures, c.in_ok-path.ensures) at c.in_ok-ancestors.ensures in
    rw (← above, ← c.in_ok-path.ensures) (c.entry_of_path.ensures.value given fixed default)
