use Rattle.jwalk.proofs.walk_dir.handed.append_to.Goals as goal

pub returns : goal.returns
returns g c =
    let ran = c.extend.ensures.ran in
    record { walk = ran.0; begun = ran.2; answered = ran.1; appended = ran.3.0; calls = ran.4 }
