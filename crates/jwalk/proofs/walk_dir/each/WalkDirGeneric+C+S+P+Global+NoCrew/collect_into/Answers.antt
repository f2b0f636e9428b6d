use Rattle.jwalk.proofs.walk_dir.each.WalkDirGeneric+C+S+P+Global+NoCrew.collect_into.Goals as goal

pub returns : goal.returns
returns g c =
    let ran = c.append_to.ensures in
    record {
      walk = ran.walk;
      begun = rw ran.begun (record { own = c.into_iter.ensures.own; starts = c.into_iter.ensures.starts; holds = c.into_iter.ensures.holds; one = c.into_iter.ensures.one; root = c.into_iter.ensures.root });
      answered = ran.answered;
      appended = ran.appended;
      calls = ran.calls;
    }
