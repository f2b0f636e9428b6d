use Rattle.jwalk.proofs.walk_dir.each.WalkDirGeneric+C+S+P+Global+NoCrew.try_for_each.Goals as goal

pub returns : goal.returns
returns g c =
    let ran = c.hand_until_error.ensures in
    record {
      walk = ran.walk;
      begun = rw ran.begun (record { own = c.into_iter.ensures.own; starts = c.into_iter.ensures.starts; holds = c.into_iter.ensures.holds; one = c.into_iter.ensures.one; root = c.into_iter.ensures.root });
      answered = ran.answered;
      last = ran.last;
      passes = ran.passes;
      ends = ran.ends;
    }
