use Rattle.jwalk.proofs.walk_dir.each.WalkDirGeneric+C+S+P+Global+Crew+R.try_for_each.Goals as goal

pub returns : goal.returns
returns g c =
    let ran = c.hand_until_error.ensures in
    record {
      walk = ran.walk;
      begun = rw ran.begun (record { starts = c.into_iter.ensures.starts; begins = c.into_iter.ensures.begins; one = c.into_iter.ensures.one; root = c.into_iter.ensures.root; most = c.into_iter.ensures.most; steady = c.into_iter.ensures.steady });
      answered = ran.answered;
      last = ran.last;
      passes = ran.passes;
      ends = ran.ends;
    }
