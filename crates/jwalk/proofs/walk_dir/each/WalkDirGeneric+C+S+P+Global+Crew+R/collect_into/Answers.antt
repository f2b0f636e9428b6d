use Rattle.jwalk.proofs.walk_dir.each.WalkDirGeneric+C+S+P+Global+Crew+R.collect_into.Goals as goal

pub returns : goal.returns
returns g c =
    let ran = c.append_to.ensures in
    record {
      walk = ran.walk;
      begun = rw ran.begun (record { starts = c.into_iter.ensures.starts; begins = c.into_iter.ensures.begins; one = c.into_iter.ensures.one; root = c.into_iter.ensures.root; most = c.into_iter.ensures.most; steady = c.into_iter.ensures.steady });
      answered = ran.answered;
      appended = ran.appended;
      calls = ran.calls;
    }
