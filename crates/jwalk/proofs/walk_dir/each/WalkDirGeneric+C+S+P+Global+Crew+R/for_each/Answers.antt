use Rattle.jwalk.proofs.walk_dir.each.WalkDirGeneric+C+S+P+Global+Crew+R.for_each.Goals as goal

pub returns : goal.returns
returns g c = record { walk = c.into_iter.result; begun = record { starts = c.into_iter.ensures.starts; begins = c.into_iter.ensures.begins; one = c.into_iter.ensures.one; root = c.into_iter.ensures.root; most = c.into_iter.ensures.most; steady = c.into_iter.ensures.steady }; calls = c.hand_to.ensures }
