use Rattle.jwalk.proofs.walk_dir.each.WalkDirGeneric+C+S+P+Global+NoCrew.for_each.Goals as goal

pub returns : goal.returns
returns g c = record { walk = c.into_iter.result; begun = record { own = c.into_iter.ensures.own; starts = c.into_iter.ensures.starts; holds = c.into_iter.ensures.holds; one = c.into_iter.ensures.one; root = c.into_iter.ensures.root }; calls = c.hand_to.ensures }
