use Rattle.std.proofs.Common.{refl, ap, inl, arith}
use Rattle.jwalk_readings.specs.declared.read_dir_iter.ReadDirIter.TheVariants.{Walk}
use Rattle.jwalk_readings.proofs.PreparedByFacts.{same_batches, batches_ready, prepared_as, prepared_ready}
use Rattle.jwalk_readings.proofs.read_dir_iter.ReadDirIter.prepare_on.Goals as goal

pub returns-in-Walk : goal.returns-in-Walk
returns-in-Walk g c =
    let p = c.prepare_on.ensures in
    rw c.in-Walk.is
    (record {
      steps = record {
        base = same_batches g.S.FileSystem g.P.ProcessReadDir g.C.ReadDirState.Clone g.C.DirEntryState.Default g.L.Readers c.in-Walk.walk c.prepare_on.new.self p.job p.width;
        wide = p.wide;
        most = omega arith;
        steady = p.steady;
        prepared = prepared_as c.prepare_on.result (ap Walk) (batches_ready g.S.FileSystem g.P.ProcessReadDir g.C.ReadDirState.Clone g.C.DirEntryState.Default g.L.Readers c.in-Walk.walk c.prepare_on.new.self) p.prepared;
        some = p.some;
        stopped = p.stopped;
        nothing = p.nothing_ahead;
      };
      ready = prepared_ready _ _ c.prepare_on.result p.ready;
    })

pub returns-in-CrewWalk : goal.returns-in-CrewWalk
returns-in-CrewWalk g c = rw c.in-CrewWalk.is (record {
  steps = record { base = refl; wide = omega arith; most = omega arith; steady = λ given steady. steady; prepared = inl refl; some = tt; stopped = tt; nothing = tt };
  ready = λ own. absurd cc;
})
