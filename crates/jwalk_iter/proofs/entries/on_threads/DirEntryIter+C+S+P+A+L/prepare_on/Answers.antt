use Rattle.std.proofs.Common.{refl, ap, inl, arith}
use Rattle.jwalk_readings.proofs.PreparedByFacts.{prepared_as, fails_at}
use Rattle.jwalk_iter.proofs.entries.on_threads.DirEntryIter+C+S+P+A+L.prepare_on.Goals as goal

pub returns-then-not-is_at_directory : goal.returns-then-not-is_at_directory
returns-then-not-is_at_directory g c = record {
  steps = record { stays = record { base = refl; refused = refl; most = omega arith; steady = λ given steady. steady }; prepared = inl refl; stopped = tt };
  ready = λ at. absurd (c.if-not-is_at_directory.ensures.no refl at);
}

pub returns : goal.returns
returns g c =
    let p = c.prepare_on.ensures.steps in
    let at = c.if-not-is_at_directory.ensures.yes refl in
    record {
      steps = record {
        stays = record { base = p.base; refused = refl; most = p.most; steady = p.steady };
        prepared = prepared_as c.prepare_on.result (ap (λ r. record c.args.self.now { reads = r })) (λ r. record { at = at r.some; items = refl; reads = r }) p.prepared;
        stopped = fails_at c.prepare_on.result at p.some;
      };
      ready = λ here. c.prepare_on.ensures.ready;
    }
