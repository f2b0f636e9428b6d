use Rattle.std.proofs.Common.{is_some, refl, ap}
use Rattle.std.proofs.lemmas.Result.{IfOk-weaker}
use Rattle.jwalk_readings.proofs.ResultFacts.{none_ok, on_err}
use Rattle.jwalk_iter.proofs.entries.Entries.entered.Goals as goal

pub returns-in-None : goal.returns-in-None
returns-in-None g c = record { refused = refl; received = rw c.in-None.is (refl, refl); reads = refl; stopped = tt }

pub returns-in-Some-Err : goal.returns-in-Some-Err
returns-in-Some-Err g c = record {
  refused = refl;
  received = IfOk-weaker c.with_error.result _ _ (λ told is. rw (c.in-Some-Err.is, c.in-Some-Err.field-0-is) (is, refl)) c.with_error.ensures;
  reads = refl;
  stopped = on_err c.with_error.result (ap is_some c.in-Some-Err.is);
}

pub returns-in_ok-receive-in-Some-Ok : goal.returns-in_ok-receive-in-Some-Ok
returns-in_ok-receive-in-Some-Ok g c =
    let received = c.in_ok-receive-in-Some-Ok.ensures in
    record {
      refused = received.refused;
      received = rw (c.in-Some-Ok.is, c.in-Some-Ok.field-0-is, received.items) (refl, refl);
      reads = received.reads;
      stopped = tt;
    }

pub returns-in_err-receive-in-Some-Ok : goal.returns-in_err-receive-in-Some-Ok
returns-in_err-receive-in-Some-Ok g c =
    let received = c.in_err-receive-in-Some-Ok.ensures in
    let told = c.from_residual in
    record {
      refused = received.refused;
      received = none_ok _ told.result told.ensures.0;
      reads = received.reads;
      stopped = on_err told.result (ap is_some c.in-Some-Ok.is);
    }
