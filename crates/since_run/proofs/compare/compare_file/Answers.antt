use Rattle.std.proofs.Common.{◌∙◌, inl, inr, sym}
use Rattle.std.proofs.lemmas.Result.{IfOk-weaker}
use Rattle.jwalk_snapshot.specs.Text.{content_of}
use Rattle.since_run.proofs.compare.compare_file.Goals as goal

pub returns-then-call : goal.returns-then-call
returns-then-call g c =
    IfOk-weaker c.compare_quickly.result _ _ (λ told compares. record {
      snapshot = content_of c.in_ok-snapshot.snapshot;
      is_one = c.in_ok-snapshot.ensures.is_one;
      has = sym c.deref.ensures.value ∙ c.in_ok-snapshot.ensures.has;
      either = inr (c.if-call.true, compares);
    }) c.compare_quickly.ensures

pub returns : goal.returns
returns g c =
    IfOk-weaker c.compare_all.result _ _ (λ told compares. record {
      snapshot = content_of c.in_ok-snapshot.snapshot;
      is_one = c.in_ok-snapshot.ensures.is_one;
      has = sym c.deref.ensures.value ∙ c.in_ok-snapshot.ensures.has;
      either = inl (c.if-call.false, compares);
    }) c.compare_all.ensures
