use Rattle.std.proofs.Common.{sym}
use Rattle.std.proofs.lemmas.Result.{err_from_is_err_and}
use Rattle.jwalk_snapshot.specs.declared.error.SnapshotError.TheVariants.{NoSnapshot, OtherVersion}
use Rattle.jwalk_snapshot.specs.Text.{body_text}
use Rattle.jwalk_snapshot.specs.Reading.{body_at}
use Rattle.jwalk_snapshot.proofs.ReadFacts.{fails_any, is_found, is_read, no_other_fault, other_error}
use Rattle.jwalk_snapshot.proofs.snapshot.Snapshot.read.Goals as goal

pub returns-in_err-body-clause-only : goal.returns-in_err-body-clause-only
returns-in_err-body-clause-only c = λ k whole e.
    let p = err_from_is_err_and c.from_residual.result c.from_residual.ensures.1 in
    rw (p.1, p.2) (fails_any c.in_err-body.field-0.0 (body_text k) k (c.in_err-body.ensures.only (body_text k) whole.utf8 e))

pub returns-in_err-body-clause-no_snapshot : goal.returns-in_err-body-clause-no_snapshot
returns-in_err-body-clause-no_snapshot c = λ is.
    let p = err_from_is_err_and c.from_residual.result c.from_residual.ensures.1 in
    absurd ((other_error c.from_residual.result p.0 c.in_err-body.field-0.0 p.1 p.2 c.in_err-body.ensures.errors).0 is)

pub returns-in_err-body-clause-other : goal.returns-in_err-body-clause-other
returns-in_err-body-clause-other c = λ is.
    let p = err_from_is_err_and c.from_residual.result c.from_residual.ensures.1 in
    absurd ((other_error c.from_residual.result p.0 c.in_err-body.field-0.0 p.1 p.2 c.in_err-body.ensures.errors).1 is)

pub returns-clause-found : goal.returns-clause-found
returns-clause-found c = is_found c.args.bytes.now c.in_ok-body.body.now c.snapshot_at.result c.in_ok-body.ensures.utf8 c.in_ok-body.ensures.found c.snapshot_at.ensures

pub returns-clause-only : goal.returns-clause-only
returns-clause-only c = λ k whole e. is_read c.in_ok-body.body.now c.snapshot_at.result k whole (c.in_ok-body.ensures.only (body_text k) whole.utf8 e) c.snapshot_at.ensures

pub returns-clause-no_snapshot : goal.returns-clause-no_snapshot
returns-clause-no_snapshot c = λ is. absurd (no_other_fault c.snapshot_at.result (body_at c.in_ok-body.body.now) NoSnapshot c.snapshot_at.ensures is)

pub returns-clause-other : goal.returns-clause-other
returns-clause-other c = λ is. absurd (no_other_fault c.snapshot_at.result (body_at c.in_ok-body.body.now) OtherVersion c.snapshot_at.ensures is)
