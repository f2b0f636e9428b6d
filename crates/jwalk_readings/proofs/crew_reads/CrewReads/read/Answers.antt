use Rattle.std.proofs.Common.{◌∙◌, List, ◌∷◌, Err, refl, sym, ap, subst}
use Rattle.jwalk_model.specs.ReadDir.{Spec}
use Rattle.jwalk_order.specs.IndexPath.{address}
use Rattle.jwalk_job.specs.ReadDirSpec.{spec}
use Rattle.jwalk_job.specs.ReadDir.{outcome}
use Rattle.jwalk_job.specs.Given.{Given}
use Rattle.jwalk_job.specs.Job.{options_of}
use Rattle.jwalk_readings.specs.Wanted.{IsFor}
use Rattle.jwalk_readings.specs.CrewReads.{job_of, next_address, awaited, most_ready, IsSteadyOver}
use Rattle.jwalk_readings.proofs.CrewFacts.{told}
use Rattle.jwalk_readings.proofs.CrewSteadyFacts.{none_waits, none_awaited, not_lost, reads_steadily}
use Rattle.jwalk_readings.proofs.ResultFacts.{none_ok, refused_not_lost, not_lost_if, passed_not_lost}
use Rattle.jwalk_readings.proofs.crew_reads.CrewReads.read.Goals as goal

pub returns-clause-told : goal.returns-clause-told
returns-clause-told g c =
    told g.S.FileSystem g.P.ProcessReadDir g.C.ReadDirState.Clone g.C.DirEntryState.Default (job_of c.args.self.now) (spec c.args.of.now) (outcome c.in_ok-into_outcome.field-0)
    (next_address c.args.self.now) c.in_ok-wanted.wanted c.in_ok-item.item
    (subst (λ a. IsFor a (spec c.args.of.now) (options_of (job_of c.args.self.now)) c.in_ok-wanted.wanted) (c.in_ok-address.ensures ∙ c.looking_for.ensures)
    (subst (λ o. IsFor (address c.in_ok-address.address) (spec c.args.of.now) o c.in_ok-wanted.wanted) (c.options.ensures ∙ ap options_of c.deref.ensures) c.in_ok-wanted.ensures))
    c.in_ok-item.ensures.fits
    (rw (sym c.in_ok-into_outcome.ensures.outcome) refl)
    (rw (sym c.in_ok-into_outcome.ensures.outcome) at c.into_outcome.ensures.lawful)

pub returns-in_default : goal.returns-in_default
returns-in_default g c =
    let old = c.args.self.now in
    record { job = refl; to_read = refl; most = refl; told = tt; passed = tt; steadily = tt; comes = λ rest given. none_waits g.S.FileSystem g.P.ProcessReadDir g.C.ReadDirState.Clone g.C.DirEntryState.Default g.L.Readers (job_of old) old.readers old.matcher (spec c.args.of.now) rest given (ap (λ p. awaited p old.matcher) c.in_default.is) }

pub returns-then-is_none : goal.returns-then-is_none
returns-then-is_none g c =
    let old = c.args.self.now in
    record { job = refl; to_read = refl; most = sym (ap (most_ready g.L.Readers.most) c.in-Some.is); told = tt; passed = tt; steadily = tt; comes = λ rest given. none_waits g.S.FileSystem g.P.ProcessReadDir g.C.ReadDirState.Clone g.C.DirEntryState.Default g.L.Readers (job_of old) old.readers old.matcher (spec c.args.of.now) rest given (none_awaited g.S.FileSystem g.P.ProcessReadDir g.C.ReadDirState.Clone g.C.DirEntryState.Default g.L.Readers old.readers old.matcher (c.is_none.ensures.0 c.if-is_none.true)) }

pub returns-in_err-address : goal.returns-in_err-address
returns-in_err-address g c = record { job = refl; to_read = refl; most = sym (ap (most_ready g.L.Readers.most) c.in-Some.is); told = none_ok _ c.from_residual.result c.from_residual.ensures.0; passed = none_ok _ c.from_residual.result c.from_residual.ensures.0; steadily = none_ok _ c.from_residual.result c.from_residual.ensures.0; comes = λ rest. refused_not_lost _ c.from_residual.result c.from_residual.ensures.1 }

pub returns-in_err-wanted : goal.returns-in_err-wanted
returns-in_err-wanted g c = record { job = refl; to_read = refl; most = sym (ap (most_ready g.L.Readers.most) c.in-Some.is); told = none_ok _ c.from_residual-in_err-wanted.result c.from_residual-in_err-wanted.ensures.0; passed = none_ok _ c.from_residual-in_err-wanted.result c.from_residual-in_err-wanted.ensures.0; steadily = none_ok _ c.from_residual-in_err-wanted.result c.from_residual-in_err-wanted.ensures.0; comes = λ rest. refused_not_lost _ c.from_residual-in_err-wanted.result c.from_residual-in_err-wanted.ensures.1 }

pub returns-in_err-item : goal.returns-in_err-item
returns-in_err-item g c =
    let old = c.args.self.now in
    let over : List (Spec g.row.C-ReadDirState.Denot) → Given g.row.C-ReadDirState.Denot g.row.C-DirEntryState.Denot → Type 0 = λ rest. IsSteadyOver g.S.FileSystem g.P.ProcessReadDir g.C.ReadDirState.Clone g.C.DirEntryState.Default g.L.Readers (job_of old) old.readers old.matcher (spec c.args.of.now ∷ rest) in
    let wanted : IsFor (next_address old) (spec c.args.of.now) (options_of (job_of old)) c.in_ok-wanted.wanted
    = subst (λ a. IsFor a (spec c.args.of.now) (options_of (job_of old)) c.in_ok-wanted.wanted) (c.in_ok-address.ensures ∙ c.looking_for.ensures)
    (subst (λ o. IsFor (address c.in_ok-address.address) (spec c.args.of.now) o c.in_ok-wanted.wanted) (c.options.ensures ∙ ap options_of c.deref.ensures) c.in_ok-wanted.ensures) in
    record {
      job = refl;
      to_read = refl;
      most = c.next.ensures.most ∙ sym (ap (most_ready g.L.Readers.most) c.in-Some.is);
      told = none_ok _ c.from_residual-in_err-item.result c.from_residual-in_err-item.ensures.0;
      passed = none_ok _ c.from_residual-in_err-item.result c.from_residual-in_err-item.ensures.0;
      steadily = none_ok _ c.from_residual-in_err-item.result c.from_residual-in_err-item.ensures.0;
      comes = λ rest. passed_not_lost (over rest) c.in_err-item.field-0.0 c.from_residual-in_err-item.result c.from_residual-in_err-item.ensures.1
          (not_lost_if (over rest) c.in_err-item.field-0.0 (λ lost given was. not_lost g.S.FileSystem g.P.ProcessReadDir g.C.ReadDirState.Clone g.C.DirEntryState.Default g.L.Readers (job_of old) c.in-Some.readers old.matcher (spec c.args.of.now) rest given c.in_ok-wanted.wanted wanted
          (c.in_err-item.ensures.due (ap Err lost)) (subst (λ p. IsSteadyOver g.S.FileSystem g.P.ProcessReadDir g.C.ReadDirState.Clone g.C.DirEntryState.Default g.L.Readers (job_of old) p old.matcher (spec c.args.of.now ∷ rest) given) c.in-Some.is was)));
    }

pub returns-in_err-advance_past : goal.returns-in_err-advance_past
returns-in_err-advance_past g c = record { job = refl; to_read = refl; most = c.next.ensures.most ∙ sym (ap (most_ready g.L.Readers.most) c.in-Some.is); told = none_ok _ c.from_residual-in_err-advance_past.result c.from_residual-in_err-advance_past.ensures.0; passed = none_ok _ c.from_residual-in_err-advance_past.result c.from_residual-in_err-advance_past.ensures.0; steadily = none_ok _ c.from_residual-in_err-advance_past.result c.from_residual-in_err-advance_past.ensures.0; comes = λ rest. refused_not_lost _ c.from_residual-in_err-advance_past.result c.from_residual-in_err-advance_past.ensures.1 }

pub returns-in_err-into_outcome : goal.returns-in_err-into_outcome
returns-in_err-into_outcome g c = record { job = refl; to_read = refl; most = c.next.ensures.most ∙ sym (ap (most_ready g.L.Readers.most) c.in-Some.is); told = none_ok _ c.from_residual-in_err-into_outcome.result c.from_residual-in_err-into_outcome.ensures.0; passed = none_ok _ c.from_residual-in_err-into_outcome.result c.from_residual-in_err-into_outcome.ensures.0; steadily = none_ok _ c.from_residual-in_err-into_outcome.result c.from_residual-in_err-into_outcome.ensures.0; comes = λ rest. refused_not_lost _ c.from_residual-in_err-into_outcome.result c.from_residual-in_err-into_outcome.ensures.1 }

pub returns-clause-job : goal.returns-clause-job
returns-clause-job g c = refl

pub returns-clause-to_read : goal.returns-clause-to_read
returns-clause-to_read g c = refl

pub returns-clause-most : goal.returns-clause-most
returns-clause-most g c = c.next.ensures.most ∙ sym (ap (most_ready g.L.Readers.most) c.in-Some.is)

pub returns-clause-steadily : goal.returns-clause-steadily
returns-clause-steadily g c =
    reads_steadily g.S.FileSystem g.P.ProcessReadDir g.C.ReadDirState.Clone g.C.DirEntryState.Default g.L.Readers c.args.self.now _ c.in-Some.readers c.next.new.self (spec c.args.of.now) c.in_ok-into_outcome.field-0 c.in_ok-item.item c.in-Some.is refl
    (c.in_ok-item.ensures.fits.at ∙ c.in_ok-wanted.ensures.at ∙ c.in_ok-address.ensures ∙ c.looking_for.ensures)
    c.in_ok-advance_past.ensures.passed
    c.in_ok-item.ensures.of
    c.in_ok-item.ensures.same
    c.in_ok-item.ensures.further
    (sym c.in_ok-into_outcome.ensures.outcome)
    (rw (sym c.in_ok-into_outcome.ensures.outcome) at c.into_outcome.ensures.lawful)
    _ c.child_count-count.ensures

pub returns-clause-comes : goal.returns-clause-comes
returns-clause-comes g c = λ rest. tt
