use Rattle.std.proofs.Common.{◌≡◌, ◌==◌, ℕ, Bool, true, false, not, nat_lt, [], ◌∷◌, refl, arith, eqb-true, rules}
use Rattle.std.proofs.lemmas.Bool.{ltb-true, ltb-false, eqb-false}
use Rattle.std.specs.IoError.{error_kind}
use Rattle.jwalk_real_fs.specs.Listing.{is_interrupted, IsAsked}
use Rattle.jwalk_real_fs.proofs.FaultFacts.{if_ok_at_err}
use Rattle.jwalk_real_fs.proofs.ListingFacts.{each_none, one_each}
use Rattle.jwalk_real_fs.proofs.ReadFacts.{failed_read, interrupted_read}
use Rattle.jwalk_real_fs.proofs.listing.Listing.add_read.Goals as goal

-- a read gave something unless it gave nothing
by_tests : (n : ℕ) (some none : Bool) → nat_lt 0 n ≡ some → (n == 0) ≡ none → some ≡ not none
by_tests n true false e f = refl
by_tests n false true e f = refl
by_tests n true true e f = let less = ltb-true 0 n e in let nothing = eqb-true n 0 f in absurd (omega (arith, less, nothing))
by_tests n false false e f = let most = ltb-false 0 n e in let something = eqb-false n 0 f in absurd (omega (arith, most, something))

some_or_none : (n : ℕ) → nat_lt 0 n ≡ not (n == 0)
some_or_none n = by_tests n (nat_lt 0 n) (n == 0) refl refl

pub returns-in_ok-add_all-in-Ok : goal.returns-in_ok-add_all-in-Ok
returns-in_ok-add_all-in-Ok g c =
    let added = c.in_ok-add_all-in-Ok.ensures in
    (added.0, rw c.in-Ok.is (some_or_none c.in-Ok.count, added.1), added.2)

pub returns-in_err-add_all-in-Ok : goal.returns-in_err-add_all-in-Ok
returns-in_err-add_all-in-Ok g c = if_ok_at_err c.from_residual.result _ _ c.from_residual.ensures.1

pub returns-in-Err : goal.returns-in-Err
returns-in-Err g c =
    let interrupted : is_interrupted (error_kind c.in-Err.error) ≡ true = search rules in
    ([], rw c.in-Err.is (interrupted_read c.in-Err.error c.args.names.now interrupted), each_none (IsAsked g.R.DiskCalls c.args.rt.now c.args.dir.now) g.K.Sink.Took c.args.sink.now)

pub returns-in_ok-end-in-Err-2 : goal.returns-in_ok-end-in-Err-2
returns-in_ok-end-in-Err-2 g c =
    let other : is_interrupted (error_kind c.in-Err-2.error) ≡ false = search rules in
    (_ ∷ [], rw c.in-Err-2.is (failed_read c.in-Err-2.error c.args.names.now other), one_each (IsAsked g.R.DiskCalls c.args.rt.now c.args.dir.now) g.K.Sink.Took _ c.args.sink.now c.end.new.sink tt c.in_ok-end-in-Err-2.ensures)

pub returns-in_err-end-in-Err-2 : goal.returns-in_err-end-in-Err-2
returns-in_err-end-in-Err-2 g c =
    if_ok_at_err c.from_residual-in_err-end-in-Err-2.result _ _ c.from_residual-in_err-end-in-Err-2.ensures.1
