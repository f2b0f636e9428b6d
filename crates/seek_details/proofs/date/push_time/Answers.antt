use Rattle.std.proofs.Common.{◌≡◌, ◌++◌, FitsSigned, OnOk, subst, arith, w64}
use Rattle.std.proofs.lemmas.Int.{ints, to_z-of_z}
use Rattle.seek_details.proofs.DateFacts.{time_shown}
use Rattle.seek_details.proofs.date.push_time.Goals as goal

pub returns : goal.returns
returns c =
    let same = to_z-of_z w64 c.args.second c.ranges.second in
    let fits : FitsSigned w64 c.day_at.result = omega (arith, ints, c.day_at.ensures.few) in
    subst (λ text. OnOk c.push_date_and_clock.result (c.push_date_and_clock.new.out.items ≡ c.args.out.now.items ++ text))
    (time_shown c.args.second _ _ _ _ same (to_z-of_z w64 c.day_at.result fits) c.day_at.ensures.day c.clock_at.ensures) c.push_date_and_clock.ensures
