use Rattle.std.proofs.Common.{◌≡◌, ◌++◌, OnOk, subst, w64}
use Rattle.std.proofs.lemmas.Int.{to_z-of_z}
use Rattle.seek_details.proofs.DateFacts.{date_shown}
use Rattle.seek_details.proofs.date.push_date.Goals as goal

pub returns : goal.returns
returns c =
    let same = to_z-of_z w64 c.args.day c.ranges.day in
    subst (λ text. OnOk c.push_civil.result (c.push_civil.new.out.items ≡ c.args.out.now.items ++ text))
    (date_shown c.args.day _ _ _ _ same c.date_of.ensures.year c.date_of.ensures.month c.date_of.ensures.day) c.push_civil.ensures
