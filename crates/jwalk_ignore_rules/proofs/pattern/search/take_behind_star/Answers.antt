use Rattle.std.proofs.Common.{rules, tests, length, ◌≡◌}
use Rattle.jwalk_ignore_rules.proofs.FitsFacts.{star_end, star_next, behind_decides, all_behind}
use Rattle.jwalk_ignore_rules.proofs.pattern.search.take_behind_star.Goals as goal

pub returns-then-is_empty-clause-decides : goal.returns-then-is_empty-clause-decides
returns-then-is_empty-clause-decides g c =
    let none : length c.args.parts.now ≡ 0 = search (rules, tests) in
    all_behind g.T.ItemTest.takes c.args.parts.now (g.T.ItemTest.items c.args.text.now) none

pub returns-in_default-clause-decides : goal.returns-in_default-clause-decides
returns-in_default-clause-decides g c =
    behind_decides g.T.ItemTest.takes g.T.ItemTest.items c.take_front.result c.in_default.not-Misfit c.args.parts.now (g.T.ItemTest.items c.places.from.now) _
    c.places.invariant c.take_front.ensures.decides c.take_front.ensures.later

pub returns-in_default-skip_first-clause-decides : goal.returns-in_default-skip_first-clause-decides
returns-in_default-skip_first-clause-decides g c = λ fits.
    star_end g.T.ItemTest.takes c.args.parts.now (g.T.ItemTest.items c.places.from.now) c.in_default-skip_first.ensures.items c.in-Misfit.ensures.decides (c.places.invariant.0 fits)

pub places-preserved : goal.places-preserved
places-preserved g c =
    let (item, is) = c.in-Some.ensures.items in
    let next = star_next g.T.ItemTest.takes c.args.parts.now (g.T.ItemTest.items c.places.from.now) item (g.T.ItemTest.items c.in-Some.after.now) is c.in-Misfit.ensures.decides in
    ((λ h. next.0 (c.places.invariant.0 h)), (λ h. c.places.invariant.1 (next.1 h)))
