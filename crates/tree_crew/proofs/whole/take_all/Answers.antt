use Rattle.std.proofs.Common.{◌∙◌, refl, sym, subst}
use Rattle.tree_crew.specs.Session.{origin_of, awaited_by}
use Rattle.tree_crew.specs.Shared.{IsReadingAt}
use Rattle.tree_crew.proofs.AwaitFacts.{HasFound, all_found, next_found, nothing_found}
use Rattle.tree_crew.proofs.whole.take_all.Goals as goal

pub loop-init : goal.loop-init
loop-init g c = ((tt, tt), refl, nothing_found g.J.Plan (origin_of c.args.session.now) c.new-found.result.items (awaited_by c.args.session.now) c.new-found.ensures.items c.requires)

pub loop-preserved : goal.loop-preserved
loop-preserved g c =
    let origin = origin_of c.args.session.now in
    let before = awaited_by c.loop.session in
    let after = awaited_by c.next-in-loop.new.self in
    let came = subst (λ o. IsReadingAt g.J.Plan o before c.in-Some-2.item after) c.loop.invariant.1 (rw c.in-Some-2.is at c.in_ok-item.ensures.answer) in
    let is = sym c.into_outcome.ensures ∙ c.in_ok-reading.was in
    let found = next_found g.J.Plan origin g.met.J.Plan.as_given g.met.J.Plan.falls c.loop.found.items before after c.in-Some-2.item c.in_ok-reading.reading is came c.loop.invariant.2 in
    ((tt, tt), c.next-in-loop.ensures.origin ∙ c.loop.invariant.1, subst (λ l. HasFound g.J.Plan origin l after) (sym c.in_ok-push.ensures.items) found)

pub returns-in_default : goal.returns-in_default
returns-in_default g c =
    all_found g.J.Plan (origin_of c.args.session.now) c.loop.found.items (awaited_by c.loop.session) (rw c.in_default.is at c.in_ok-item.ensures.answer).0 c.loop.invariant.2
