use Rattle.std.proofs.Common.{◌≡◌, ◌∙◌, ◌-◌, [], length, slice_get, Some, refl, sym, subst}
use Rattle.jwalk_iter.proofs.SkipFacts.{stays_first, taken_first, taken_goes, taken_fewer, taken_one}
use Rattle.jwalk_iter.proofs.entries.Entries.pop_dropped.Goals as goal

pub returns-then-not-drops-clause-none : goal.returns-then-not-drops-clause-none
returns-then-not-drops-clause-none g c =
    let last = subst (λ l. Some c.in-Some.next.now ≡ slice_get l (length l - 1)) c.deref.ensures.value c.in-Some.ensures.value in
    (refl, stays_first c.args.self.now.skip c.args.self.now.items.items [] c.in-Some.next.now last (sym c.drops.ensures ∙ c.if-not-drops.true))

pub returns-clause-first : goal.returns-clause-first
returns-clause-first g c =
    let last = subst (λ l. Some c.in-Some.next.now ≡ slice_get l (length l - 1)) c.deref.ensures.value c.in-Some.ensures.value in
    taken_first c.args.self.now.skip c.args.self.now.items.items c.pop.new.self.items c.in-Some.next.now last c.pop.result c.pop.ensures.items

pub returns-clause-dropped : goal.returns-clause-dropped
returns-clause-dropped g c =
    let last = subst (λ l. Some c.in-Some.next.now ≡ slice_get l (length l - 1)) c.deref.ensures.value c.in-Some.ensures.value in
    taken_goes c.args.self.now.skip c.args.self.now.items.items c.pop.new.self.items c.in-Some.next.now last (sym c.drops.ensures ∙ c.if-not-drops.false) c.pop.result c.pop.ensures.items

pub returns-clause-fewer : goal.returns-clause-fewer
returns-clause-fewer g c =
    let last = subst (λ l. Some c.in-Some.next.now ≡ slice_get l (length l - 1)) c.deref.ensures.value c.in-Some.ensures.value in
    taken_fewer c.args.self.now.skip c.args.self.now.items.items c.pop.new.self.items c.in-Some.next.now last c.pop.result c.pop.ensures.items

pub returns-clause-none : goal.returns-clause-none
returns-clause-none g c =
    let last = subst (λ l. Some c.in-Some.next.now ≡ slice_get l (length l - 1)) c.deref.ensures.value c.in-Some.ensures.value in
    taken_one c.args.self.now.skip c.args.self.now.items.items c.pop.new.self.items c.in-Some.next.now last _ _ c.args.self.now.items.ok.0 c.pop.result c.pop.ensures.cases _
