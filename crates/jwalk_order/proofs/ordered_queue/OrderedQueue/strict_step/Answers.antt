use Rattle.std.proofs.Common.{rules, ◌≡◌, ◌≢◌, ◌<◌, ◌≤◌, ◌-◌, [], arith, heap_items, sym, ◌∙◌, refl}
use Rattle.std.proofs.lemmas.Result.{err_from_is_err_and, IfOk-from_err}
use Rattle.std.proofs.lemmas.Bool.{false≢true}
use Rattle.jwalk_order.specs.Frontier.{next_address}
use Rattle.jwalk_order.specs.Ordered.{address_of, child_count_of}
use Rattle.jwalk_order.proofs.Due.{IsTop, waits, top_due, removes}
use Rattle.jwalk_order.proofs.ordered_queue.OrderedQueue.strict_step.Goals as goal

pub returns-then-ne-clause-answered : goal.returns-then-ne-clause-answered
returns-then-ne-clause-answered g c =
    let items = c.self.inside.items in
    let is : IsTop c.in-Some.top.now (heap_items items) = record {
      some = let n = c.in-Some.ensures.variant.0 refl in omega (arith, n, items.data.ok.0);
      first = c.in-Some.ensures.lookup;
      greatest = c.in-Some.ensures.greatest c.self.invariant;
    } in
    let other : address_of c.in-Some.top.now ≢ next_address c.self.inside.matcher = search rules in
    let some : c.self.inside.matcher ≢ [] = λ empty. false≢true (sym c.if-is_none.false ∙ c.is_none.ensures.1 empty) in
    rw (← c.self.view_is) (waits _ c.in-Some.top.now (rw (← c.self.view_is) at c.requires.running) (rw (← c.self.view_is) at c.requires.strict) some is other)

pub returns-in_err-advance_past-clause-refused : goal.returns-in_err-advance_past-clause-refused
returns-in_err-advance_past-clause-refused g c =
    let items = c.self.inside.items in
    let is : IsTop c.in-Some.top.now (heap_items items) = record {
      some = let n = c.in-Some.ensures.variant.0 refl in omega (arith, n, items.data.ok.0);
      first = c.in-Some.ensures.lookup;
      greatest = c.in-Some.ensures.greatest c.self.invariant;
    } in
    let next : address_of c.in-Some.top.now ≡ next_address c.self.inside.matcher = search rules in
    let some : c.self.inside.matcher ≢ [] = λ empty. false≢true (sym c.if-is_none.false ∙ c.is_none.ensures.1 empty) in
    let p = err_from_is_err_and c.from_residual.result c.from_residual.ensures.1 in
    let children : 0 < child_count_of c.in-Some.top.now = grind (arith, c.in_err-advance_past.ensures.childless) in
    rw (p.1, ← c.self.view_is) (search rules, (c.in-Some.top.now, top_due _ c.in-Some.top.now (rw (← c.self.view_is) at c.requires.running) (rw (← c.self.view_is) at c.requires.strict) is some next, children))

pub returns-clause-answered : goal.returns-clause-answered
returns-clause-answered g c =
    let items = c.self.inside.items in
    let is : IsTop c.in-Some.top.now (heap_items items) = record {
      some = let n = c.in-Some.ensures.variant.0 refl in omega (arith, n, items.data.ok.0);
      first = c.in-Some.ensures.lookup;
      greatest = c.in-Some.ensures.greatest c.self.invariant;
    } in
    let next : address_of c.in-Some.top.now ≡ next_address c.self.inside.matcher = search rules in
    let some : c.self.inside.matcher ≢ [] = λ empty. false≢true (sym c.if-is_none.false ∙ c.is_none.ensures.1 empty) in
    let item-is : IsTop c.in-Some-pop.item (heap_items items) = record {
      some = is.some;
      first = c.in-Some-pop.ensures.top;
      greatest = (c.in-Some-pop.ensures.heap_order c.self.invariant).1;
    } in
    let more : items.data.cap - items.data.len ≤ c.pop.new.self.data.cap - c.pop.new.self.data.len = omega (arith, c.in-Some-pop.ensures.len, c.in-Some-pop.ensures.capacity) in
    rw (← c.self.view_is)
    (removes _ c.in-Some.top.now c.in-Some-pop.item _ _ _ (rw (← c.self.view_is) at c.requires.running) (rw (← c.self.view_is) at c.requires.strict) some is next item-is c.in-Some-pop.ensures.permutation c.in_ok-advance_past.ensures.passed more)

pub returns-in_err-advance_past-clause-answered : goal.returns-in_err-advance_past-clause-answered
returns-in_err-advance_past-clause-answered g c = IfOk-from_err c.from_residual.result _ c.from_residual.ensures.0
