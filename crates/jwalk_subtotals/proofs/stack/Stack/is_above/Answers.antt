use Rattle.std.proofs.Common.{rules, ◌≡◌, Some, None, sym, ap, ◌∙◌}
use Rattle.std.specs.Prelude.{nat_lt, slice_get, length, ◌-◌, map, reverse}
use Rattle.jwalk_subtotals.specs.Stack.{frame, is_above}
use Rattle.jwalk_subtotals.proofs.LastFacts.{some_last, none_last, reverse_last}
use Rattle.jwalk_subtotals.proofs.stack.Stack.is_above.Goals as goal

pub returns-in-Some : goal.returns-in-Some
returns-in-Some g c =
    let items = c.args.self.now.«open».items in
    let is : slice_get c.deref.result.now (length c.deref.result.now - 1) ≡ Some c.in-Some.last.now = search rules in
    let ends = some_last items c.in-Some.last.now (rw (← c.deref.ensures.value) is) in
    ap (λ d. nat_lt d c.args.depth) c.depth.ensures ∙ ap (is_above c.args.depth) (sym (reverse_last frame items c.in-Some.last.now ends))

pub returns-in-None : goal.returns-in-None
returns-in-None g c =
    let is : slice_get c.deref.result.now (length c.deref.result.now - 1) ≡ None = search rules in
    ap (λ l. is_above c.args.depth (map frame (reverse l))) (sym (none_last c.args.self.now.«open».items (rw (← c.deref.ensures.value) is)))
