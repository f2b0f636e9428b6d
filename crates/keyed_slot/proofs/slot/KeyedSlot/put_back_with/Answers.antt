use Rattle.std.proofs.Common.{Some, rules, ◌∙◌, sym, ap, subst, refl}
use Rattle.atomic_table.specs.Table.{Allows}
use Rattle.keyed_slot.specs.Rule.{IsKept, PutsWith}
use Rattle.keyed_slot.proofs.RuleFacts.{carries_place, carries_new, puts_value_with}
use Rattle.keyed_slot.proofs.slot.KeyedSlot.put_back_with.Goals as goal

pub exchange-requires : goal.exchange-requires
exchange-requires g c = (c.requires.opens.table, carries_place _ c.args.key.now.seat.me.1 c.requires.out c.requires.opens.carries)

pub store-requires : goal.store-requires
store-requires g c =
    let tag = c.args.self.now.table.shared.key.tag.value in
    let key = c.args.key.now.seat in
    let seat = c.exchange.new.seat in
    let is = carries_new _ key.me seat.me c.args.value c.requires.out c.requires.opens.carries c.exchange.ensures.3 in
    let kept = puts_value_with g.X.Marked.fits g.X.Marked.mark tag seat.id seat.me _ c.args.value is c.requires.opens.has_key c.requires.out c.requires.fits in (
      search rules,
      search rules,
      subst (λ n. Allows (IsKept g.X.Marked.fits g.X.Marked.mark tag) n seat.id seat.me 0 (λ _. 0) (λ _ after. PutsWith g.X.Marked.mark seat.me after)) (sym c.args.self.now.sized.1) kept,
    )

pub returns-clause-opens : goal.returns-clause-opens
returns-clause-opens g c =
    let key = c.args.key.now.seat in
    let is = carries_new _ key.me c.exchange.new.seat.me c.args.value c.requires.out c.requires.opens.carries c.exchange.ensures.3 in
    let after = c.store.ensures.2 c.args.value (ap (λ m. m.1) is) in
    record {
      table = search rules;
      has_key = ap (λ m. m.0.has_key) after;
      tag = ap (λ m. m.0.tag) after ∙ ap (λ m. m.0.tag) is ∙ c.requires.opens.tag;
      carries = rw after refl;
    }

pub returns-clause-home : goal.returns-clause-home
returns-clause-home g c =
    let key = c.args.key.now.seat in
    let is = carries_new _ key.me c.exchange.new.seat.me c.args.value c.requires.out c.requires.opens.carries c.exchange.ensures.3 in
    ap (λ m. m.0.holds) (c.store.ensures.2 c.args.value (ap (λ m. m.1) is))

pub returns-clause-mark : goal.returns-clause-mark
returns-clause-mark g c =
    let key = c.args.key.now.seat in
    let is = carries_new _ key.me c.exchange.new.seat.me c.args.value c.requires.out c.requires.opens.carries c.exchange.ensures.3 in
    ap (λ m. m.0.mark) (c.store.ensures.2 c.args.value (ap (λ m. m.1) is))

pub returns-clause-put : goal.returns-clause-put
returns-clause-put g c =
    let key = c.args.key.now.seat in
    let is = carries_new _ key.me c.exchange.new.seat.me c.args.value c.requires.out c.requires.opens.carries c.exchange.ensures.3 in
    ap (λ m. (m.0.took, m.0.put)) (c.store.ensures.2 c.args.value (ap (λ m. m.1) is)) ∙ ap (λ m. (m.0.took, Some c.args.value)) is
