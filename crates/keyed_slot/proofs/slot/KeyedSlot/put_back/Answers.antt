use Rattle.std.proofs.Common.{true, refl, rules, sym, subst}
use Rattle.atomic_table.specs.Table.{Allows}
use Rattle.keyed_slot.specs.Rule.{IsKept, Puts}
use Rattle.keyed_slot.proofs.RuleFacts.{carries_place, puts_value}
use Rattle.keyed_slot.proofs.slot.KeyedSlot.put_back.Goals as goal

pub exchange-requires : goal.exchange-requires
exchange-requires g c = (c.requires.owed.table, carries_place true c.args.loan.seat.me.1 refl c.requires.owed.carries)

pub store-requires : goal.store-requires
store-requires g c =
    let tag = c.args.self.now.table.shared.key.tag.value in
    let seat = c.exchange.new.seat in
    let kept = puts_value g.X.Marked.fits g.X.Marked.mark tag seat.id seat.me _ c.args.value _ c.exchange.ensures.3 c.requires.owed.out c.requires.fits c.requires.mark in (
      search rules,
      search rules,
      subst (λ n. Allows (IsKept g.X.Marked.fits g.X.Marked.mark tag) n seat.id seat.me 0 (λ _. 0) (λ _ after. Puts seat.me after)) (sym c.args.self.now.sized.1) kept,
    )
