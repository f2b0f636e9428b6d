use Rattle.std.proofs.Common.{rules, Some, refl, subst, Bool}
use Rattle.keyed_slot.specs.Keyed.{Carries}
use Rattle.keyed_slot.proofs.RuleFacts.{none_carried, takes_value_with}
use Rattle.keyed_slot.proofs.slot.KeyedSlot.take_with.Goals as goal

pub swap-requires : goal.swap-requires
swap-requires g c =
    let seat = c.args.key.now.seat in
    let none = none_carried seat.me.1 (subst (λ (b : Bool). Carries b seat.me.1) c.requires.home c.requires.opens.carries) in (
      search rules,
      search rules,
      takes_value_with g.X.Marked.fits g.X.Marked.mark c.args.self.now.table.shared.key.tag.value _ seat.id seat.me.0 seat.me.1 c.requires.opens.has_key c.requires.home c.requires.opens.tag none,
    )

pub exchange-requires : goal.exchange-requires
exchange-requires g c =
    let taken = (c.swap.ensures.2.0 c.if-swap-ne0.false).0 in
    (search rules, (Some taken.value, rw taken.is refl))
