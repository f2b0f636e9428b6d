use Rattle.std.proofs.Common.{rules, Some, refl}
use Rattle.keyed_slot.proofs.RuleFacts.{takes_value}
use Rattle.keyed_slot.proofs.slot.KeyedSlot.take.Goals as goal

pub swap_new_seat-found-requires : goal.swap_new_seat-found-requires
swap_new_seat-found-requires g c =
    let begun = c.args.self.now.table.shared.key in
    (search rules, takes_value g.X.Marked.fits g.X.Marked.mark begun.tag.value _ (g.X.Marked.mark begun.value.value))

pub exchange-requires : goal.exchange-requires
exchange-requires g c =
    let taken = c.swap_new_seat-found.ensures.1.0 c.if-found-ne0.false in
    (c.swap_new_seat-found.ensures.0, (Some taken.value, rw taken.is refl))
