use Rattle.keyed_slot.proofs.RuleFacts.{begins}
use Rattle.keyed_slot.proofs.slot.KeyedSlot.new.Goals as goal

pub new-requires : goal.new-requires
new-requires g c =
    rw (c.of.ensures, c.of-2.ensures, c.push_reserved.ensures.items, c.in_ok-slots.ensures.items)
    (begins g.X.Marked.fits g.X.Marked.mark c.args.tag.now c.args.value c.requires)
