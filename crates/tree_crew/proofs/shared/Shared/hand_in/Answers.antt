use Rattle.std.proofs.Common.{◌∙◌, sym, ap}
use Rattle.tree_crew.proofs.OriginFacts.{children_are}
use Rattle.tree_crew.proofs.ReadAheadFacts.{handed_in_within, same_within}
use Rattle.tree_crew.proofs.SharedFacts.{same_of, handed_in_of, handed_in_frontier}
use Rattle.tree_crew.proofs.HandledFacts.{receipt_for}
use Rattle.tree_crew.proofs.shared.Shared.hand_in.Goals as goal

pub put_back-requires-clause-board : goal.put_back-requires-clause-board
put_back-requires-clause-board g c = handed_in_of _ _ _ _ (same_of _ _ _ _ c.in-Ok.ensures.board c.deref_mut.ensures.value) (children_are g.J.Plan g.met.J.Plan.as_given) _ _ _ c.requires c.finish.ensures

pub put_back-requires-clause-within : goal.put_back-requires-clause-within
put_back-requires-clause-within g c = handed_in_within _ _ _ _ _ _ c.finish.ensures (same_within _ _ _ c.deref_mut.ensures.value c.in-Ok.ensures.within)

pub put_back-requires-clause-mark : goal.put_back-requires-clause-mark
put_back-requires-clause-mark g c = handed_in_frontier _ _ _ _ _ c.finish.ensures ∙ (ap (λ b. b.frontier) c.deref_mut.ensures.value ∙ sym c.in-Ok.ensures.mark)

pub put_back-requires-clause-owed : goal.put_back-requires-clause-owed
put_back-requires-clause-owed g c = c.in-Ok.ensures.owed

pub returns-in-Ok-clause-handed_in : goal.returns-in-Ok-clause-handed_in
returns-in-Ok-clause-handed_in g c =
    receipt_for _ _ _ _ _ _ _ c.put_back.ensures.slot c.put_back.ensures.taken c.in-Ok.ensures.lent c.deref_mut.ensures.value c.put_back.ensures.put c.finish.ensures
