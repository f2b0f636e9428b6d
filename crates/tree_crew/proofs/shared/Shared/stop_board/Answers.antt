use Rattle.std.proofs.Common.{◌∙◌, sym, ap}
use Rattle.tree_crew.proofs.OriginFacts.{stopped_of}
use Rattle.tree_crew.proofs.ReadAheadFacts.{same_within, stopped_within}
use Rattle.tree_crew.proofs.SharedFacts.{same_of, stopped_frontier}
use Rattle.tree_crew.proofs.HandledFacts.{receipt_for}
use Rattle.tree_crew.proofs.shared.Shared.stop_board.Goals as goal

pub put_back-requires-clause-board : goal.put_back-requires-clause-board
put_back-requires-clause-board g c = stopped_of _ _ _ _ (same_of _ _ _ _ c.in_ok-board.ensures.board c.deref_mut.ensures.value) c.stop.ensures

pub put_back-requires-clause-within : goal.put_back-requires-clause-within
put_back-requires-clause-within g c = stopped_within _ c.deref_mut.result.now c.stop.new.self c.stop.ensures (same_within _ _ _ c.deref_mut.ensures.value c.in_ok-board.ensures.within)

pub put_back-requires-clause-mark : goal.put_back-requires-clause-mark
put_back-requires-clause-mark g c = stopped_frontier c.deref_mut.result.now c.stop.new.self c.stop.ensures ∙ (ap (λ b. b.frontier) c.deref_mut.ensures.value ∙ sym c.in_ok-board.ensures.mark)

pub put_back-requires-clause-owed : goal.put_back-requires-clause-owed
put_back-requires-clause-owed g c = c.in_ok-board.ensures.owed

pub returns-clause-stopped : goal.returns-clause-stopped
returns-clause-stopped g c = receipt_for _ _ _ _ _ _ _ c.put_back.ensures.slot c.put_back.ensures.taken c.in_ok-board.ensures.lent c.deref_mut.ensures.value c.put_back.ensures.put c.stop.ensures
