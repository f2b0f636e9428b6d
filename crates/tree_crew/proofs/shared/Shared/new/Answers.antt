use Rattle.std.proofs.Common.{ap, box_value}
use Rattle.tree_crew.proofs.OriginFacts.{new_of}
use Rattle.tree_crew.proofs.ReadAheadFacts.{new_within, same_within}
use Rattle.tree_crew.proofs.SharedFacts.{same_of}
use Rattle.tree_crew.proofs.shared.Shared.new.Goals as goal

pub new-requires-2 : goal.new-requires-2
new-requires-2 g c = (
  same_of _ _ _ _
      (new_of g.J.Plan c.args.tag.now.origin.value _ _ c.requires.alike c.in_ok-board.ensures)
      (ap box_value c.new.ensures),
  same_within _ _ _ (ap box_value c.new.ensures) (new_within _ _ _ c.in_ok-board.ensures),
)
