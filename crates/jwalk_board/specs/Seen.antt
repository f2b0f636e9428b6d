-- A board as its values are seen.
use Rattle.std.specs.Prelude.{map}
use Rattle.jwalk_order.specs.declared.ordered.Ordered.{Ordered}
use Rattle.jwalk_board.specs.Board.{Board}
use Rattle.jwalk_order.specs.Addressed.{Addressed, addressed}

-- A value is seen at its address.
abbrev pub seen : {V W : Type 0} → (V → W) → Addressed V → Addressed W
seen view x = record { at = x.at; value = view x.value; child_count = x.child_count }

abbrev pub seen_item : {V W A : Type 0} → (V → W) → Ordered V A → Addressed W
seen_item view item = seen view (addressed item)

abbrev pub seen_board : {T R S Q : Type 0} → (T → S) → (R → Q) → Board T R → Board S Q
seen_board spec reading b = record {
  queued = map (seen spec) b.queued;
  in_hand = b.in_hand;
  ready = map (seen reading) b.ready;
  frontier = b.frontier;
  stopped = b.stopped;
}
