-- When a call of a board fails.
use Rattle.std.specs.Prelude.{◌≡◌, ◌≢◌, ℕ, true, false, List, [], ◌⊎◌}
use Rattle.jwalk_order.specs.Frontier.{next_address}
use Rattle.jwalk_order.specs.Addresses.{IsAmong}
use Rattle.jwalk_board.specs.Board.{Board}
use Rattle.jwalk_order.specs.Addressed.{addresses_of}
use Rattle.jwalk_board.specs.declared.board.refusal.TakeRefusal.{TakeRefusal}
use Rattle.jwalk_board.specs.declared.board.refusal.TakeRefusal.TheVariants as taking
use Rattle.jwalk_board.specs.declared.board.refusal.FinishRefusal.{FinishRefusal}
use Rattle.jwalk_board.specs.declared.board.refusal.FinishRefusal.TheVariants as finishing
use Rattle.jwalk_board.specs.declared.board.refusal.HandOutRefusal.{HandOutRefusal}
use Rattle.jwalk_board.specs.declared.board.refusal.HandOutRefusal.TheVariants as handing_out

module _ {T R : Type 0} where
  abbrev pub RefusesTake : Board T R → TakeRefusal → Type 0
  RefusesTake b taking.Stopped = b.stopped ≡ true
  RefusesTake b taking.Empty = (b.stopped ≡ false) × (b.queued ≡ []) × (b.in_hand ≢ [])
  RefusesTake b taking.Done = (b.stopped ≡ false) × (b.queued ≡ []) × (b.in_hand ≡ [])
  RefusesTake b taking.Memory = (b.stopped ≡ false) × (b.queued ≢ [])

  abbrev pub RefusesFinish : Board T R → List ℕ → FinishRefusal → Type 0
  RefusesFinish b a finishing.Stopped = b.stopped ≡ true
  RefusesFinish b a finishing.NotInHand = (b.stopped ≡ false) × (¬ IsAmong a b.in_hand)
  RefusesFinish b a finishing.Memory = (b.stopped ≡ false) × IsAmong a b.in_hand

  abbrev pub RefusesHandOut : Board T R → HandOutRefusal → Type 0
  RefusesHandOut b handing_out.Stopped = b.stopped ≡ true
  RefusesHandOut b handing_out.Done = (b.stopped ≡ false) × (b.frontier ≡ [])
  RefusesHandOut b handing_out.NotReady = (b.stopped ≡ false) × (b.frontier ≢ []) × (IsAmong (next_address b.frontier) (addresses_of b.queued) ⊎ IsAmong (next_address b.frontier) b.in_hand)
  RefusesHandOut b handing_out.Memory = (b.stopped ≡ false) × (b.frontier ≢ []) × IsAmong (next_address b.frontier) (addresses_of b.ready)
