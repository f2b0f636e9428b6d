-- Where the specification at the next address is.
use Rattle.std.specs.Prelude.{◌≢◌, []}
use Rattle.jwalk_order.specs.Addressed.{addresses_of}
use Rattle.jwalk_order.specs.Addresses.{IsAmong}
use Rattle.jwalk_order.specs.Frontier.{next_address}
use Rattle.jwalk_board.specs.Board.{Board}

module _ {T R : Type 0} where
  -- There is a next address, and its specification is queued. It is then the least that is queued.
  abbrev pub IsNextQueued : Board T R → Type 0
  IsNextQueued b = (b.frontier ≢ []) × IsAmong (next_address b.frontier) (addresses_of b.queued)
