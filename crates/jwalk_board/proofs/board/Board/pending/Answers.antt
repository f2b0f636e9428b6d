use Rattle.jwalk_board.proofs.Opens.{holds_open}
use Rattle.jwalk_board.proofs.board.Board.pending.Goals as goal

pub returns-clause-holds_open : goal.returns-clause-holds_open
returns-clause-holds_open g c = rw (← c.self.view_is) (holds_open _ c.self.invariant)

pub returns-clause-whole : goal.returns-clause-whole
returns-clause-whole g c = rw (← c.self.view_is) c.self.invariant
