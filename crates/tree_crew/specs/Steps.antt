-- What a worker's turn does to a board.
use Rattle.std.specs.Prelude.{◌≡◌, ◌⊎◌, ℕ, Bool, true}
use Rattle.jwalk_board.specs.Board.{Board, Takes}
use Rattle.jwalk_board.specs.Refusal.{RefusesTake}
use Rattle.jwalk_board.specs.declared.board.refusal.TakeRefusal.TheVariants.{Stopped, Empty, Done, Memory}
use Rattle.tree_crew.specs.declared.steps.Turn.{Turn}
use Rattle.tree_crew.specs.declared.steps.Turn.TheVariants as turn
use Rattle.tree_crew.specs.ReadAhead.{HoldsBack, MayTake}

-- The next specification is taken, if a worker may take something. Or none is queued, or what is queued may not be taken yet, and nothing changes. Or the board is done or stopped. Or memory runs out, which stops it.
abbrev pub Turns : {T R A : Type 0} → ℕ → Bool → Board T R → Turn T A → Board T R → Type 0
Turns limit is_full old (turn.Read item) new = MayTake limit is_full old × Takes item old new
Turns limit is_full old turn.Empty new = RefusesTake old Empty × (new ≡ old)
Turns limit is_full old turn.Full new = HoldsBack limit is_full old × (new ≡ old)
Turns limit is_full old turn.End new = ((RefusesTake old Done ⊎ RefusesTake old Stopped) × (new ≡ old)) ⊎ (RefusesTake old Memory × (new ≡ record old { stopped = true }))
