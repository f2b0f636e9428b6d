-- The outcome of asking a board for the reading that is wanted.
use Rattle.std.specs.Prelude.{◌⊎◌, IsOk}
use Rattle.jwalk_order.specs.declared.ordered.Ordered.{Ordered}
use Rattle.jwalk_board.specs.Board.{Board, HandsOut}
use Rattle.jwalk_board.specs.declared.board.refusal.HandOutRefusal.TheVariants as refused
use Rattle.jwalk_job.specs.declared.read_dir_spec.ReadDirSpec.{ReadDirSpec}
use Rattle.tree_crew.specs.declared.arrival.Arrival.{Arrival}
use Rattle.tree_crew.specs.declared.arrival.Arrival.TheVariants.{Entered, Memory, Lost, Wait}
use Rattle.tree_crew.specs.Arrival as tree
use Rattle.tree_crew.specs.Arrival.{Refuses}
use Rattle.jwalk_readings.specs.declared.wanted.Wanted.{Wanted}
use Rattle.jwalk_readings.specs.Message.{Message, ran_out}
use Rattle.jwalk_readings.specs.Wanted.{Fits}

module _ {C S P A R E : Type 0} where
  -- The board hands out a reading, and it is another than the wanted one.
  pub record GivesOther (wanted : Wanted A) (old new : Board (ReadDirSpec C A R E) (Message C S P A R E)) : Type 0 where
    pub item : Ordered (Message C S P A R E) A
    pub hands_out : HandsOut item old new
    pub made : IsOk item.value.outcome
    pub other : ¬ Fits wanted item

  -- One hand-out, and the check of what it gave: the wanted reading, out of memory, none or another, or none yet.
  abbrev pub Arrives : Board (ReadDirSpec C A R E) (Message C S P A R E) → Wanted A → Arrival (Message C S P A R E) A → Board (ReadDirSpec C A R E) (Message C S P A R E) → Type 0
  Arrives old wanted (Entered item) new = HandsOut item old new × IsOk item.value.outcome × Fits wanted item
  Arrives old wanted Memory new = tree.Arrives {A = A} ran_out old Memory new
  Arrives old wanted Lost new = Refuses old refused.Done new ⊎ GivesOther wanted old new
  Arrives old wanted Wait new = Refuses old refused.NotReady new
