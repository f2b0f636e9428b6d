-- A session as a value.
use Rattle.std.specs.Prelude.{ℕ, List, box_value}
use Rattle.std.specs.Arc.{arc_value}
use Rattle.keyed_slot.specs.Keyed.{key_mark, tag_of}
use Rattle.tree_crew.specs.declared.session.Session.{Session}
use Rattle.tree_crew.specs.BoardTag.{limit_at, origin_at}
use Rattle.tree_crew.specs.Origin.{Origin}
use Rattle.tree_crew.specs.ReadAhead.{IsWithin}
use Rattle.tree_crew.specs.declared.board_tag.BoardTag.{BoardTag}
use Rattle.tree_crew.specs.declared.work.Work.{Work}

module _ {W T U J A : Type 0} where
  -- where the readings of a session come from
  abbrev pub origin_of : Session W T U J A → Origin T J
  origin_of session = origin_at (arc_value session.shared).work

  -- how many of them may be ready or in hand
  abbrev pub read_ahead_of : Session W T U J A → ℕ
  read_ahead_of session = limit_at (arc_value session.shared).work

  -- the addresses of the readings that it still has to give, the next one first
  abbrev pub awaited_by : Session W T U J A → List (List ℕ)
  awaited_by session = key_mark session.key

  -- Whatever fits the slot that the session's board is in while nobody works on it has at most as many readings ready or in hand as that, and one.
  abbrev pub HoldsWithin : (BoardTag T J A → Work T U J A → Type 0) → Session W T U J A → Type 0
  HoldsWithin fits session = (work : Work T U J A) → fits (tag_of (arc_value session.shared).work) work → IsWithin (read_ahead_of session) (box_value work.board)
