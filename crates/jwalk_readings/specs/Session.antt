-- A session as a value.
use Rattle.std.specs.Prelude.{ℕ, List}
use Rattle.jwalk_readings.specs.declared.session.Session.{Session}
use Rattle.jwalk_readings.specs.Origin.{Origin, begun}
use Rattle.tree_crew.specs.Session as tree

module _ {W C S P A R E : Type 0} where
  -- where the readings of a session come from
  abbrev pub origin_of : Session W C S P A R E → Origin C S P A R E
  origin_of session = begun (tree.origin_of session.readings)

  -- how many of them may be ready or in hand
  abbrev pub read_ahead_of : Session W C S P A R E → ℕ
  read_ahead_of session = tree.read_ahead_of session.readings

  -- the addresses of the readings that it still has to give, the next one first
  abbrev pub awaited_by : Session W C S P A R E → List (List ℕ)
  awaited_by session = tree.awaited_by session.readings
