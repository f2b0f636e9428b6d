-- The texts that a glob with braces is short for.
use Rattle.std.specs.Prelude.{ℕ, nat_le, List, [], ◌∷◌, ◌++◌, length, map, Option, None, Some, if◌then◌else◌}
use Rattle.seek_braces.specs.Item.{items_in}
use Rattle.seek_braces.specs.declared.item.Item.{Item}
use Rattle.seek_braces.specs.declared.item.Item.TheVariants.{Byte, Open, Comma, Close}
use Rattle.seek_braces.specs.declared.place.Place.TheVariants.{Outside}

-- A group that was read from its end, up to one of its alternatives: the texts of what is behind the group, and the
-- texts that begin with the alternatives behind that one.
pub record Group : Type 0 where
  pub behind : List (List ℕ)
  pub others : List (List ℕ)

-- What was read of a glob, from its end: its texts, with one alternative of each group that isn't open yet, and these
-- groups.
pub record Read : Type 0 where
  pub texts : List (List ℕ)
  pub groups : List Group

-- a byte in front: each text begins with it
abbrev pub with_byte : ℕ → Read → Read
with_byte byte read = record { texts = map (λ text. byte ∷ text) read.texts; groups = read.groups }

-- a `}` in front: another group's last alternative
abbrev pub with_close : Read → Read
with_close read = record { texts = read.texts; groups = record { behind = read.texts; others = [] } ∷ read.groups }

-- a comma in front: the next alternative, before what is behind the group; outside of groups it is a byte
abbrev pub with_comma : List (List ℕ) → List Group → Read
with_comma texts [] = with_byte 44 (record { texts = texts; groups = [] })
with_comma texts (group ∷ groups) =
    record { texts = group.behind; groups = record { behind = group.behind; others = texts ++ group.others } ∷ groups }

-- a `{` in front: the texts of all alternatives; outside of groups it is a byte
abbrev pub with_open : List (List ℕ) → List Group → Read
with_open texts [] = with_byte 123 (record { texts = texts; groups = [] })
with_open texts (group ∷ groups) = record { texts = texts ++ group.others; groups = groups }

-- an item in front
abbrev pub with_item : Item → Read → Read
with_item (Byte byte) read = with_byte byte read
with_item Open read = with_open read.texts read.groups
with_item Comma read = with_comma read.texts read.groups
with_item Close read = with_close read

-- what items are
abbrev pub read_of : List Item → Read
read_of [] = record { texts = [] ∷ []; groups = [] }
read_of (item ∷ items) = with_item item (read_of items)

-- the texts that a glob is short for
abbrev pub expanded : List ℕ → List (List ℕ)
expanded text = (read_of (items_in Outside 0 text)).texts

-- the same if there are at most 1,024 of them
abbrev pub expansions : List ℕ → Option (List (List ℕ))
expansions text = if nat_le (length (expanded text)) 1024 then Some (expanded text) else None
