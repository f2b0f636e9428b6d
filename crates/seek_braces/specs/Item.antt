-- The items of a glob.
use Rattle.std.specs.Prelude.{ℕ, ◌+◌, ◌-◌, ◌==◌, List, [], ◌∷◌, if◌then◌else◌}
use Rattle.seek_braces.specs.Place.{after}
use Rattle.seek_braces.specs.declared.item.Item.{Item}
use Rattle.seek_braces.specs.declared.item.Item.TheVariants.{Byte, Open, Comma, Close}
use Rattle.seek_braces.specs.declared.place.Place.{Place}
use Rattle.seek_braces.specs.declared.place.Place.TheVariants.{Outside}

-- the item of a byte behind this many open braces: outside of classes, and not behind a backslash, `{` opens, `,`
-- separates, and `}` closes if there is an open brace
abbrev pub item_of : Place → ℕ → ℕ → Item
item_of Outside depth byte =
    if byte == 123 then Open else if byte == 44 then Comma else if byte == 125 then (if depth == 0 then Byte 125 else Close) else Byte byte
item_of place depth byte = Byte byte

-- the number of open braces behind an item
abbrev pub after_item : ℕ → Item → ℕ
after_item depth Open = depth + 1
after_item depth Close = depth - 1
after_item depth item = depth

-- the items of a text that begins at this place, behind this many open braces
abbrev pub items_in : Place → ℕ → List ℕ → List Item
items_in place depth [] = []
items_in place depth (byte ∷ bytes) =
    item_of place depth byte ∷ items_in (after place byte) (after_item depth (item_of place depth byte)) bytes
