-- How the items of a class are read.
use Rattle.std.specs.Prelude.{ℕ, Bool, ◌<◌, ◌≤◌, ◌+◌, ◌-◌, ◌==◌, List, [], ◌∷◌, Option, Some, None, position, take, get_or, if◌then◌else◌}
use Rattle.std.specs.Option.{option_and_then}
use Rattle.jwalk_ignore_rules.specs.Pattern.ByteClass.{class_by_name}
use Rattle.jwalk_ignore_rules.specs.declared.pattern.byte_class.ByteClass.{ByteClass}
use Rattle.jwalk_ignore_rules.specs.declared.pattern.class_item.ClassItem.TheVariants.{Range, Named}
use Rattle.jwalk_ignore_rules.specs.declared.pattern.item_read.ItemRead.{ItemRead}

-- one byte
abbrev pub single : ℕ → ℕ → ItemRead
single byte len = record { item = Range byte byte; last = Some byte; len = len }

-- `\a`, behind the backslash
abbrev pub escaped_in : List ℕ → Option ItemRead
escaped_in [] = None
escaped_in (byte ∷ behind) = Some (single byte 2)

-- the bytes between two
abbrev pub range : ℕ → ℕ → ℕ → ItemRead
range low high len = record { item = Range low high; last = None; len = len }

-- `a-\z`, behind the backslash
abbrev pub escaped_range : ℕ → List ℕ → Option ItemRead
escaped_range low [] = None
escaped_range low (high ∷ behind) = Some (range low high 3)

-- `a-z`, behind the hyphen: the end may have a backslash in front
abbrev pub range_in : ℕ → List ℕ → Option ItemRead
range_in low [] = None
range_in low (high ∷ behind) = if high == 92 then escaped_range low behind else Some (range low high 2)

-- the class of a name, of an item of this length
abbrev pub named_item : Option ByteClass → ℕ → Option ItemRead
named_item None len = None
named_item (Some class) len = Some (record { item = Named class; last = None; len = len })

-- whether a byte closes a class
abbrev pub is_close : ℕ → Bool
is_close byte = byte == 93

-- `[:alpha:]`, from the name on, of which the closing bracket is known: without a colon in front of it `[` means itself
abbrev pub named_up_to : List ℕ → ℕ → Option ItemRead
named_up_to behind end =
    if get_or (take end behind) (end - 1) 0 == 58 then named_item (class_by_name (take (end - 1) behind)) (end + 3) else Some (single 91 1)

-- `[:alpha:]`, from the name on
abbrev pub named_in : List ℕ → Option ItemRead
named_in behind = option_and_then (named_up_to behind) (position is_close behind)

-- an item that begins with a hyphen: a range if a byte is in front that it can begin with, and the class doesn't close
-- behind it
abbrev pub hyphen_in : Option ℕ → List ℕ → Option ItemRead
hyphen_in None behind = Some (single 45 1)
hyphen_in (Some low) [] = Some (single 45 1)
hyphen_in (Some low) (high ∷ behind) = if is_close high then Some (single 45 1) else range_in low (high ∷ behind)

-- an item that begins with a bracket: a named class if a colon follows
abbrev pub bracket_in : List ℕ → Option ItemRead
bracket_in [] = Some (single 91 1)
bracket_in (byte ∷ behind) = if byte == 58 then named_in behind else Some (single 91 1)

-- the first item of a text, behind an item with this last byte; none if it is malformed
abbrev pub item_in : Option ℕ → List ℕ → Option ItemRead
item_in last [] = None
item_in last (byte ∷ behind) =
    if byte == 92 then escaped_in behind
    else if byte == 45 then hyphen_in last behind
    else if byte == 91 then bracket_in behind
    else Some (single byte 1)

-- an item takes a byte or more, and at most this many
abbrev pub IsWithin : ℕ → ItemRead → Type 0
IsWithin most read = (0 < read.len) × (read.len ≤ most)
