-- Where a byte of a glob is.
use Rattle.std.specs.Prelude.{ℕ, ◌==◌, ◌||◌, if◌then◌else◌}
use Rattle.seek_braces.specs.declared.place.Place.{Place}
use Rattle.seek_braces.specs.declared.place.Place.TheVariants.{Outside, Escaped, Begun, Negated, Class, ClassEscaped, Bracket, Name, Colon}

-- the place behind a byte that doesn't end a class
abbrev pub after_item : ℕ → Place
after_item byte = if byte == 92 then ClassEscaped else if byte == 91 then Bracket else Class

-- the place behind a byte in a class
abbrev pub after_class : ℕ → Place
after_class byte = if byte == 93 then Outside else after_item byte

-- the place behind a byte in the name of a class; a name has no backslash, and ends with `:]`
abbrev pub after_name : ℕ → Place
after_name byte = if byte == 58 then Colon else if byte == 92 then ClassEscaped else if byte == 93 then Outside else Name

-- The place behind a byte. A class is what is between square brackets. It has an item, may begin with a `!` or a `^`,
-- and may have names of classes, as `[:alpha:]`.
abbrev pub after : Place → ℕ → Place
after Outside byte = if byte == 92 then Escaped else if byte == 91 then Begun else Outside
after Escaped byte = Outside
after Begun byte = if byte == 33 || byte == 94 then Negated else after_item byte
after Negated byte = after_item byte
after Class byte = after_class byte
after ClassEscaped byte = Class
after Bracket byte = if byte == 58 then Name else after_class byte
after Name byte = after_name byte
after Colon byte = if byte == 93 then Class else after_name byte
