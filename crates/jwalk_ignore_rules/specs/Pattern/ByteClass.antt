-- The named classes of bytes.
use Rattle.std.specs.Prelude.{ℕ, Bool, ◌==◌, ◌&&◌, ◌||◌, nat_le, List, Option, Some, None, codes, bytes_eq, if◌then◌else◌}
use Rattle.jwalk_ignore_rules.specs.declared.pattern.byte_class.ByteClass.{ByteClass}
use Rattle.jwalk_ignore_rules.specs.declared.pattern.byte_class.ByteClass.TheVariants.{Alnum, Alpha, Blank, Cntrl, Digit, Graph, Lower, Print, Punct, Space, Upper, Xdigit}

-- a byte from the first to the second
abbrev pub within : ℕ → ℕ → ℕ → Bool
within low high byte = nat_le low byte && nat_le byte high

-- `0` to `9`
abbrev pub is_digit : ℕ → Bool
is_digit byte = within 48 57 byte

-- `A` to `Z`
abbrev pub is_upper : ℕ → Bool
is_upper byte = within 65 90 byte

-- `a` to `z`
abbrev pub is_lower : ℕ → Bool
is_lower byte = within 97 122 byte

-- whether a class has a byte
abbrev pub class_has : ByteClass → ℕ → Bool
class_has Alnum byte = is_digit byte || is_upper byte || is_lower byte
class_has Alpha byte = is_upper byte || is_lower byte
class_has Blank byte = byte == 9 || byte == 32
class_has Cntrl byte = within 0 31 byte || byte == 127
class_has Digit byte = is_digit byte
class_has Graph byte = within 33 126 byte
class_has Lower byte = is_lower byte
class_has Print byte = within 32 126 byte
class_has Punct byte = within 33 47 byte || within 58 64 byte || within 91 96 byte || within 123 126 byte
class_has Space byte = byte == 9 || byte == 10 || byte == 13 || byte == 32
class_has Upper byte = is_upper byte
class_has Xdigit byte = is_digit byte || within 65 70 byte || within 97 102 byte

-- the class of a name
abbrev pub class_by_name : List ℕ → Option ByteClass
class_by_name name =
    if bytes_eq name (codes "xdigit") then Some Xdigit
    else if bytes_eq name (codes "alnum") then Some Alnum
    else if bytes_eq name (codes "alpha") then Some Alpha
    else if bytes_eq name (codes "blank") then Some Blank
    else if bytes_eq name (codes "cntrl") then Some Cntrl
    else if bytes_eq name (codes "digit") then Some Digit
    else if bytes_eq name (codes "graph") then Some Graph
    else if bytes_eq name (codes "lower") then Some Lower
    else if bytes_eq name (codes "print") then Some Print
    else if bytes_eq name (codes "punct") then Some Punct
    else if bytes_eq name (codes "space") then Some Space
    else if bytes_eq name (codes "upper") then Some Upper
    else None
