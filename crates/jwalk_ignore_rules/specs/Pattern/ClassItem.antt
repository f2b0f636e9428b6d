-- What is listed between the brackets of a class.
use Rattle.std.specs.Prelude.{ℕ, Bool, ◌||◌, List, if◌then◌else◌}
use Rattle.std.specs.Char.{to_ascii_lowercase, to_ascii_uppercase}
use Rattle.std.specs.List.{list_any}
use Rattle.jwalk_ignore_rules.specs.Pattern.ByteClass.{within, class_has}
use Rattle.jwalk_ignore_rules.specs.declared.pattern.class_item.ClassItem.{ClassItem}
use Rattle.jwalk_ignore_rules.specs.declared.pattern.class_item.ClassItem.TheVariants.{Range, Named}

-- whether an item has a byte
abbrev pub item_has : ClassItem → ℕ → Bool
item_has (Range low high) byte = within low high byte
item_has (Named class) byte = class_has class byte

-- whether an item takes a byte: in either case of letters by its small or its capital letter
abbrev pub item_takes : Bool → ClassItem → ℕ → Bool
item_takes either_case item byte =
    if either_case then item_has item (to_ascii_lowercase byte) || item_has item (to_ascii_uppercase byte) else item_has item byte

-- whether one of the items takes a byte
abbrev pub lists : Bool → List ClassItem → ℕ → Bool
lists either_case items byte = list_any (λ item. item_takes either_case item byte) items
