-- What rules in force count as, and how they are read from that.
use Rattle.std.specs.Prelude.{ℕ, Bool, true, false, List, [], ◌∷◌, ◌==◌, if◌then◌else◌}
use Rattle.jwalk_model.specs.Counted.{Worth, blank, number, bytes, both}
use Rattle.jwalk_ignore_rules.specs.Pattern.ByteTest.{ByteTest, Byte, EitherCase, Any, OneOf}
use Rattle.jwalk_ignore_rules.specs.Rules.Chain.{Chain, Link}
use Rattle.jwalk_ignore_rules.specs.Pattern.{Pattern}
use Rattle.jwalk_ignore_rules.specs.declared.pattern.byte_class.ByteClass.{ByteClass}
use Rattle.jwalk_ignore_rules.specs.declared.pattern.byte_class.ByteClass.TheVariants.{Alnum, Alpha, Blank, Cntrl, Digit, Graph, Lower, Print, Punct, Space, Upper, Xdigit}
use Rattle.jwalk_ignore_rules.specs.declared.pattern.class_item.ClassItem.{ClassItem}
use Rattle.jwalk_ignore_rules.specs.declared.pattern.class_item.ClassItem.TheVariants.{Range, Named}
use Rattle.jwalk_ignore_rules.specs.declared.pattern.part.Part.{Part}
use Rattle.jwalk_ignore_rules.specs.declared.pattern.part.Part.TheVariants.{Many, One}

-- a truth value, as 1 or 0
abbrev pub bool_worth : Bool → Worth
bool_worth true = number 1
bool_worth false = number 0

abbrev pub bool_in : Worth → Bool
bool_in (number n) = n == 1
bool_in _ = false

-- a number
abbrev pub number_in : Worth → ℕ
number_in (number n) = n
number_in _ = 0

-- a text
abbrev pub bytes_in : Worth → List ℕ
bytes_in (bytes text) = text
bytes_in _ = []

-- the two parts of a pair
abbrev pub first_in : Worth → Worth
first_in (both first second) = first
first_in _ = blank

abbrev pub second_in : Worth → Worth
second_in (both first second) = second
second_in _ = blank

-- a list, its first item beside the others
abbrev pub list_worth : {X : Type 0} → (X → Worth) → List X → Worth
list_worth worth [] = blank
list_worth worth (x ∷ xs) = both (worth x) (list_worth worth xs)

abbrev pub list_in : {X : Type 0} → (Worth → X) → Worth → List X
list_in item_in (both first second) = item_in first ∷ list_in item_in second
list_in item_in _ = []

-- a named class, by its place among them
abbrev pub class_number : ByteClass → ℕ
class_number Alnum = 0
class_number Alpha = 1
class_number Blank = 2
class_number Cntrl = 3
class_number Digit = 4
class_number Graph = 5
class_number Lower = 6
class_number Print = 7
class_number Punct = 8
class_number Space = 9
class_number Upper = 10
class_number Xdigit = 11

abbrev pub class_at : ℕ → ByteClass
class_at n =
    if n == 0 then Alnum
    else if n == 1 then Alpha
    else if n == 2 then Blank
    else if n == 3 then Cntrl
    else if n == 4 then Digit
    else if n == 5 then Graph
    else if n == 6 then Lower
    else if n == 7 then Print
    else if n == 8 then Punct
    else if n == 9 then Space
    else if n == 10 then Upper
    else Xdigit

-- an item of a class
abbrev pub item_worth : ClassItem → Worth
item_worth (Range low high) = both (number low) (number high)
item_worth (Named class) = number (class_number class)

abbrev pub item_in : Worth → ClassItem
item_in (both low high) = Range (number_in low) (number_in high)
item_in (number n) = Named (class_at n)
item_in _ = Range 0 0

-- what one byte is compared with
abbrev pub test_worth : ByteTest → Worth
test_worth (Byte byte) = number byte
test_worth (EitherCase byte) = bytes (byte ∷ [])
test_worth Any = blank
test_worth (OneOf class) = both (both (bool_worth class.negated) (bool_worth class.either_case)) (list_worth item_worth class.items)

abbrev pub test_in : Worth → ByteTest
test_in (number byte) = Byte byte
test_in (bytes (byte ∷ [])) = EitherCase byte
test_in (both flags items) = OneOf (record { negated = bool_in (first_in flags); either_case = bool_in (second_in flags); items = list_in item_in items })
test_in _ = Any

-- a part of a pattern
abbrev pub part_worth : {T : Type 0} → (T → Worth) → Part T → Worth
part_worth worth Many = blank
part_worth worth (One test) = both blank (worth test)

abbrev pub part_in : {T : Type 0} → (Worth → T) → Worth → Part T
part_in test_in (both mark test) = One (test_in test)
part_in test_in _ = Many

-- a pattern of one name
abbrev pub name_worth : List (Part ByteTest) → Worth
name_worth glob = list_worth (part_worth test_worth) glob

abbrev pub name_in : Worth → List (Part ByteTest)
name_in worth = list_in (part_in test_in) worth

-- a pattern
abbrev pub pattern_worth : Pattern → Worth
pattern_worth pattern = both (bool_worth pattern.keeps) (both (bool_worth pattern.only_dirs) (list_worth (part_worth name_worth) pattern.parts))

abbrev pub pattern_in_worth : Worth → Pattern
pattern_in_worth worth = record {
  keeps = bool_in (first_in worth);
  only_dirs = bool_in (first_in (second_in worth));
  parts = list_in (part_in name_in) (second_in (second_in worth));
}

-- the rules of one file
abbrev pub link_worth : Link → Worth
link_worth link = both (number link.before) (list_worth pattern_worth link.patterns)

abbrev pub link_in : Worth → Link
link_in worth = record { before = number_in (first_in worth); patterns = list_in pattern_in_worth (second_in worth) }

-- the rules in force
abbrev pub chain_worth : Chain → Worth
chain_worth chain =
    both (both (bytes chain.front) (both (number chain.root_len) (bool_worth chain.in_repository)))
    (both (both (list_worth link_worth chain.fdignore) (list_worth link_worth chain.ignore))
    (both (list_worth link_worth chain.gitignore) (list_worth link_worth chain.exclude)))

abbrev pub chain_in : Worth → Chain
chain_in worth = record {
  front = bytes_in (first_in (first_in worth));
  root_len = number_in (first_in (second_in (first_in worth)));
  in_repository = bool_in (second_in (second_in (first_in worth)));
  fdignore = list_in link_in (first_in (first_in (second_in worth)));
  ignore = list_in link_in (second_in (first_in (second_in worth)));
  gitignore = list_in link_in (first_in (second_in (second_in worth)));
  exclude = list_in link_in (second_in (second_in (second_in worth)));
}

-- the rules beside another state, and with others in their place
abbrev pub rules_of : Worth → Chain
rules_of state = chain_in (first_in state)

abbrev pub with_chain : Chain → Worth → Worth
with_chain chain state = both (chain_worth chain) (second_in state)
