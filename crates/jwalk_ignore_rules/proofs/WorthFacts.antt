-- Rules in force are read from what they count as.
use Rattle.std.proofs.Common.{◌≡◌, ◌∙◌, Bool, true, false, List, [], ◌∷◌, ap, refl}
use Rattle.jwalk_model.specs.Counted.{Worth}
use Rattle.jwalk_ignore_rules.specs.Pattern.ByteTest.{ByteTest, Byte, EitherCase, Any, OneOf}
use Rattle.jwalk_ignore_rules.specs.Rules.Chain.{Chain, Link}
use Rattle.jwalk_ignore_rules.specs.Rules.ChainWorth.{bool_worth, bool_in, list_worth, list_in, class_number, class_at, item_worth, item_in, test_worth, test_in, part_worth, part_in, name_worth, name_in, pattern_worth, pattern_in_worth, link_worth, link_in, chain_worth, chain_in}
use Rattle.jwalk_ignore_rules.specs.Pattern.Class.{ClassValue}
use Rattle.jwalk_ignore_rules.specs.Pattern.{Pattern}
use Rattle.jwalk_ignore_rules.specs.declared.pattern.byte_class.ByteClass.{ByteClass}
use Rattle.jwalk_ignore_rules.specs.declared.pattern.byte_class.ByteClass.TheVariants.{Alnum, Alpha, Blank, Cntrl, Digit, Graph, Lower, Print, Punct, Space, Upper, Xdigit}
use Rattle.jwalk_ignore_rules.specs.declared.pattern.class_item.ClassItem.{ClassItem}
use Rattle.jwalk_ignore_rules.specs.declared.pattern.class_item.ClassItem.TheVariants.{Range, Named}
use Rattle.jwalk_ignore_rules.specs.declared.pattern.part.Part.{Part}
use Rattle.jwalk_ignore_rules.specs.declared.pattern.part.Part.TheVariants.{Many, One}

bool_back : (b : Bool) → bool_in (bool_worth b) ≡ b
bool_back true = refl
bool_back false = refl

list_back : {X : Type 0} (worth : X → Worth) (back : Worth → X) → ((x : X) → back (worth x) ≡ x) → (xs : List X) → list_in back (list_worth worth xs) ≡ xs
list_back worth back is [] = refl
list_back worth back is (x ∷ xs) = ap (λ (y : _). y ∷ list_in back (list_worth worth xs)) (is x) ∙ ap (λ (ys : List _). x ∷ ys) (list_back worth back is xs)

class_back : (class : ByteClass) → class_at (class_number class) ≡ class
class_back Alnum = refl
class_back Alpha = refl
class_back Blank = refl
class_back Cntrl = refl
class_back Digit = refl
class_back Graph = refl
class_back Lower = refl
class_back Print = refl
class_back Punct = refl
class_back Space = refl
class_back Upper = refl
class_back Xdigit = refl

item_back : (i : ClassItem) → item_in (item_worth i) ≡ i
item_back (Range low high) = refl
item_back (Named class) = ap Named (class_back class)

-- a record of three
three : {X Y Z V : Type 0} (make : X → Y → Z → V) {x x' : X} {y y' : Y} {z z' : Z} → x ≡ x' → y ≡ y' → z ≡ z' → make x y z ≡ make x' y' z'
three make {x} {x'} {y} {y'} {z} {z'} p q r = ap (λ (a : _). make a y z) p ∙ ap (λ (a : _). make x' a z) q ∙ ap (make x' y') r

class_value_back : (c : ClassValue) → test_in (test_worth (OneOf c)) ≡ OneOf c
class_value_back c = three (λ (negated : Bool) (either_case : Bool) (items : List ClassItem). OneOf (record { negated = negated; either_case = either_case; items = items }))
    (bool_back c.negated) (bool_back c.either_case) (list_back item_worth item_in item_back c.items)

test_back : (t : ByteTest) → test_in (test_worth t) ≡ t
test_back (Byte byte) = refl
test_back (EitherCase byte) = refl
test_back Any = refl
test_back (OneOf class) = class_value_back class

part_back : {T : Type 0} (worth : T → Worth) (back : Worth → T) → ((t : T) → back (worth t) ≡ t) → (p : Part T) → part_in back (part_worth worth p) ≡ p
part_back worth back is Many = refl
part_back worth back is (One t) = ap One (is t)

name_back : (glob : List (Part ByteTest)) → name_in (name_worth glob) ≡ glob
name_back glob = list_back (part_worth test_worth) (part_in test_in) (part_back test_worth test_in test_back) glob

pattern_back : (p : Pattern) → pattern_in_worth (pattern_worth p) ≡ p
pattern_back p = three (λ (keeps : Bool) (only_dirs : Bool) (parts : List (Part (List (Part ByteTest)))). let made : Pattern = record { keeps = keeps; only_dirs = only_dirs; parts = parts } in made)
    (bool_back p.keeps) (bool_back p.only_dirs) (list_back (part_worth name_worth) (part_in name_in) (part_back name_worth name_in name_back) p.parts)

link_back : (l : Link) → link_in (link_worth l) ≡ l
link_back l = ap (λ (patterns : List Pattern). let made : Link = record { before = l.before; patterns = patterns } in made) (list_back pattern_worth pattern_in_worth pattern_back l.patterns)

links_back : (ls : List Link) → list_in link_in (list_worth link_worth ls) ≡ ls
links_back ls = list_back link_worth link_in link_back ls

-- the rules in force are those that are read back
pub chain_back : (c : Chain) → chain_in (chain_worth c) ≡ c
chain_back c =
    let read : List Link → List Link = λ links. list_in link_in (list_worth link_worth links) in
    ap (λ (b : Bool). let made : Chain = record { front = c.front; root_len = c.root_len; in_repository = b; fdignore = read c.fdignore; ignore = read c.ignore; gitignore = read c.gitignore; exclude = read c.exclude } in made) (bool_back c.in_repository)
    ∙ ap (λ (f : List Link). let made : Chain = record { front = c.front; root_len = c.root_len; in_repository = c.in_repository; fdignore = f; ignore = read c.ignore; gitignore = read c.gitignore; exclude = read c.exclude } in made) (links_back c.fdignore)
    ∙ three (λ (a : List Link) (g : List Link) (e : List Link). let made : Chain = record { front = c.front; root_len = c.root_len; in_repository = c.in_repository; fdignore = c.fdignore; ignore = a; gitignore = g; exclude = e } in made)
    (links_back c.ignore) (links_back c.gitignore) (links_back c.exclude)
