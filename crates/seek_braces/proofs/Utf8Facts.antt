-- The texts of a text are texts.
use Rattle.std.proofs.Common.{◌≡◌, ◌∙◌, ◌≤◌, ◌<◌, ◌==◌, ℕ, true, List, [], ◌∷◌, ◌++◌, map, encode_utf8_all, sym, refl, subst, arith, inl, inr}
use Rattle.std.specs.Prelude.{if◌then◌else◌, encode_utf8}
use Rattle.std.specs.List.{All, AllByRecursion}
use Rattle.std.specs.Str.{IsUtf8}
use Rattle.std.proofs.Math.ListN.{get_or}
use Rattle.std.proofs.Math.Utf8.{low_scalar, scalar, scalars}
use Rattle.std.proofs.lemmas.Bool.{and_parts, cases_lt, cond_both, cond-false, ne_eqb}
use Rattle.std.proofs.lemmas.List.{append-nil, get_or_default}
use Rattle.std.proofs.lemmas.List.Elements.{All-nil, All-cons, All-append, All-map, All-weaker, recursion_from_All}
use Rattle.std.proofs.lemmas.Str.{IsUtf8-nil, IsUtf8-append, IsUtf8-encode, encode_ascii, inside_one}
use Rattle.seek_braces.specs.Expanded.{Group, expanded, read_of, with_item}
use Rattle.seek_braces.specs.Item.{after_item, item_of, items_in}
use Rattle.seek_braces.specs.Place.{after}
use Rattle.seek_braces.specs.declared.item.Item.{Item}
use Rattle.seek_braces.specs.declared.item.Item.TheVariants.{Byte, Open, Comma, Close}
use Rattle.seek_braces.specs.declared.place.Place.{Place}
use Rattle.seek_braces.specs.declared.place.Place.TheVariants.{Outside, Escaped, Begun, Negated, Class, ClassEscaped, Bracket, Name, Colon}

abbrev AreTexts : List (List ℕ) → Type 0
AreTexts texts = All IsUtf8 texts

abbrev HaveTexts : List Group → Type 0
HaveTexts [] = Unit {0}
HaveTexts (group ∷ groups) = AreTexts group.behind × AreTexts group.others × HaveTexts groups

one : (byte : ℕ) → byte < 128 → IsUtf8 (byte ∷ [])
one byte below = subst IsUtf8 (encode_ascii byte below) (IsUtf8-encode byte (low_scalar byte (omega (arith, below))))

ascii_front : (byte : ℕ) → byte < 128 → (texts : List (List ℕ)) → AreTexts texts → AreTexts (map (λ t. byte ∷ t) texts)
ascii_front byte below texts are =
    All-map IsUtf8 (λ t. byte ∷ t) texts (All-weaker IsUtf8 (λ t. IsUtf8 (byte ∷ t)) (λ t is. IsUtf8-append (byte ∷ []) t (one byte below) is) texts are)

-- an item whose byte, if it is one, is of ASCII
abbrev IsAsciiItem : Item → Type 0
IsAsciiItem (Byte byte) = byte < 128
IsAsciiItem Open = Unit {0}
IsAsciiItem Comma = Unit {0}
IsAsciiItem Close = Unit {0}

item_texts : (item : Item) (texts : List (List ℕ)) (groups : List Group) → IsAsciiItem item → AreTexts texts → HaveTexts groups
    → AreTexts (with_item item (record { texts = texts; groups = groups })).texts × HaveTexts (with_item item (record { texts = texts; groups = groups })).groups
item_texts (Byte byte) texts groups ascii are have = (ascii_front byte ascii texts are, have)
item_texts Open texts [] ascii are have = (ascii_front 123 (omega arith) texts are, tt)
item_texts Open texts (g ∷ gs) ascii are have = (All-append IsUtf8 texts g.others are have.1, have.2)
item_texts Comma texts [] ascii are have = (ascii_front 44 (omega arith) texts are, tt)
item_texts Comma texts (g ∷ gs) ascii are have = (have.0, (have.0, All-append IsUtf8 texts g.others are have.1, have.2))
item_texts Close texts groups ascii are have = (are, (are, All-nil IsUtf8, have))

ascii_item : (place : Place) (depth byte : ℕ) → byte < 128 → IsAsciiItem (item_of place depth byte)
ascii_item Outside depth byte below =
    cond_both (byte == 123) Open (if byte == 44 then Comma else if byte == 125 then (if depth == 0 then Byte 125 else Close) else Byte byte) IsAsciiItem (λ e. tt)
    (λ e. cond_both (byte == 44) Comma (if byte == 125 then (if depth == 0 then Byte 125 else Close) else Byte byte) IsAsciiItem (λ e. tt)
    (λ e. cond_both (byte == 125) (if depth == 0 then Byte 125 else Close) (Byte byte) IsAsciiItem
    (λ e. cond_both (depth == 0) (Byte 125) Close IsAsciiItem (λ e. omega arith) (λ e. tt)) (λ e. below)))
ascii_item Escaped depth byte below = below
ascii_item Begun depth byte below = below
ascii_item Negated depth byte below = below
ascii_item Class depth byte below = below
ascii_item ClassEscaped depth byte below = below
ascii_item Bracket depth byte below = below
ascii_item Name depth byte below = below
ascii_item Colon depth byte below = below

-- other bytes are themselves
high_item : (place : Place) (depth byte : ℕ) → 128 ≤ byte → item_of place depth byte ≡ Byte byte
high_item Outside depth byte high =
    cond-false (byte == 123) Open (if byte == 44 then Comma else if byte == 125 then (if depth == 0 then Byte 125 else Close) else Byte byte) (ne_eqb byte 123 (λ e. absurd (omega (arith, high, e))))
    ∙ cond-false (byte == 44) Comma (if byte == 125 then (if depth == 0 then Byte 125 else Close) else Byte byte) (ne_eqb byte 44 (λ e. absurd (omega (arith, high, e))))
    ∙ cond-false (byte == 125) (if depth == 0 then Byte 125 else Close) (Byte byte) (ne_eqb byte 125 (λ e. absurd (omega (arith, high, e))))
high_item Escaped depth byte high = refl
high_item Begun depth byte high = refl
high_item Negated depth byte high = refl
high_item Class depth byte high = refl
high_item ClassEscaped depth byte high = refl
high_item Bracket depth byte high = refl
high_item Name depth byte high = refl
high_item Colon depth byte high = refl

-- what is read behind bytes that are no ASCII
high_front : (bytes : List ℕ) (P : List ℕ → Type 0) → AllByRecursion (λ byte. 128 ≤ byte) bytes → (rest : List ℕ) (depth : ℕ)
    → ((place : Place) → All (λ t. P (bytes ++ t)) (read_of (items_in place depth rest)).texts × HaveTexts (read_of (items_in place depth rest)).groups)
    → (place : Place) → All P (read_of (items_in place depth (bytes ++ rest))).texts × HaveTexts (read_of (items_in place depth (bytes ++ rest))).groups
high_front [] P high rest depth are place = are place
high_front (byte ∷ bytes) P high rest depth are place =
    let behind = high_front bytes (λ t. P (byte ∷ t)) high.1 rest depth are (after place byte) in
    let read = read_of (items_in (after place byte) depth (bytes ++ rest)) in
    subst (λ (item : Item). All P (with_item item (read_of (items_in (after place byte) (after_item depth item) (bytes ++ rest)))).texts
    × HaveTexts (with_item item (read_of (items_in (after place byte) (after_item depth item) (bytes ++ rest)))).groups)
    (sym (high_item place depth byte high.0)) (All-map P (λ t. byte ∷ t) read.texts behind.0, behind.1)

high_bytes : (char : ℕ) → 128 ≤ char → All (λ byte. 128 ≤ byte) (encode_utf8 char)
high_bytes char high k d within = elim (cases_lt (get_or (encode_utf8 char) k d) 128) [
  | inl below ↦
      let same : get_or (encode_utf8 char) k d ≡ get_or (encode_utf8 char) k 0 = get_or_default (encode_utf8 char) k d 0 within in
      let is : char ≡ get_or (encode_utf8 char) k 0 = inside_one char [] (encode_utf8 char) k (sym (append-nil (encode_utf8 char))) within (omega (arith, below, same)) in
      absurd (omega (arith, high, below, same, is))
  | inr above ↦ above
]

all_texts : (chars : List ℕ) → scalars chars ≡ true → (place : Place) (depth : ℕ)
    → AreTexts (read_of (items_in place depth (encode_utf8_all chars))).texts × HaveTexts (read_of (items_in place depth (encode_utf8_all chars))).groups
all_texts [] good place depth = (All-cons IsUtf8 [] [] IsUtf8-nil (All-nil IsUtf8), tt)
all_texts (char ∷ chars) good place depth =
    let parts = and_parts (scalar char) (scalars chars) good in
    elim (cases_lt char 128) [
      | inl below ↦
          let item = item_of place depth char in
          let rest = read_of (items_in (after place char) (after_item depth item) (encode_utf8_all chars)) in
          let behind = all_texts chars parts.1 (after place char) (after_item depth item) in
          subst (λ (front : List ℕ). AreTexts (read_of (items_in place depth (front ++ encode_utf8_all chars))).texts × HaveTexts (read_of (items_in place depth (front ++ encode_utf8_all chars))).groups)
          (sym (encode_ascii char below)) (item_texts item rest.texts rest.groups (ascii_item place depth char below) behind.0 behind.1)
      | inr above ↦
          high_front (encode_utf8 char) IsUtf8 (recursion_from_All (λ byte. 128 ≤ byte) (encode_utf8 char) (high_bytes char above)) (encode_utf8_all chars) depth
          (λ place'. let behind = all_texts chars parts.1 place' depth in
          (All-weaker IsUtf8 (λ t. IsUtf8 (encode_utf8 char ++ t)) (λ t is. IsUtf8-append (encode_utf8 char) t (IsUtf8-encode char parts.0) is) (read_of (items_in place' depth (encode_utf8_all chars))).texts behind.0, behind.1))
          place
    ]

pub expanded_texts : (text : List ℕ) → IsUtf8 text → All IsUtf8 (expanded text)
expanded_texts text is = subst (λ (bytes : List ℕ). All IsUtf8 (expanded bytes)) is.1.1 (all_texts is.0 is.1.0 Outside 0).0
