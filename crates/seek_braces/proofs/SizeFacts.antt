-- The number of texts.
use Rattle.std.proofs.Common.{◌≡◌, ◌∙◌, ◌≤◌, ◌<◌, ◌+◌, ◌==◌, ℕ, zero, suc, Bool, true, false, List, [], ◌∷◌, ◌++◌, Some, None, length, drop, nat_le, ap, sym, refl, subst, arith}
use Rattle.std.specs.Prelude.{if◌then◌else◌}
use Rattle.std.proofs.Math.ListN.{get_or}
use Rattle.std.proofs.lemmas.Bool.{cond_both, eqb-false, le-leb, lt-leb}
use Rattle.std.proofs.lemmas.List.{append-nil, drop_more, length-append, length-map, nil_from_length}
use Rattle.seek_braces.specs.Expanded.{Group, expanded, expansions, read_of, with_item}
use Rattle.seek_braces.specs.Item.{after_item, item_of, items_in}
use Rattle.seek_braces.specs.Place.{after}
use Rattle.seek_braces.specs.Reading.{forward, others_of, size, HoldsBy}
use Rattle.seek_braces.specs.declared.item.Item.{Item}
use Rattle.seek_braces.specs.declared.item.Item.TheVariants.{Byte, Open, Comma, Close}
use Rattle.seek_braces.specs.declared.place.Place.{Place}
use Rattle.seek_braces.specs.declared.place.Place.TheVariants.{Outside, Escaped, Begun, Negated, Class, ClassEscaped, Bracket, Name, Colon}
use Rattle.seek_braces.specs.declared.reading.OpenGroup.{OpenGroup}
use Rattle.seek_braces.proofs.ListFacts.{length-forward}

-- an item in front makes no text fewer
grows : (item : Item) (texts : List (List ℕ)) (groups : List Group) → length texts + length (others_of groups) ≤ size (with_item item (record { texts = texts; groups = groups }))
grows (Byte byte) texts groups = omega (arith, length-map texts (λ t. byte ∷ t))
grows Open texts [] = omega (arith, length-map texts (λ t. 123 ∷ t))
grows Open texts (g ∷ gs) = omega (arith, length-append texts g.others, length-append g.others (others_of gs))
grows Comma texts [] = omega (arith, length-map texts (λ t. 44 ∷ t))
grows Comma texts (g ∷ gs) = omega (arith, length-append texts g.others, length-append g.others (others_of gs), length-append (texts ++ g.others) (others_of gs))
grows Close texts groups = omega arith

more_items : (items : List Item) (at : ℕ) → size (read_of (drop at items)) ≤ size (read_of items)
more_items items zero = omega arith
more_items [] (suc at) = omega arith
more_items (item ∷ items) (suc at) =
    let before = more_items items at in
    let now = grows item (read_of items).texts (read_of items).groups in
    omega (arith, before, now)

-- once there are too many texts, there are too many at the end
pub too_many : (items : List Item) (at : ℕ) (d : Item) → at < length items → 1024 < size (with_item (get_or items at d) (read_of (drop (at + 1) items))) → 1024 < size (read_of items)
too_many items at d below over =
    let here : 1024 < size (read_of (drop at items)) = subst (λ (l : List Item). 1024 < size (read_of l)) (sym (drop_more items at d below)) over in
    let most = more_items items at in
    omega (arith, here, most)

-- what was read with one more item
pub next_read : (items : List Item) (at : ℕ) (d : Item) → at < length items → with_item (get_or items at d) (read_of (drop (at + 1) items)) ≡ read_of (drop at items)
next_read items at d below = ap read_of (sym (drop_more items at d below))

-- a brace closes only what is open
abbrev Possible : ℕ → Item → Type 0
Possible depth (Byte byte) = Unit {0}
Possible depth Open = Unit {0}
Possible depth Comma = Unit {0}
Possible depth Close = 0 < depth

open_one : (depth : ℕ) → (depth ≡ 0 → ⊥) → 0 < depth
open_one zero none = absurd (none refl)
open_one (suc depth) none = omega arith

possible : (place : Place) (depth byte : ℕ) → Possible depth (item_of place depth byte)
possible Outside depth byte =
    cond_both (byte == 123) Open (if byte == 44 then Comma else if byte == 125 then (if depth == 0 then Byte 125 else Close) else Byte byte) (Possible depth) (λ e. tt)
    (λ e. cond_both (byte == 44) Comma (if byte == 125 then (if depth == 0 then Byte 125 else Close) else Byte byte) (Possible depth) (λ e. tt)
    (λ e. cond_both (byte == 125) (if depth == 0 then Byte 125 else Close) (Byte byte) (Possible depth)
    (λ e. cond_both (depth == 0) (Byte 125) Close (Possible depth) (λ e. tt) (λ e. open_one depth (eqb-false depth 0 e))) (λ e. tt)))
possible Escaped depth byte = tt
possible Begun depth byte = tt
possible Negated depth byte = tt
possible Class depth byte = tt
possible ClassEscaped depth byte = tt
possible Bracket depth byte = tt
possible Name depth byte = tt
possible Colon depth byte = tt

enough : (item : Item) (depth : ℕ) (texts : List (List ℕ)) (groups : List Group) → Possible depth item → length groups ≤ after_item depth item → length (with_item item (record { texts = texts; groups = groups })).groups ≤ depth
enough (Byte byte) depth texts groups can most = most
enough Open depth texts [] can most = omega arith
enough Open depth texts (g ∷ gs) can most = omega (arith, most)
enough Comma depth texts [] can most = omega arith
enough Comma depth texts (g ∷ gs) can most = most
enough Close depth texts groups can most = omega (arith, can, most)

group_count : (place : Place) (depth : ℕ) (text : List ℕ) → length (read_of (items_in place depth text)).groups ≤ depth
group_count place depth [] = omega arith
group_count place depth (byte ∷ bytes) =
    let item = item_of place depth byte in
    let rest = read_of (items_in (after place byte) (after_item depth item) bytes) in
    enough item depth rest.texts rest.groups (possible place depth byte) (group_count (after place byte) (after_item depth item) bytes)

pub all_open : (text : List ℕ) → (read_of (items_in Outside 0 text)).groups ≡ []
all_open text =
    let most = group_count Outside 0 text in
    nil_from_length (read_of (items_in Outside 0 text)).groups (omega (arith, most))

-- the texts at the end
pub texts_held : (text : List ℕ) (kept : List (List ℕ)) (start : ℕ) (groups : List OpenGroup) → HoldsBy (read_of (items_in Outside 0 text)) kept start groups → forward kept ≡ expanded text
texts_held text kept start groups held =
    held.texts ∙ ap (λ (gs : List Group). expanded text ++ others_of gs) (all_open text) ∙ append-nil (expanded text)

chosen : (text : List ℕ) (b : Bool) → nat_le (length (expanded text)) 1024 ≡ b → (if b then Some (expanded text) else None) ≡ expansions text
chosen text b is = ap (λ (c : Bool). if c then Some (expanded text) else None) (sym is)

pub texts_fit : (text : List ℕ) (kept : List (List ℕ)) (start : ℕ) (groups : List OpenGroup) → HoldsBy (read_of (items_in Outside 0 text)) kept start groups → Some (forward kept) ≡ expansions text
texts_fit text kept start groups held =
    let same = texts_held text kept start groups held in
    let most : length (expanded text) ≤ 1024 = subst (λ n. n ≤ 1024) (sym (length-forward kept) ∙ ap length same) held.most in
    ap (λ (l : List (List ℕ)). Some l) same ∙ chosen text true (le-leb (length (expanded text)) 1024 most)

pub too_many_texts : (text : List ℕ) → 1024 < size (read_of (items_in Outside 0 text)) → None ≡ expansions text
too_many_texts text over =
    let all : length (others_of (read_of (items_in Outside 0 text)).groups) ≡ 0 = ap (λ (gs : List Group). length (others_of gs)) (all_open text) in
    chosen text false (lt-leb (length (expanded text)) 1024 (omega (arith, over, all)))
