-- The items of a text, one after another.
use Rattle.std.proofs.Common.{◌≡◌, ◌∙◌, ◌≤◌, ◌<◌, arith, ◌+◌, ℕ, List, [], ◌∷◌, ◌++◌, length, drop, ap, sym, append_assoc}
use Rattle.std.proofs.Math.ListN.{get_or}
use Rattle.std.proofs.lemmas.List.{drop_more}
use Rattle.seek_braces.specs.Item.{after_item, item_of, items_in}
use Rattle.seek_braces.specs.Place.{after}
use Rattle.seek_braces.specs.declared.item.Item.{Item}
use Rattle.seek_braces.specs.declared.item.Item.TheVariants.{Byte, Open, Comma, Close}
use Rattle.seek_braces.specs.declared.place.Place.{Place}

-- one more item
pub next_item : (items : List Item) (place : Place) (depth : ℕ) (text : List ℕ) (at d : ℕ) → at < length text
    → items ++ items_in place depth (drop at text)
    ≡ (items ++ item_of place depth (get_or text at d) ∷ []) ++ items_in (after place (get_or text at d)) (after_item depth (item_of place depth (get_or text at d))) (drop (at + 1) text)
next_item items place depth text at d below =
    let byte = get_or text at d in
    ap (λ l. items ++ items_in place depth l) (drop_more text at d below)
    ∙ sym (append_assoc items (item_of place depth byte ∷ []) (items_in (after place byte) (after_item depth (item_of place depth byte)) (drop (at + 1) text)))

-- an item opens at most one brace
pub one_more_open : (depth : ℕ) (item : Item) → after_item depth item ≤ depth + 1
one_more_open depth (Byte byte) = omega arith
one_more_open depth Open = omega arith
one_more_open depth Comma = omega arith
one_more_open depth Close = omega arith
