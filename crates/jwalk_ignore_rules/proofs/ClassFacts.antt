-- How the items of a class are read on.
use Prim.Native.Nat.{zero}
use Rattle.std.proofs.Common.{◌≡◌, ℕ, suc, ◌<◌, ◌-◌, List, [], ◌∷◌, ◌++◌, Option, Some, false, length, drop, ap, subst, refl, sym, ◌∙◌, arith}
use Rattle.std.proofs.Math.Seq.{drop-nil}
use Rattle.jwalk_ignore_rules.specs.Pattern.Class.{closes, items_in}
use Rattle.jwalk_ignore_rules.specs.Pattern.ItemRead.{item_in}
use Rattle.jwalk_ignore_rules.specs.declared.pattern.class_item.ClassItem.{ClassItem}
use Rattle.jwalk_ignore_rules.specs.declared.pattern.item_read.ItemRead.{ItemRead}

-- bytes that an item in front takes are left out
skipped : (items : List ClassItem) (last : Option ℕ) (skip : ℕ) (text : List ℕ) → items_in items last skip text ≡ items_in items last 0 (drop skip text)
skipped items last skip [] = ap (items_in items last 0) (sym (drop-nil skip))
skipped items last zero (byte ∷ behind) = refl
skipped items last (suc skip) (byte ∷ behind) = skipped items last skip behind

-- reading on behind one item
pub next_item : (items : List ClassItem) (last : Option ℕ) (byte : ℕ) (behind : List ℕ) (read : ItemRead) → closes byte (length items) ≡ false
    → item_in last (byte ∷ behind) ≡ Some read → 0 < read.len
    → items_in items last 0 (byte ∷ behind) ≡ items_in (items ++ read.item ∷ []) read.last 0 (drop read.len (byte ∷ behind))
next_item items last byte behind read open_on found some =
    let more : List ClassItem = items ++ read.item ∷ [] in
    let len : suc (read.len - 1) ≡ read.len = omega arith in
    let rest : items_in more read.last (read.len - 1) behind ≡ items_in more read.last 0 (drop read.len (byte ∷ behind)) =
    skipped more read.last (read.len - 1) behind ∙ ap (λ (k : ℕ). items_in more read.last 0 (drop k (byte ∷ behind))) len in
    simp (open_on, found) rest

-- the same of a text that begins with this byte
pub next_item_of : (items : List ClassItem) (last : Option ℕ) (text : List ℕ) (byte : ℕ) (behind : List ℕ) (read : ItemRead) → text ≡ byte ∷ behind
    → closes byte (length items) ≡ false → item_in last text ≡ Some read → 0 < read.len
    → items_in items last 0 text ≡ items_in (items ++ read.item ∷ []) read.last 0 (drop read.len text)
next_item_of items last text byte behind read is open_on found some =
    subst (λ (t : List ℕ). item_in last t ≡ Some read → items_in items last 0 t ≡ items_in (items ++ read.item ∷ []) read.last 0 (drop read.len t)) (sym is)
    (λ found_there. next_item items last byte behind read open_on found_there some) found
