-- What is kept of a listing that is given on.
use Rattle.std.proofs.Common.{◌≡◌, ◌∙◌, ◌++◌, ◌&&◌, Bool, true, false, cond, List, [], ◌∷◌, ℕ, Option, Some, None, Ok, map, refl, sym, ap, subst, if◌then◌else◌}
use Rattle.std.specs.Prelude.{filter}
use Rattle.std.proofs.lemmas.List.{map-append}
use Rattle.std.proofs.lemmas.List.Elements.{filter-append}
use Rattle.jwalk_model.specs.FileSystem.{Listed, Functions}
use Rattle.jwalk_model.specs.declared.metadata.Moment.{Moment}
use Rattle.jwalk_indexed_fs.specs.Listing.{bare, in_order, typed_answer}
use Rattle.jwalk_indexed_fs.specs.Index.{HasStamp, IsRecordOf}
use Rattle.jwalk_indexed_fs.specs.Taken.{is_seen, is_whole, seen_items, IsKeptOf}
use Rattle.jwalk_indexed_fs.specs.declared.records.Record.{Record}
use Rattle.jwalk_indexed_fs.specs.declared.stamp.Stamp.{Stamp}

-- one more item
pub seen_more : (xs : List Listed) (x : Listed) → seen_items (xs ++ x ∷ []) ≡ seen_items xs ++ seen_items (x ∷ [])
seen_more xs x = ap (map bare) (filter-append is_seen xs (x ∷ [])) ∙ map-append bare (filter is_seen xs) (filter is_seen (x ∷ []))

and_true : (b : Bool) → (b && true) ≡ b
and_true true = refl
and_true false = refl

and_assoc : (a b c : Bool) → (a && (b && c)) ≡ ((a && b) && c)
and_assoc true b c = refl
and_assoc false b c = refl

pub whole_more : (xs : List Listed) (x : Listed) → is_whole (xs ++ x ∷ []) ≡ (is_whole xs && is_seen x)
whole_more [] x = and_true (is_seen x)
whole_more (y ∷ ys) x = ap (λ b. is_seen y && b) (whole_more ys x) ∙ and_assoc (is_seen y) (is_whole ys) (is_seen x)

-- of a whole listing all items are kept
both_true : (a b : Bool) → (a && b) ≡ true → (a ≡ true) × (b ≡ true)
both_true true b h = (refl, h)
both_true false b h = cc

pub whole_seen : (xs : List Listed) → is_whole xs ≡ true → seen_items xs ≡ map bare xs
whole_seen [] h = refl
whole_seen (x ∷ xs) h =
    let both = both_true (is_seen x) (is_whole xs) h in
    ap (λ b. map bare (cond b (x ∷ filter is_seen xs) (filter is_seen xs))) both.0 ∙ ap (λ l. bare x ∷ l) (whole_seen xs both.1)

pub if_some : (b : Bool) (kept : Option Stamp) (s : Stamp) → (if b then kept else None) ≡ Some s → (b ≡ true) × (kept ≡ Some s)
if_some true kept s h = (refl, h)
if_some false kept s h = cc

-- what is kept of a listing that a fixed file system returns is a record of it
pub is_record_of : (start : Moment) (fs : Functions) (path : List ℕ) (items : List Listed) (r : Record) → IsKeptOf start items r → fs.list_of path ≡ Ok items → ((s : Stamp) → r.stamp ≡ Some s → HasStamp fs path s) → (s : Stamp) → r.stamp ≡ Some s → IsRecordOf start fs path r s
is_record_of start fs path items r kept lists there s has = record {
  settled = kept.settled s has;
  is_there = there s has;
  held = ap typed_answer lists ∙ ap Ok (sym (kept.names ∙ ap in_order (whole_seen items (kept.whole s has))));
}
