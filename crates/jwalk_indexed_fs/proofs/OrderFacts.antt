-- The order of a listing by names.
use Rattle.std.proofs.Common.{◌≡◌, ◌∙◌, ℕ, List, Option, Some, None, true, false, map, refl, ap}
use Rattle.std.specs.Ordering.{nat_cmp, is_lt}
use Rattle.std.specs.Cmp.{IsStrictWeakOrder}
use Rattle.std.specs.Cmp.Lexicographic.{slice_cmp}
use Rattle.std.specs.List.Sorted.{IsSortedBy, IsStableBy}
use Rattle.std.proofs.lemmas.Cmp.{nat_list_cmp_total}
use Rattle.std.proofs.lemmas.List.Sorted.{ranks_by}
use Rattle.jwalk_model.specs.FileSystem.{Listed}
use Rattle.jwalk_model.proofs.SortingFacts.{insertion_sorted-unique, map-insertion_sorted}
use Rattle.jwalk_indexed_fs.specs.Listing.{name_of, name_before, listed_before, in_order}

texts : IsStrictWeakOrder (λ (a b : List ℕ). is_lt (slice_cmp nat_cmp a b))
texts = ranks_by nat_list_cmp_total (λ (x : List ℕ). x)

pub one_way : (x y : Option (List ℕ)) → name_before x y ≡ true → name_before y x ≡ false
one_way (Some a) (Some b) e = texts.one_way a b e
one_way (Some a) None e = refl
one_way None y e = cc

pub chain : (x y z : Option (List ℕ)) → name_before x y ≡ false → name_before y z ≡ false → name_before x z ≡ false
chain (Some a) (Some b) (Some c) e f = texts.chain a b c e f
chain (Some a) (Some b) None e f = f
chain (Some a) None z e f = cc
chain None y z e f = refl

-- the order of values that can be seen as items of a listing
pub order-through : {T : Type 0} (view : T → Listed) → IsStrictWeakOrder (λ a b. listed_before (view a) (view b))
order-through view = record {
  one_way = λ x y. one_way (name_of (view x)) (name_of (view y));
  chain = λ x y z. chain (name_of (view x)) (name_of (view y)) (name_of (view z));
}

-- for a stable sort of a list of such values
pub in_order-map : {T : Type 0} (view : T → Listed) (l m : List T) → IsSortedBy (λ a b. listed_before (view a) (view b)) m → IsStableBy (λ a b. listed_before (view a) (view b)) l m → map view m ≡ in_order (map view l)
in_order-map view l m h k =
    ap (map view) (insertion_sorted-unique (λ a b. listed_before (view a) (view b)) (order-through view) l m h k)
    ∙ map-insertion_sorted listed_before view l
