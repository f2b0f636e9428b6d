-- A list that is made of a listing, and then sorted: the listing may be sorted first.
use Rattle.std.proofs.Common.{◌≡◌, ◌∙◌, ◌++◌, Bool, true, false, cond, List, [], ◌∷◌, ℕ, Option, map, refl, sym, ap}
use Rattle.std.specs.Prelude.{flat_map}
use Rattle.std.specs.Cmp.{IsStrictWeakOrder}
use Rattle.std.proofs.lemmas.List.{append_assoc}
use Rattle.jwalk_model.specs.FileSystem.{Listed}
use Rattle.jwalk_model.proofs.SortingFacts.{inserted, insertion_sorted}
use Rattle.jwalk_indexed_fs.specs.Listing.{name_of, name_before, listed_before, put, in_order}

-- two elements that are put into a list, of which the second must come first
module _ {X : Type 0} (lt : X → X → Bool) (o : IsStrictWeakOrder lt) where
  swapped_by : (a b w : X) (ws : List X) (p q : Bool) → lt b a ≡ true → lt a b ≡ false → lt w a ≡ p → lt w b ≡ q → inserted lt b (inserted lt a ws) ≡ inserted lt a (inserted lt b ws) → inserted lt b (inserted lt a (w ∷ ws)) ≡ inserted lt a (inserted lt b (w ∷ ws))
  swapped_by a b w ws true true first not_last e f same = simp (e, f) (ap (λ l. w ∷ l) same)
  swapped_by a b w ws true false first not_last e f same = simp (e, f, first)
  swapped_by a b w ws false false first not_last e f same = simp (e, f, not_last, first)
  swapped_by a b w ws false true first not_last e f same = let no : lt w b ≡ false = o.chain w a b e not_last in absurd (let clash : true ≡ false = sym f ∙ no in cc)

  pub swapped : (a b : X) → lt b a ≡ true → (l : List X) → inserted lt b (inserted lt a l) ≡ inserted lt a (inserted lt b l)
  swapped a b first [] = simp (o.one_way b a first, first)
  swapped a b first (w ∷ ws) = swapped_by a b w ws (lt w a) (lt w b) first (o.one_way b a first) refl refl (swapped a b first ws)

  -- elements put into a list, the first last
  abbrev pub all_inserted : List X → List X → List X
  all_inserted [] l = l
  all_inserted (x ∷ xs) l = inserted lt x (all_inserted xs l)

  sorted-append : (xs l : List X) → insertion_sorted lt (xs ++ l) ≡ all_inserted xs (insertion_sorted lt l)
  sorted-append [] l = refl
  sorted-append (x ∷ xs) l = ap (inserted lt x) (sorted-append xs l)

  -- What is made of an item of a listing: nothing, or one element that is put in order by the item's name.
  module _ (key : X → Option (List ℕ)) (by_key : (x y : X) → lt x y ≡ name_before (key x) (key y)) where
    abbrev pub IsMadeOf : Option (List ℕ) → List X → Type 0
    IsMadeOf name [] = Unit {0}
    IsMadeOf name (x ∷ []) = key x ≡ name
    IsMadeOf name (x ∷ y ∷ l) = ⊥

    all_swapped : (n m : Option (List ℕ)) (xs ys l : List X) → IsMadeOf n xs → IsMadeOf m ys → name_before m n ≡ true → all_inserted ys (all_inserted xs l) ≡ all_inserted xs (all_inserted ys l)
    all_swapped n m [] ys l h k first = refl
    all_swapped n m (x ∷ []) [] l h k first = refl
    all_swapped n m (x ∷ []) (y ∷ []) l h k first = swapped x y (by_key y x ∙ ap (λ b. name_before b (key x)) k ∙ ap (name_before m) h ∙ first) l
    all_swapped n m (x ∷ []) (y ∷ z ∷ zs) l h k first = absurd k
    all_swapped n m (x ∷ z ∷ zs) ys l h k first = absurd h

    module _ (made : Listed → List X) (is_made : (item : Listed) → IsMadeOf (name_of item) (made item)) where
      abbrev sorted_of : List Listed → List X
      sorted_of items = insertion_sorted lt (flat_map made items)

      put_by : (x y : Listed) (ys : List Listed) (b : Bool) → listed_before y x ≡ b → sorted_of (put x ys) ≡ sorted_of (x ∷ ys) → sorted_of (cond b (y ∷ put x ys) (x ∷ y ∷ ys)) ≡ sorted_of (x ∷ y ∷ ys)
      put_by x y ys false first same = refl
      put_by x y ys true first same =
          sorted-append (made y) (flat_map made (put x ys))
          ∙ ap (all_inserted (made y)) (same ∙ sorted-append (made x) (flat_map made ys))
          ∙ all_swapped (name_of x) (name_of y) (made x) (made y) (sorted_of ys) (is_made x) (is_made y) first
          ∙ ap (all_inserted (made x)) (sym (sorted-append (made y) (flat_map made ys)))
          ∙ sym (sorted-append (made x) (made y ++ flat_map made ys))

      put_same : (x : Listed) (l : List Listed) → sorted_of (put x l) ≡ sorted_of (x ∷ l)
      put_same x [] = refl
      put_same x (y ∷ ys) = put_by x y ys (listed_before y x) refl (put_same x ys)

      pub sorted_first : (l : List Listed) → sorted_of (in_order l) ≡ sorted_of l
      sorted_first [] = refl
      sorted_first (x ∷ l) =
          put_same x (in_order l)
          ∙ sorted-append (made x) (flat_map made (in_order l))
          ∙ ap (all_inserted (made x)) (sorted_first l)
          ∙ sym (sorted-append (made x) (flat_map made l))
