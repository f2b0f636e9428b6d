-- Values at the children of an address, one more.
use Rattle.std.proofs.Common.{◌≡◌, ℕ, ◌++◌, List, [], ◌∷◌, length, map, sym, ap, ◌∙◌, arith}
use Rattle.std.specs.Prelude.{All}
use Rattle.std.proofs.lemmas.List.{map-append}
use Rattle.std.proofs.lemmas.List.FromFn.{map-range_with_len_more}
use Rattle.std.proofs.lemmas.List.Elements.{All-nil, All-cons, All-append}
use lib.ListN.{length-append}
use Rattle.jwalk_order.specs.Frontier.{children_from}
use Rattle.jwalk_order.specs.Ordered.{address_of, child_count_of}
use Rattle.jwalk_order.specs.declared.ordered.Ordered.{Ordered}

module _ {T A : Type 0} (l : List (Ordered T A)) (x : Ordered T A) where
  pub values_more : (values : List T) (value : T) → map (λ y. y.value) l ≡ values → x.value ≡ value → map (λ y. y.value) (l ++ x ∷ []) ≡ values ++ value ∷ []
  values_more values value h k = map-append (λ (y : Ordered T A). y.value) l (x ∷ []) ∙ ap (λ m. m ++ x.value ∷ []) h ∙ ap (λ v. values ++ v ∷ []) k

  pub addresses_more : (a : List ℕ) → map address_of l ≡ children_from 0 a (length l) → address_of x ≡ a ++ length l ∷ [] → map address_of (l ++ x ∷ []) ≡ children_from 0 a (length (l ++ x ∷ []))
  addresses_more a h k =
      map-append address_of l (x ∷ [])
      ∙ ap (λ m. m ++ address_of x ∷ []) h
      ∙ ap (λ b. children_from 0 a (length l) ++ b ∷ []) k
      ∙ sym (map-range_with_len_more (λ i. a ++ i ∷ []) 0 (length l) (length l) (omega arith))
      ∙ ap (children_from 0 a) (sym (length-append l (x ∷ [])))

  pub unread_more : All (λ y. child_count_of y ≡ 0) l → child_count_of x ≡ 0 → All (λ y. child_count_of y ≡ 0) (l ++ x ∷ [])
  unread_more h k = All-append (λ (y : Ordered T A). child_count_of y ≡ 0) l (x ∷ []) h (All-cons (λ (y : Ordered T A). child_count_of y ≡ 0) x [] k (All-nil _))
