-- Ascending lists, and what they have at a path.
use Rattle.std.proofs.Common.{◌≡◌, Bool, true, false, cond, List, [], ◌∷◌, ◌++◌, Option, Some, None, refl, ap, ◌∙◌, subst}
use Rattle.std.specs.List.{AllByRecursion}
use Rattle.jwalk_changes.specs.AtPath.{is_before, is_same}
use Rattle.jwalk_changes.specs.Differences.{Ascends, at}
use Rattle.jwalk_changes.proofs.OrderFacts.{Path, same_itself, before_trans, before_is_other, before_is_other_back}

module _ {X : Type 0} where
  pub all_front : (P : X → Type 0) (xs ys : List X) → AllByRecursion P (xs ++ ys) → AllByRecursion P xs
  all_front P [] ys all = tt
  all_front P (x ∷ xs) ys all = (all.0, all_front P xs ys all.1)

  pub all_map : (P Q : X → Type 0) → ((x : X) → P x → Q x) → (xs : List X) → AllByRecursion P xs → AllByRecursion Q xs
  all_map P Q f [] all = tt
  all_map P Q f (x ∷ xs) all = (f x all.0, all_map P Q f xs all.1)

module _ {X : Type 0} (path : X → Path) where
  pub ascends_front : (xs ys : List X) → Ascends path (xs ++ ys) → Ascends path xs
  ascends_front [] ys all = tt
  ascends_front (x ∷ xs) ys all = (all_front (λ y. is_before (path x) (path y) ≡ true) xs ys all.0, ascends_front xs ys all.1)

  pub ascends_back : (xs ys : List X) → Ascends path (xs ++ ys) → Ascends path ys
  ascends_back [] ys all = all
  ascends_back (x ∷ xs) ys all = ascends_back xs ys all.1

  -- what comes before the first comes before all
  pub before_all : (p : Path) (x : X) (xs : List X) → is_before p (path x) ≡ true → Ascends path (x ∷ xs) → AllByRecursion (λ y. is_before p (path y) ≡ true) (x ∷ xs)
  before_all p x xs first all = (first, all_map (λ y. is_before (path x) (path y) ≡ true) (λ y. is_before p (path y) ≡ true) (λ y more. before_trans p (path x) (path y) first more) xs all.0)

  pub ascends_cons : (x y : X) (ys : List X) → is_before (path x) (path y) ≡ true → Ascends path (y ∷ ys) → Ascends path (x ∷ y ∷ ys)
  ascends_cons x y ys first all = (before_all (path x) y ys first all, all)

  at_some_by : (Q : X → Type 0) (p : Path) (y x : X) (b : Bool) (o : Option X) → is_same (path y) p ≡ b → Q y
      → (o ≡ Some x → Q x × (is_same (path x) p ≡ true)) → cond b (Some y) o ≡ Some x → Q x × (is_same (path x) p ≡ true)
  at_some_by Q p y x true o same q on is =
      let e : y ≡ x = cc in
      (subst Q e q, subst (λ (z : X). is_same (path z) p ≡ true) e same)
  at_some_by Q p y x false o same q on is = on is

  -- nothing is at a path that comes before all
  pub at_none : (p : Path) (xs : List X) → AllByRecursion (λ y. is_before p (path y) ≡ true) xs → at path p xs ≡ None
  at_none p [] all = refl
  at_none p (x ∷ xs) all = ap (λ b. cond b (Some x) (at path p xs)) (before_is_other_back p (path x) all.0) ∙ at_none p xs all.1

  -- What is at a path has it, and what holds of all holds of it.
  pub at_some : (Q : X → Type 0) (p : Path) (xs : List X) (x : X) → AllByRecursion Q xs → at path p xs ≡ Some x → Q x × (is_same (path x) p ≡ true)
  at_some Q p [] x all is = absurd (cc is)
  at_some Q p (y ∷ ys) x all is = at_some_by Q p y x (is_same (path y) p) (at path p ys) refl all.0 (at_some Q p ys x all.1) is

  found_on : (x : X) (xs ys : List X) → AllByRecursion (λ y. is_before (path x) (path y) ≡ true) ys → AllByRecursion (λ y. at path (path y) xs ≡ Some y) ys → AllByRecursion (λ y. at path (path y) (x ∷ xs) ≡ Some y) ys
  found_on x xs [] after all = tt
  found_on x xs (y ∷ ys) after all = (ap (λ b. cond b (Some x) (at path (path y) xs)) (before_is_other (path x) (path y) after.0) ∙ all.0, found_on x xs ys after.1 all.1)

  -- Each item of an ascending list is at its path.
  pub all_found : (xs : List X) → Ascends path xs → AllByRecursion (λ x. at path (path x) xs ≡ Some x) xs
  all_found [] all = tt
  all_found (x ∷ xs) all = (ap (λ b. cond b (Some x) (at path (path x) xs)) (same_itself (path x)), found_on x xs xs all.0 (all_found xs all.1))
