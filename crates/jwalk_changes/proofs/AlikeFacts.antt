-- Ascending lists that have the same at each path.
use Rattle.std.proofs.Common.{◌≡◌, Bool, true, false, not, cond, List, [], ◌∷◌, Option, Some, None, refl, sym, ap, ap₂, ◌∙◌, subst}
use Rattle.std.specs.Prelude.{if◌then◌else◌}
use Rattle.std.specs.List.{AllByRecursion}
use Rattle.jwalk_changes.specs.declared.facts.Facts.{Facts}
use Rattle.jwalk_changes.specs.declared.change.Change.TheVariants.{Changed}
use Rattle.jwalk_changes.specs.AtPath.{is_before, is_same}
use Rattle.jwalk_changes.specs.Facts.{which, is_any}
use Rattle.jwalk_changes.specs.Change.{path_of, change, difference}
use Rattle.jwalk_changes.specs.Differences.{Ascends, at, is_within}
use Rattle.jwalk_changes.specs.Laws.{outside, AreAlike, AreEqual, DifferencesAreOne, NoneIfEqual}
use Rattle.jwalk_changes.proofs.OrderFacts.{Path, same_path, same_itself, not_before}
use Rattle.jwalk_changes.proofs.ListFacts.{before_all, at_none}

at_here : {X : Type 0} (path : X → Path) (x : X) (xs : List X) → at path (path x) (x ∷ xs) ≡ Some x
at_here path x xs = ap (λ b. cond b (Some x) (at path (path x) xs)) (same_itself (path x))

module _ {X Y : Type 0} (px : X → Path) (py : Y → Path) (R : X → Y → Type 0) where
  -- What two lists have at a path is alike.
  abbrev pub AtAlike : Option X → Option Y → Type 0
  AtAlike None None = Unit {0}
  AtAlike None (Some y) = ⊥
  AtAlike (Some x) None = ⊥
  AtAlike (Some x) (Some y) = R x y

  rest_at : (b : Bool) (x : X) (y : Y) (xs : List X) (ys : List Y) (p : Path) → is_same (px x) p ≡ b → is_same (py y) p ≡ b
      → AtAlike (at px p (x ∷ xs)) (at py p (y ∷ ys)) → (b ≡ true → at px p xs ≡ None) → (b ≡ true → at py p ys ≡ None) → AtAlike (at px p xs) (at py p ys)
  rest_at true x y xs ys p s t h f g = subst (λ (a : Option X). AtAlike a (at py p ys)) (sym (f refl)) (subst (λ (a : Option Y). AtAlike None a) (sym (g refl)) tt)
  rest_at false x y xs ys p s t h f g =
      subst (λ c. AtAlike (at px p xs) (cond c (Some y) (at py p ys))) t (subst (λ b. AtAlike (cond b (Some x) (at px p xs)) (at py p (y ∷ ys))) s h)

  alike_by : (b s : Bool) (x : X) (y : Y) (xs : List X) (ys : List Y) → is_before (px x) (py y) ≡ b → is_same (px x) (py y) ≡ s → Ascends px (x ∷ xs) → Ascends py (y ∷ ys)
      → ((p : Path) → AtAlike (at px p (x ∷ xs)) (at py p (y ∷ ys))) → (((p : Path) → AtAlike (at px p xs) (at py p ys)) → AreAlike px py R xs ys) → AreAlike px py R (x ∷ xs) (y ∷ ys)
  alike_by true s x y xs ys before same ax ay h on =
      absurd (subst (λ (a : Option Y). AtAlike (Some x) a) (at_none py (px x) (y ∷ ys) (before_all py (px x) y ys before ay))
      (subst (λ (a : Option X). AtAlike a (at py (px x) (y ∷ ys))) (at_here px x xs) (h (px x))))
  alike_by false true x y xs ys before same ax ay h on =
      let one : px x ≡ py y = same_path (px x) (py y) same in (
        one,
        subst (λ (a : Option Y). AtAlike (Some x) a) (ap (λ p. at py p (y ∷ ys)) one ∙ at_here py y ys)
            (subst (λ (a : Option X). AtAlike a (at py (px x) (y ∷ ys))) (at_here px x xs) (h (px x))),
        on (λ p. rest_at (is_same (px x) p) x y xs ys p refl (ap (λ q. is_same q p) (sym one)) (h p)
            (λ is. ap (λ q. at px q xs) (sym (same_path (px x) p is)) ∙ at_none px (px x) xs ax.0)
            (λ is. ap (λ q. at py q ys) (sym (same_path (px x) p is) ∙ one) ∙ at_none py (py y) ys ay.0)),
      )
  alike_by false false x y xs ys before same ax ay h on =
      absurd (subst (λ (a : Option X). AtAlike a (Some y)) (at_none px (py y) (x ∷ xs) (before_all px (py y) x xs (not_before (px x) (py y) before same) ax))
      (subst (λ (a : Option Y). AtAlike (at px (py y) (x ∷ xs)) a) (at_here py y ys) (h (py y))))

  -- Lists that are alike at each path are alike.
  pub alike : (xs : List X) (ys : List Y) → Ascends px xs → Ascends py ys → ((p : Path) → AtAlike (at px p xs) (at py p ys)) → AreAlike px py R xs ys
  alike [] [] ax ay h = tt
  alike [] (y ∷ ys) ax ay h = subst (λ (a : Option Y). AtAlike None a) (at_here py y ys) (h (py y))
  alike (x ∷ xs) [] ax ay h = subst (λ (a : Option X). AtAlike a None) (at_here px x xs) (h (px x))
  alike (x ∷ xs) (y ∷ ys) ax ay h = alike_by (is_before (px x) (py y)) (is_same (px x) (py y)) x y xs ys refl refl ax ay h (alike xs ys ax.1 ay.1)

  head_at : (b : Bool) (x : X) (y : Y) (o : Option X) (q : Option Y) → R x y → AtAlike o q → AtAlike (cond b (Some x) o) (cond b (Some y) q)
  head_at true x y o q r h = r
  head_at false x y o q r h = h

  -- and the other way round
  pub alike_at : (xs : List X) (ys : List Y) → AreAlike px py R xs ys → (p : Path) → AtAlike (at px p xs) (at py p ys)
  alike_at [] [] is p = tt
  alike_at [] (y ∷ ys) is p = absurd is
  alike_at (x ∷ xs) [] is p = absurd is
  alike_at (x ∷ xs) (y ∷ ys) is p =
      subst (λ q. AtAlike (at px p (x ∷ xs)) (cond (is_same q p) (Some y) (at py p ys))) is.0
      (head_at (is_same (px x) p) x y (at px p xs) (at py p ys) is.1 (alike_at xs ys is.2 p))

-- ---- one list

at_equal : {X : Type 0} (path : X → Path) (a b : Option X) → a ≡ b → AtAlike path path (λ x y. x ≡ y) a b
at_equal path None None is = tt
at_equal path None (Some y) is = absurd (cc is)
at_equal path (Some x) None is = absurd (cc is)
at_equal path (Some x) (Some y) is = cc

one_list : {X : Type 0} (path : X → Path) (xs ys : List X) → AreAlike path path (λ x y. x ≡ y) xs ys → xs ≡ ys
one_list path [] [] is = refl
one_list path [] (y ∷ ys) is = absurd is
one_list path (x ∷ xs) [] is = absurd is
one_list path (x ∷ xs) (y ∷ ys) is = ap₂ (λ z l. z ∷ l) is.1 (one_list path xs ys is.2)

module _ {O N U : Type 0} (op : O → Path) (of : O → Facts) (np : N → Path) (nf : N → Facts) (place : U → Path) where
  pub differences_are_one : DifferencesAreOne op of np nf place
  differences_are_one old new unknown c d is also =
      one_list (path_of op np) c d
      (alike (path_of op np) (path_of op np) (λ x y. x ≡ y) c d is.ascends also.ascends
      (λ p. at_equal (path_of op np) (at (path_of op np) p c) (at (path_of op np) p d) (is.each p ∙ sym (also.each p))))

-- ---- outside of places

module _ {X U : Type 0} (path : X → Path) (place : U → Path) (places : List U) where
  kept_at : (w s : Bool) (x : X) (xs ys : List X) (p : Path) → is_within place places (path x) ≡ w → is_same (path x) p ≡ s
      → at path p ys ≡ (if is_within place places p then None else at path p xs)
      → at path p (cond (not w) (x ∷ ys) ys) ≡ (if is_within place places p then None else cond s (Some x) (at path p xs))
  kept_at true true x xs ys p within same is =
      let here : is_within place places p ≡ true = ap (is_within place places) (sym (same_path (path x) p same)) ∙ within in
      is ∙ ap (λ w. if w then None else at path p xs) here ∙ sym (ap (λ w. if w then None else Some x) here)
  kept_at true false x xs ys p within same is = is
  kept_at false true x xs ys p within same is =
      let here : is_within place places p ≡ false = ap (is_within place places) (sym (same_path (path x) p same)) ∙ within in
      ap (λ b. cond b (Some x) (at path p ys)) same ∙ sym (ap (λ w. if w then None else Some x) here)
  kept_at false false x xs ys p within same is = ap (λ b. cond b (Some x) (at path p ys)) same ∙ is

  none_either : (w : Bool) → at path [] [] ≡ (if w then None else at path [] [])
  none_either true = refl
  none_either false = refl

  pub at_outside : (xs : List X) (p : Path) → at path p (outside path place places xs) ≡ (if is_within place places p then None else at path p xs)
  at_outside [] p = none_either (is_within place places p)
  at_outside (x ∷ xs) p = kept_at (is_within place places (path x)) (is_same (path x) p) x xs (outside path place places xs) p refl refl (at_outside xs p)

  all_kept : (P : X → Type 0) (w : Bool) (x : X) (ys : List X) → P x → AllByRecursion P ys → AllByRecursion P (cond w (x ∷ ys) ys)
  all_kept P true x ys here all = (here, all)
  all_kept P false x ys here all = all

  all_outside : (P : X → Type 0) (xs : List X) → AllByRecursion P xs → AllByRecursion P (outside path place places xs)
  all_outside P [] all = tt
  all_outside P (x ∷ xs) all = all_kept P (not (is_within place places (path x))) x (outside path place places xs) all.0 (all_outside P xs all.1)

  ascends_kept : (w : Bool) (x : X) (ys : List X) → AllByRecursion (λ y. is_before (path x) (path y) ≡ true) ys → Ascends path ys → Ascends path (cond w (x ∷ ys) ys)
  ascends_kept true x ys after all = (after, all)
  ascends_kept false x ys after all = all

  pub ascends_outside : (xs : List X) → Ascends path xs → Ascends path (outside path place places xs)
  ascends_outside [] all = tt
  ascends_outside (x ∷ xs) all =
      ascends_kept (not (is_within place places (path x))) x (outside path place places xs) (all_outside (λ y. is_before (path x) (path y) ≡ true) xs all.0) (ascends_outside xs all.1)

-- ---- none differ

module _ {O N U : Type 0} (op : O → Path) (of : O → Facts) (np : N → Path) (nf : N → Facts) (place : U → Path) where
  abbrev Alike : Option O → Option N → Type 0
  Alike = AtAlike op np (AreEqual of nf)

  no_change : (w : Bool) (e : O) (f : N) → is_any (which (of e) (nf f)) ≡ w → None ≡ change of nf e f → w ≡ false
  no_change true e f any is = absurd (cc (is ∙ ap (λ b. if b then Some (Changed e f (which (of e) (nf f))) else None) any))
  no_change false e f any is = refl

  alike_none : (a : Option O) (b : Option N) → None ≡ difference of nf a b → Alike a b
  alike_none None None is = tt
  alike_none None (Some y) is = absurd (cc is)
  alike_none (Some x) None is = absurd (cc is)
  alike_none (Some x) (Some y) is = no_change (is_any (which (of x) (nf y))) x y refl is

  none_alike : (a : Option O) (b : Option N) → Alike a b → None ≡ difference of nf a b
  none_alike None None is = refl
  none_alike None (Some y) is = absurd is
  none_alike (Some x) None is = absurd is
  none_alike (Some x) (Some y) is = sym (ap (λ b. if b then Some (Changed x y (which (of x) (nf y))) else None) is)

  hidden_alike : (w : Bool) (a : Option O) (b : Option N) → None ≡ (if w then None else difference of nf a b) → Alike (if w then None else a) (if w then None else b)
  hidden_alike true a b is = tt
  hidden_alike false a b is = alike_none a b is

  alike_hidden : (w : Bool) (a : Option O) (b : Option N) → Alike (if w then None else a) (if w then None else b) → None ≡ (if w then None else difference of nf a b)
  alike_hidden true a b is = refl
  alike_hidden false a b is = none_alike a b is

  pub none_if_equal : NoneIfEqual op of np nf place
  none_if_equal old new unknown ao an = (
    λ is. alike op np (AreEqual of nf) (outside op place unknown old) (outside np place unknown new) (ascends_outside op place unknown old ao) (ascends_outside np place unknown new an)
        (λ p. subst (λ (a : Option O). Alike a (at np p (outside np place unknown new))) (sym (at_outside op place unknown old p))
        (subst (λ (b : Option N). Alike (if is_within place unknown p then None else at op p old) b) (sym (at_outside np place unknown new p))
        (hidden_alike (is_within place unknown p) (at op p old) (at np p new) (is.each p)))),
    λ is. record {
      ascends = tt;
      each = λ p. alike_hidden (is_within place unknown p) (at op p old) (at np p new)
          (subst (λ (a : Option O). Alike a (if is_within place unknown p then None else at np p new)) (at_outside op place unknown old p)
          (subst (λ (b : Option N). Alike (at op p (outside op place unknown old)) b) (at_outside np place unknown new p)
          (alike_at op np (AreEqual of nf) (outside op place unknown old) (outside np place unknown new) is p)));
    },
  )
