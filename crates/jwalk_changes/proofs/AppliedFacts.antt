-- Differences applied to the old list.
use Rattle.std.proofs.Common.{◌≡◌, Bool, true, false, not, ◌&&◌, ◌||◌, cond, ◌==◌, List, [], ◌∷◌, Option, Some, None, refl, sym, ap, ap₂, ◌∙◌, subst}
use Rattle.std.specs.Prelude.{if◌then◌else◌}
use Rattle.std.specs.List.{AllByRecursion}
use Rattle.std.specs.Ordering.{int_eq, is_eq}
use Rattle.std.specs.Cmp.{nat_eq_equiv, int_cmp_total}
use Rattle.std.proofs.lemmas.Cmp.{tied_itself}
use Rattle.jwalk_model.specs.declared.file_type.FileType.{FileType}
use Rattle.jwalk_model.specs.declared.file_type.FileType.TheVariants.{Dir, File, Symlink, Other}
use Rattle.jwalk_model.specs.declared.metadata.Moment.{Moment}
use Rattle.jwalk_model.specs.FileType.{is_dir}
use Rattle.jwalk_changes.specs.declared.facts.Facts.{Facts}
use Rattle.jwalk_changes.specs.declared.change.Change.{Change}
use Rattle.jwalk_changes.specs.declared.change.Change.TheVariants.{Added, Removed, Changed}
use Rattle.jwalk_changes.specs.AtPath.{is_before, is_same}
use Rattle.jwalk_changes.specs.Differ.{differ}
use Rattle.jwalk_changes.specs.Facts.{same_type, same_moment, which, is_any}
use Rattle.jwalk_changes.specs.Change.{path_of, difference}
use Rattle.jwalk_changes.specs.Differences.{Ascends, at, is_within}
use Rattle.jwalk_changes.specs.Laws.{outside, AreEqual, without, inserted, applied_one, applied, AppliedGiveNew}
use Rattle.jwalk_changes.proofs.OrderFacts.{Path, same_path, same_itself, not_before}
use Rattle.jwalk_changes.proofs.ListFacts.{before_all, at_none}
use Rattle.jwalk_changes.proofs.AlikeFacts.{AtAlike, alike, at_outside, ascends_outside}

-- ---- an entry equals itself

type_itself : (t : FileType) → same_type t t ≡ true
type_itself Dir = refl
type_itself File = refl
type_itself Symlink = refl
type_itself Other = refl

both_true : (a b : Bool) → a ≡ true → b ≡ true → (a && b) ≡ true
both_true a b p q = ap₂ (λ x y. x && y) p q

moment_itself : (m : Moment) → same_moment m m ≡ true
moment_itself m = both_true (int_eq m.seconds m.seconds) (m.nanoseconds == m.nanoseconds) (ap is_eq (tied_itself int_cmp_total m.seconds)) (nat_eq_equiv.refl m.nanoseconds)

differ_itself : {X : Type 0} (same : X → X → Bool) → ((x : X) → same x x ≡ true) → (o : Option X) → differ same o o ≡ false
differ_itself same is None = refl
differ_itself same is (Some x) = ap not (is x)

no_part : (b c : Bool) → c ≡ false → (b && c) ≡ false
no_part true c is = is
no_part false c is = refl

none_of : (a b c d : Bool) → a ≡ false → b ≡ false → c ≡ false → d ≡ false → (a || b || c || d) ≡ false
none_of true b c d p q r s = absurd (cc p)
none_of false true c d p q r s = absurd (cc q)
none_of false false true d p q r s = absurd (cc r)
none_of false false false d p q r s = s

equal_itself : (a : Facts) → is_any (which a a) ≡ false
equal_itself a =
    let w = which a a in
    none_of w.file_type w.len w.modified w.inode (ap not (type_itself a.file_type))
    (no_part (not (is_dir a.file_type || is_dir a.file_type)) (differ (λ m n. m == n) a.len a.len) (differ_itself (λ m n. m == n) nat_eq_equiv.refl a.len))
    (no_part (not (is_dir a.file_type || is_dir a.file_type)) (differ same_moment a.modified a.modified) (differ_itself same_moment moment_itself a.modified))
    (differ_itself (λ m n. m == n) nat_eq_equiv.refl a.inode)

module _ {X : Type 0} (path : X → Path) where
  -- ---- without what is at a path

  kept_other : (k s b : Bool) (q p : Path) (x : X) (xs ys : List X) → is_same (path x) q ≡ k → is_same (path x) p ≡ s → is_same q p ≡ b → at path p ys ≡ cond b None (at path p xs)
      → at path p (cond (not k) (x ∷ ys) ys) ≡ cond b None (cond s (Some x) (at path p xs))
  kept_other true s true q p x xs ys ek es eb is = is
  kept_other true true false q p x xs ys ek es eb is = absurd (cc (sym (ap (λ r. is_same r p) (same_path (path x) q ek)) ∙ es, eb))
  kept_other true false false q p x xs ys ek es eb is = is
  kept_other false true true q p x xs ys ek es eb is =
      absurd (cc (ek, ap (λ r. is_same (path x) r) (same_path (path x) p es ∙ sym (same_path q p eb)), same_itself (path x)))
  kept_other false true false q p x xs ys ek es eb is = ap (λ s. cond s (Some x) (at path p ys)) es
  kept_other false false b q p x xs ys ek es eb is = ap (λ s. cond s (Some x) (at path p ys)) es ∙ is

  nothing_at : (b : Bool) (p : Path) → at path p [] ≡ cond b None (at path p [])
  nothing_at true p = refl
  nothing_at false p = refl

  at_without : (q : Path) (l : List X) (p : Path) → at path p (without path q l) ≡ cond (is_same q p) None (at path p l)
  at_without q [] p = nothing_at (is_same q p) p
  at_without q (x ∷ xs) p = kept_other (is_same (path x) q) (is_same (path x) p) (is_same q p) q p x xs (without path q xs) refl refl refl (at_without q xs p)

  all_kept : (P : X → Type 0) (w : Bool) (x : X) (ys : List X) → (w ≡ true → P x) → AllByRecursion P ys → AllByRecursion P (cond w (x ∷ ys) ys)
  all_kept P true x ys here all = (here refl, all)
  all_kept P false x ys here all = all

  not_true : (b : Bool) → not b ≡ true → b ≡ false
  not_true true is = absurd (cc is)
  not_true false is = refl

  others_without : (q : Path) (l : List X) → AllByRecursion (λ y. is_same (path y) q ≡ false) (without path q l)
  others_without q [] = tt
  others_without q (x ∷ xs) = all_kept (λ y. is_same (path y) q ≡ false) (not (is_same (path x) q)) x (without path q xs) (not_true (is_same (path x) q)) (others_without q xs)

  all_without : (P : X → Type 0) (q : Path) (l : List X) → AllByRecursion P l → AllByRecursion P (without path q l)
  all_without P q [] all = tt
  all_without P q (x ∷ xs) all = all_kept P (not (is_same (path x) q)) x (without path q xs) (λ _. all.0) (all_without P q xs all.1)

  ascends_kept : (w : Bool) (x : X) (ys : List X) → AllByRecursion (λ y. is_before (path x) (path y) ≡ true) ys → Ascends path ys → Ascends path (cond w (x ∷ ys) ys)
  ascends_kept true x ys after all = (after, all)
  ascends_kept false x ys after all = all

  ascends_without : (q : Path) (l : List X) → Ascends path l → Ascends path (without path q l)
  ascends_without q [] all = tt
  ascends_without q (x ∷ xs) all = ascends_kept (not (is_same (path x) q)) x (without path q xs) (all_without (λ y. is_before (path x) (path y) ≡ true) q xs all.0) (ascends_without q xs all.1)

  -- ---- with an entry put in

  put_at : (b s t : Bool) (x y : X) (l m : List X) (p : Path) → is_same (path x) p ≡ s → is_same (path y) p ≡ t → is_same (path y) (path x) ≡ false → at path p m ≡ cond s (Some x) (at path p l)
      → at path p (if b then x ∷ y ∷ l else y ∷ m) ≡ cond s (Some x) (cond t (Some y) (at path p l))
  put_at true s t x y l m p es et other is = ap₂ (λ u v. cond u (Some x) (cond v (Some y) (at path p l))) es et
  put_at false true true x y l m p es et other is =
      absurd (cc (other, ap (λ r. is_same (path y) r) (same_path (path y) p et ∙ sym (same_path (path x) p es)), same_itself (path y)))
  put_at false false true x y l m p es et other is = ap (λ v. cond v (Some y) (at path p m)) et
  put_at false s false x y l m p es et other is = ap (λ v. cond v (Some y) (at path p m)) et ∙ is

  at_inserted : (x : X) (l : List X) (p : Path) → AllByRecursion (λ y. is_same (path y) (path x) ≡ false) l → at path p (inserted path x l) ≡ cond (is_same (path x) p) (Some x) (at path p l)
  at_inserted x [] p all = refl
  at_inserted x (y ∷ l) p all = put_at (is_before (path x) (path y)) (is_same (path x) p) (is_same (path y) p) x y l (inserted path x l) p refl refl all.0 (at_inserted x l p all.1)

  all_put : (P : X → Type 0) (b : Bool) (x y : X) (l m : List X) → P x → AllByRecursion P (y ∷ l) → AllByRecursion P m → AllByRecursion P (if b then x ∷ y ∷ l else y ∷ m)
  all_put P true x y l m here all more = (here, all)
  all_put P false x y l m here all more = (all.0, more)

  all_inserted : (P : X → Type 0) (x : X) (l : List X) → P x → AllByRecursion P l → AllByRecursion P (inserted path x l)
  all_inserted P x [] here all = (here, tt)
  all_inserted P x (y ∷ l) here all = all_put P (is_before (path x) (path y)) x y l (inserted path x l) here all (all_inserted P x l here all.1)

  other_back : (b : Bool) (x y : X) → is_same (path x) (path y) ≡ b → is_same (path y) (path x) ≡ false → b ≡ false
  other_back true x y is other = absurd (cc (other, ap (λ r. is_same (path y) r) (same_path (path x) (path y) is), same_itself (path y)))
  other_back false x y is other = refl

  ascends_put : (b : Bool) (x y : X) (l : List X) → is_before (path x) (path y) ≡ b → is_same (path y) (path x) ≡ false → Ascends path (y ∷ l) → Ascends path (inserted path x l) → Ascends path (if b then x ∷ y ∷ l else y ∷ inserted path x l)
  ascends_put true x y l before other all more = (before_all path (path x) y l before all, all)
  ascends_put false x y l before other all more = (
    all_inserted (λ z. is_before (path y) (path z) ≡ true) x l (not_before (path x) (path y) before (other_back (is_same (path x) (path y)) x y refl other)) all.0,
    more,
  )

  ascends_inserted : (x : X) (l : List X) → AllByRecursion (λ y. is_same (path y) (path x) ≡ false) l → Ascends path l → Ascends path (inserted path x l)
  ascends_inserted x [] others all = (tt, tt)
  ascends_inserted x (y ∷ l) others all = ascends_put (is_before (path x) (path y)) x y l refl others.0 all (ascends_inserted x l others.1 all.1)

  -- ---- changes

  abbrev new_of : Change X X → Option X
  new_of (Added x) = Some x
  new_of (Removed x) = None
  new_of (Changed x y w) = Some y

  abbrev apply : Option (Change X X) → Option X → Option X
  apply None a = a
  apply (Some c) a = new_of c

  twice : (s : Bool) (x : X) (o : Option X) → cond s (Some x) (cond s None o) ≡ cond s (Some x) o
  twice true x o = refl
  twice false x o = refl

  one_put : (x : X) (l : List X) (p : Path) → at path p (inserted path x (without path (path x) l)) ≡ cond (is_same (path x) p) (Some x) (at path p l)
  one_put x l p =
      at_inserted x (without path (path x) l) p (others_without (path x) l)
      ∙ ap (λ o. cond (is_same (path x) p) (Some x) o) (at_without (path x) l p)
      ∙ twice (is_same (path x) p) x (at path p l)

  one_at : (c : Change X X) (l : List X) (p : Path) → at path p (applied_one path c l) ≡ cond (is_same (path_of path path c) p) (new_of c) (at path p l)
  one_at (Added x) l p = one_put x l p
  one_at (Removed x) l p = at_without (path x) l p
  one_at (Changed x y w) l p = one_put y l p

  ascends_one : (c : Change X X) (l : List X) → Ascends path l → Ascends path (applied_one path c l)
  ascends_one (Added x) l all = ascends_inserted x (without path (path x) l) (others_without (path x) l) (ascends_without (path x) l all)
  ascends_one (Removed x) l all = ascends_without (path x) l all
  ascends_one (Changed x y w) l all = ascends_inserted y (without path (path y) l) (others_without (path y) l) (ascends_without (path y) l all)

  ascends_applied : (d : List (Change X X)) (l : List X) → Ascends path l → Ascends path (applied path d l)
  ascends_applied [] l all = all
  ascends_applied (c ∷ d) l all = ascends_applied d (applied_one path c l) (ascends_one c l all)

  apply_by : (s : Bool) (c : Change X X) (o : Option (Change X X)) (a : Option X) → (s ≡ true → o ≡ None) → apply o (cond s (new_of c) a) ≡ apply (cond s (Some c) o) a
  apply_by true c o a none = ap (λ (q : Option (Change X X)). apply q (new_of c)) (none refl)
  apply_by false c o a none = refl

  applied_at : (d : List (Change X X)) (l : List X) (p : Path) → Ascends (path_of path path) d → at path p (applied path d l) ≡ apply (at (path_of path path) p d) (at path p l)
  applied_at [] l p all = refl
  applied_at (c ∷ d) l p all =
      applied_at d (applied_one path c l) p all.1
      ∙ ap (apply (at (path_of path path) p d)) (one_at c l p)
      ∙ apply_by (is_same (path_of path path c) p) c (at (path_of path path) p d) (at path p l)
      (λ is. ap (λ q. at (path_of path path) q d) (sym (same_path (path_of path path c) p is)) ∙ at_none (path_of path path) (path_of path path c) d all.0)

module _ {X U : Type 0} (path : X → Path) (facts : X → Facts) (place : U → Path) where
  changed_alike : (w : Bool) (x y : X) → is_any (which (facts x) (facts y)) ≡ w
      → AtAlike path path (AreEqual facts facts) (apply path (if w then Some (Changed x y (which (facts x) (facts y))) else None) (Some x)) (Some y)
  changed_alike true x y any = equal_itself (facts y)
  changed_alike false x y any = any

  applied_alike : (a b : Option X) → AtAlike path path (AreEqual facts facts) (apply path (difference facts facts a b) a) b
  applied_alike None None = tt
  applied_alike None (Some y) = equal_itself (facts y)
  applied_alike (Some x) None = tt
  applied_alike (Some x) (Some y) = changed_alike (is_any (which (facts x) (facts y))) x y refl

  hidden_alike : (w : Bool) (a b : Option X) → AtAlike path path (AreEqual facts facts) (apply path (if w then None else difference facts facts a b) (if w then None else a)) (if w then None else b)
  hidden_alike true a b = tt
  hidden_alike false a b = applied_alike a b

  pub applied_give_new : AppliedGiveNew path facts place
  applied_give_new old new unknown d ao an is =
      alike path path (AreEqual facts facts) (applied path d (outside path place unknown old)) (outside path place unknown new)
      (ascends_applied path d (outside path place unknown old) (ascends_outside path place unknown old ao)) (ascends_outside path place unknown new an)
      (λ p.
      let R : Option X → Option X → Type 0 = AtAlike path path (AreEqual facts facts) in
      let w = is_within place unknown p in
      subst (λ (a : Option X). R a (at path p (outside path place unknown new))) (sym (applied_at path d (outside path place unknown old) p is.ascends))
      (subst (λ (b : Option X). R (apply path (at (path_of path path) p d) (at path p (outside path place unknown old))) b) (sym (at_outside path place unknown new p))
      (subst (λ (a : Option X). R (apply path (at (path_of path path) p d) a) (if w then None else at path p new)) (sym (at_outside path place unknown old p))
      (subst (λ (c : Option (Change X X)). R (apply path c (if w then None else at path p old)) (if w then None else at path p new)) (sym (is.each p))
      (hidden_alike w (at path p old) (at path p new))))))
