-- Lists that a callback makes as given.
use Rattle.std.proofs.Common.{◌≡◌, ◌≤◌, ◌+◌, ℕ, List, [], ◌∷◌, ◌++◌, Option, Result, Ok, Err, map, length, refl, ap, sym, subst, ◌∙◌, arith}
use Rattle.std.specs.Prelude.{OnOk}
use Rattle.jwalk_model.specs.Error.{Failure}
use Rattle.jwalk_model.specs.Entry.{Item, AtDepth}
use Rattle.jwalk_model.specs.ReadDir.{list_depth}
use Rattle.jwalk_model.specs.Counted.{item_by}
use Rattle.jwalk_model.proofs.CountedFacts.{counted-AtDepth}
use Rattle.jwalk_job.specs.Given.{AddsErrors, Given, IsOfRoot, counted_item, entries_in, IsProcessed}

-- a list is at the depth that it is at when its states are counted
pub uncounted-AtDepth : {R E V W : Type 0} (view : R → V) (mark : E → W) (depth : ℕ) (l : List (Item R E)) → AtDepth depth (map (item_by view mark) l) → AtDepth depth l
uncounted-AtDepth view mark depth [] h = tt
uncounted-AtDepth view mark depth (Ok e ∷ l) h = (h.0, uncounted-AtDepth view mark depth l h.1)
uncounted-AtDepth view mark depth (Err f ∷ l) h = uncounted-AtDepth view mark depth l h

-- what is made of a list at its depth is at that depth
pub depth_of_made : {R E F : Type 0} (given : Given R E) (depth : Option ℕ) (path : List ℕ) (answer : Result (Unit {0}) F) (state state' : R) (list list' : List (Item R E))
    → OnOk answer (IsProcessed given depth path state list state' list') → AtDepth (list_depth depth) list → OnOk answer (AtDepth (list_depth depth) list')
depth_of_made given depth path (Err refused) state state' list list' made deep = tt
depth_of_made given depth path (Ok done) state state' list list' made deep =
    let before = counted-AtDepth given.read_dir_state given.dir_entry_state (list_depth depth) list deep in
    let after = given.keeps_depths depth path (given.read_dir_state state) (map (counted_item given) list) before in
    uncounted-AtDepth given.read_dir_state given.dir_entry_state (list_depth depth) list' (rw made at after)

-- a call at equal arguments
pub same_call : {T U L Z : Type 0} (f : T → U → L → Z) {t t' : T} {u u' : U} {l l' : L} {z : Z} → t' ≡ t → u' ≡ u → l' ≡ l → f t' u' l' ≡ z → f t u l ≡ z
same_call f {t} {t'} {u} {u'} {l} {l'} p q r e = ap (λ x. f x u l) (sym p) ∙ ap (λ x. f t' x l) (sym q) ∙ ap (f t' u') (sym r) ∙ e

module _ {R E : Type 0} where
  -- a list as it is
  pub adds_none : (l : List (Item R E)) → AddsErrors l l
  adds_none l = record { entries = refl; longer = omega arith }

  -- errors are added twice
  pub adds_more : (a b c : List (Item R E)) → AddsErrors a b → AddsErrors b c → AddsErrors a c
  adds_more a b c first second = record { entries = second.entries ∙ first.entries; longer = omega (arith, first.longer, second.longer) }

  one_longer : (l : List (Item R E)) (x : Item R E) → length (l ++ x ∷ []) ≡ length l + 1
  one_longer [] x = refl
  one_longer (y ∷ l) x = omega (arith, one_longer l x)

  error_behind : (l : List (Item R E)) (f : Failure) → entries_in (l ++ Err f ∷ []) ≡ entries_in l
  error_behind [] f = refl
  error_behind (Ok e ∷ l) f = ap (λ t. e ∷ t) (error_behind l f)
  error_behind (Err g ∷ l) f = error_behind l f

  -- one error is added behind a list
  pub adds_error : (l : List (Item R E)) (f : Failure) → AddsErrors l (l ++ Err f ∷ [])
  adds_error l f = record { entries = error_behind l f; longer = omega (arith, one_longer l (Err f)) }

  entries_behind : (l : List (Item R E)) (x : Item R E) → entries_in (l ++ x ∷ []) ≡ entries_in l ++ entries_in (x ∷ [])
  entries_behind [] x = refl
  entries_behind (Ok e ∷ l) x = ap (λ t. e ∷ t) (entries_behind l x)
  entries_behind (Err f ∷ l) x = entries_behind l x

  -- the same behind both lists
  pub adds_behind : (a b : List (Item R E)) (x : Item R E) → AddsErrors a b → AddsErrors (a ++ x ∷ []) (b ++ x ∷ [])
  adds_behind a b x added = record {
    entries = entries_behind b x ∙ ap (λ l. l ++ entries_in (x ∷ [])) added.entries ∙ sym (entries_behind a x);
    longer = omega (arith, one_longer a x, one_longer b x, added.longer);
  }

  one_alone : (x : Item R E) → length (entries_in (x ∷ [])) ≤ 1
  one_alone (Ok e) = omega arith
  one_alone (Err f) = omega arith

  -- what is left of a list of one item, if nothing but errors is added
  pub of_root : (x : Item R E) (old new : List (Item R E)) → old ≡ x ∷ [] → AddsErrors old new → IsOfRoot new
  of_root x old new one kept = record {
    some = subst (λ l. length l ≤ length new) one kept.longer;
    alone = subst (λ n. n ≤ 1) (sym (ap length (kept.entries ∙ ap entries_in one))) (one_alone x);
  }
