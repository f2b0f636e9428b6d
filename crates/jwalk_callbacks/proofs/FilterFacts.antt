-- Lists of which some items are left.
use Rattle.std.proofs.Common.{◌≡◌, ℕ, Bool, true, false, cond, List, [], ◌∷◌, map, Option, Some, None, Ok, Err, refl, ap, sym, subst, ◌∙◌, Bor}
use Rattle.std.specs.List.{filter, items_where_true}
use Rattle.std.specs.List.Retain.{IsFiltered, ReturnsInTurn}
use Rattle.std.proofs.lemmas.List.{length-map}
use Rattle.std.proofs.lemmas.List.Elements.{filter_from_retain}
use Rattle.jwalk_model.specs.declared.file_type.FileType.{FileType}
use Rattle.jwalk_model.specs.Entry.{Item, AtDepth}
use Rattle.jwalk_model.specs.ReadDir.{list_depth}
use Rattle.jwalk_model.specs.Counted.{item_by, reading_by}
use Rattle.jwalk_callbacks.specs.FilterEntry.{Test, stays, filtered_list, filters, IsTest, IsAnswered, IsLeft}

module _ {X Y F : Type 0} (view : X → Y) (R : F → X → Bool → F → Type 0) (S : Y → Bool → Type 0) (f : F) (says : (x : X) (b : Bool) (q : F) → R f x b q → S (view x) b × (q ≡ f)) where
  viewed-turn : (q : F) (bs : List Bool) (xs : List X) → ReturnsInTurn R f bs xs q → ReturnsInTurn {P = Unit {0}} (λ _ y b _. S y b) tt bs (map view xs) tt
  viewed-turn q [] xs h = refl
  viewed-turn q (b ∷ bs) [] h = absurd h
  viewed-turn q (b ∷ bs) (x ∷ xs) h = let k = says x b h.0 h.1 in (tt, k.0, viewed-turn q bs xs (subst (λ j. ReturnsInTurn R j bs xs q) k.1 h.2))

  viewed-items : (bs : List Bool) (xs : List X) → items_where_true bs (map view xs) ≡ map view (items_where_true bs xs)
  viewed-items [] xs = refl
  viewed-items (b ∷ bs) [] = refl
  viewed-items (true ∷ bs) (x ∷ xs) = ap (λ l. view x ∷ l) (viewed-items bs xs)
  viewed-items (false ∷ bs) (x ∷ xs) = viewed-items bs xs

  -- what a test of items leaves is what a test of their views leaves
  pub viewed-IsFiltered : (xs ys : List X) → IsFiltered R f xs ys → IsFiltered {P = Unit {0}} (λ _ y b _. S y b) tt (map view xs) (map view ys)
  viewed-IsFiltered xs ys h = (h.0, tt, h.2 ∙ sym (length-map xs view), viewed-turn h.1 h.0 xs h.3, ap (map view) h.4 ∙ sym (viewed-items h.0 xs))

module _ {R E : Type 0} (answers : ℕ → Bor (List ℕ) → FileType → Bool → Type 0) where
  some_left : (depth : ℕ) (bs : List Bool) (l : List (Item R E)) → AtDepth depth l → AtDepth depth (items_where_true bs l)
  some_left depth [] l h = tt
  some_left depth (b ∷ bs) [] h = tt
  some_left depth (true ∷ bs) (Ok e ∷ l) h = (h.0, some_left depth bs l h.1)
  some_left depth (false ∷ bs) (Ok e ∷ l) h = some_left depth bs l h.1
  some_left depth (true ∷ bs) (Err f ∷ l) h = some_left depth bs l h
  some_left depth (false ∷ bs) (Err f ∷ l) h = some_left depth bs l h

  -- what is left is at its depth
  pub left-AtDepth : (depth : Option ℕ) (old new : List (Item R E)) → IsLeft answers depth old new → AtDepth (list_depth depth) old → AtDepth (list_depth depth) new
  left-AtDepth None old new left h = rw left h
  left-AtDepth (Some depth) old new left h = rw left.4 (some_left (list_depth (Some depth)) left.0 old h)

  -- the root's list stays as it is
  pub left-root : (depth : Option ℕ) (old new : List (Item R E)) → depth ≡ None → IsLeft answers depth old new → new ≡ old
  left-root None old new at left = left
  left-root (Some depth) old new at left = absurd cc

  module _ (test : Test) (is : IsTest answers test) where
    by_test : (x : Item R E) (b : Bool) → IsAnswered answers x b → b ≡ stays test x
    by_test (Ok e) b k = is e.depth k.1 e.file_type b k.0 k.3 k.4 ∙ ap (λ n. test e.depth n e.file_type) k.2
    by_test (Err f) b k = k

    -- if every answer is that of a test, the list is filtered by it
    pub left-filtered_list : (depth : Option ℕ) (old new : List (Item R E)) → IsLeft answers depth old new → new ≡ filtered_list test depth old
    left-filtered_list None old new h = h
    left-filtered_list (Some depth) old new h = filter_from_retain {P = Unit {0}} (λ _ item b _. IsAnswered answers item b) (stays test) (λ _ x b _ k. by_test x b k) tt old new h

module _ {R E V W : Type 0} (view : R → V) (mark : E → W) (test : Test) where
  counted-items : (l : List (Item R E)) → filter (stays test) (map (item_by view mark) l) ≡ map (item_by view mark) (filter (stays test) l)
  counted-items [] = refl
  counted-items (Err f ∷ l) = ap (λ m. Err f ∷ m) (counted-items l)
  counted-items (Ok e ∷ l) =
      rw (counted-items l)
      (elim (stays test (Ok e)) as (λ b. cond b (item_by view mark (Ok e) ∷ map (item_by view mark) (filter (stays test) l)) (map (item_by view mark) (filter (stays test) l)) ≡ map (item_by view mark) (cond b (Ok e ∷ filter (stays test) l) (filter (stays test) l))) [
        | true ↦ refl
        | false ↦ refl
      ])

  -- a test doesn't count states
  pub counted-filters : (depth : Option ℕ) (path : List ℕ) (state : R) (list : List (Item R E)) → filters test depth path (view state) (map (item_by view mark) list) ≡ reading_by view mark (filters test depth path state list)
  counted-filters None path state list = refl
  counted-filters (Some depth) path state list = rw (counted-items list) refl
