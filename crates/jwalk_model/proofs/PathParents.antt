-- The parent that `std::path` gives is the shortest beginning with all components but the last.
use Rattle.std.proofs.Common.{◌≡◌, ◌≢◌, ℕ, suc, ◌<◌, Bool, true, false, ◌||◌, eqb, List, [], ◌∷◌, ◌++◌, length, take, drop, map, find, bytes_eq, Option, Some, None, option_map, ◌⊎◌, inl, inr, refl, sym, ap, ap₂, subst, ◌∙◌, ⊎_elim, arith, eqb-true, take-append-drop}
use Rattle.std.specs.Path.{root_dir, trim_trailing, rsplit_once, parent_and_last, split_last_component, path_parent, path_components}
use Rattle.std.proofs.lemmas.Bool.{cond-true, cond-false, cond_both, both_ways, or_cases, or_parts, and_parts, and_from, false_from_ne_true}
use Rattle.std.proofs.lemmas.List.{nil_from_length, map_push}
use Rattle.std.proofs.lemmas.Paths.{path_components_parent, take_parent}
use Rattle.std.proofs.lemmas.Slice.Eq.{bytes_eq-Decides}
use Rattle.jwalk_model.specs.Paths.{Component, root, here, up, plain, slash, components, component_eq, components_eq, last_of, all_but_last, beginnings, shortest_with, parent_before, parent}
use Rattle.jwalk_model.specs.PathTexts.{component_read, AreSteps, AreProper}
use Rattle.jwalk_model.proofs.PathFacts.{by_test, path_components-read, components-proper}
use Rattle.jwalk_model.proofs.PathEnds.{IsShortest, trim_trailing-components, trim_trailing-shortest, trim_trailing-root}

-- ---- lists of components

component_eq-same : (a : Component) → component_eq a a ≡ true
component_eq-same root = refl
component_eq-same here = refl
component_eq-same up = refl
component_eq-same (plain a) = (bytes_eq-Decides a a).1 refl

component_eq-is : (a b : Component) → component_eq a b ≡ true → a ≡ b
component_eq-is root root e = refl
component_eq-is here here e = refl
component_eq-is up up e = refl
component_eq-is (plain a) (plain b) e = ap (λ t. plain t) ((bytes_eq-Decides a b).0 e)
component_eq-is a b e = cc

components_eq-same : (cs : List Component) → components_eq cs cs ≡ true
components_eq-same [] = refl
components_eq-same (c ∷ cs) = and_from _ _ (component_eq-same c) (components_eq-same cs)

components_eq-is : (cs ds : List Component) → components_eq cs ds ≡ true → cs ≡ ds
components_eq-is [] [] e = refl
components_eq-is (c ∷ cs) (d ∷ ds) e = let both = and_parts (component_eq c d) (components_eq cs ds) e in ap₂ (λ x y. x ∷ y) (component_eq-is c d both.0) (components_eq-is cs ds both.1)
components_eq-is cs ds e = cc

pub last_of-push : (cs : List Component) (c : Component) → last_of (cs ++ c ∷ []) ≡ Some c
last_of-push [] c = refl
last_of-push (d ∷ []) c = refl
last_of-push (d ∷ e ∷ cs) c = last_of-push (e ∷ cs) c

all_but_last-push : (cs : List Component) (c : Component) → all_but_last (cs ++ c ∷ []) ≡ cs
all_but_last-push [] c = refl
all_but_last-push (d ∷ []) c = refl
all_but_last-push (d ∷ e ∷ cs) c = ap (λ l. d ∷ l) (all_but_last-push (e ∷ cs) c)

-- ---- the shortest beginning

find-map : (f : List ℕ → List ℕ) (test : List ℕ → Bool) (xs : List (List ℕ)) → find test (map f xs) ≡ option_map f (find (λ x. test (f x)) xs)
find-map f test [] = refl
find-map f test (x ∷ xs) = by_test (test (f x)) (λ e. rw e refl) (λ e. rw e (find-map f test xs))

-- the first beginning that passes a test
find-beginning : (front rest : List ℕ) (test : List ℕ → Bool) → ((k : ℕ) → k < length front → test (take k front) ≡ false) → test front ≡ true
    → find test (beginnings (front ++ rest)) ≡ Some front
find-beginning [] [] test h e = cond-true _ _ _ e
find-beginning [] (c ∷ cs) test h e = cond-true _ _ _ e
find-beginning (c ∷ cs) rest test h e =
    let later : (k : ℕ) → k < length cs → test (c ∷ take k cs) ≡ false = λ k lt. h (suc k) (omega arith) in
    cond-false _ _ _ (h 0 (omega arith))
    ∙ find-map (λ text. c ∷ text) test (beginnings (cs ++ rest))
    ∙ ap (option_map (λ text. c ∷ text)) (find-beginning cs rest (λ text. test (c ∷ text)) later e)

shortest-found : (text front : List ℕ) → take (length front) text ≡ front → IsShortest front → shortest_with (components front) text ≡ Some front
shortest-found text front begins shortest =
    let rest = drop (length front) text in
    let whole : text ≡ front ++ rest = sym (take-append-drop (length front) text) ∙ ap (λ l. l ++ rest) begins in
    ap (shortest_with (components front)) whole
    ∙ find-beginning front rest (λ t. components_eq (components t) (components front))
    (λ k lt. false_from_ne_true _ (λ e. shortest k lt (components_eq-is _ _ e)))
    (components_eq-same (components front))

parent-found : (text front : List ℕ) (last : Component) → components text ≡ components front ++ last ∷ [] → last ≢ root → take (length front) text ≡ front → IsShortest front
    → parent text ≡ Some front
parent-found text front last is other begins shortest =
    ap (parent_before text) (ap last_of is ∙ last_of-push (components front) last)
    ∙ not_root last other
    ∙ ap (λ cs. shortest_with cs text) (ap all_but_last is ∙ all_but_last-push (components front) last)
    ∙ shortest-found text front begins shortest
  where
    not_root : (c : Component) → c ≢ root → parent_before text (Some c) ≡ shortest_with (all_but_last (components text)) text
    not_root root h = absurd (h refl)
    not_root here h = refl
    not_root up h = refl
    not_root (plain name) h = refl

shortest-nil : IsShortest []
shortest-nil k lt = absurd (omega arith)

shortest-root : IsShortest (slash ∷ [])
shortest-root k lt = λ e. let first : k ≡ 0 = omega arith in let none : components [] ≡ root ∷ [] = ap (λ j. components (take j (slash ∷ []))) (sym first) ∙ e in cc

-- ---- the parent that std gives

shortest-parent : (path : List ℕ) (r : Option (List ℕ × List ℕ)) → IsShortest (parent_and_last path r).0
shortest-parent path None = shortest-nil
shortest-parent path (Some split) = cond_both (eqb (length split.0) 0) root_dir (trim_trailing split.0) IsShortest (λ _. shortest-root) (λ _. trim_trailing-shortest split.0)

-- A text is empty or the root, without what trails, or it has a parent that is a shortest beginning.
abbrev HasParent : List ℕ → Option (List ℕ) → Type 0
HasParent text r = ((r ≡ None) × ((trim_trailing text ≡ []) ⊎ (trim_trailing text ≡ root_dir)))
    ⊎ ((front : List ℕ) × (r ≡ Some front) × IsShortest front × (trim_trailing text ≢ root_dir))

has_parent : (text : List ℕ) → HasParent text (path_parent text)
unfolding path_parent split_last_component
has_parent text =
    let trimmed = trim_trailing text in
    let empty = eqb (length trimmed) 0 in
    let is_root = bytes_eq trimmed root_dir in
    cond_both (empty || is_root) None (Some (parent_and_last trimmed (rsplit_once slash trimmed))) (λ r. HasParent text (option_map (λ split. split.0) r))
    (λ e. inl (refl, ⊎_elim (λ z. inl (nil_from_length trimmed (eqb-true _ 0 z))) (λ z. inr ((bytes_eq-Decides trimmed root_dir).0 z)) (or_cases empty is_root e)))
    (λ e.
    inr (_, refl, shortest-parent trimmed (rsplit_once slash trimmed), λ same. both_ways _ (or_parts empty is_root e).1 ((bytes_eq-Decides trimmed root_dir).1 same)))

steps-no_root : (cs : List Component) → AreSteps (cs ++ root ∷ []) → ⊥
steps-no_root [] h = h.0
steps-no_root (c ∷ cs) h = steps-no_root cs h.1

root_alone : (cs : List Component) → AreProper (cs ++ root ∷ []) → cs ≡ []
root_alone [] h = refl
root_alone (c ∷ cs) h = absurd (steps-no_root cs h.1)

-- only the root ends in the root
root_last : (text : List ℕ) (cs : List Component) → components text ≡ cs ++ root ∷ [] → trim_trailing text ≡ root_dir
root_last text cs e =
    let none = root_alone cs (subst AreProper e (components-proper text)) in
    trim_trailing-root text (trim_trailing-components text ∙ e ∙ ap (λ ds. ds ++ root ∷ []) none)

parent_of : (text : List ℕ) (r : Option (List ℕ)) → path_parent text ≡ r → HasParent text r → r ≡ parent text
parent_of text r is (inl bare) =
    let no_parent : (cs : List Component) → components text ≡ cs → (cs ≡ []) ⊎ (cs ≡ root ∷ []) → parent text ≡ None = λ cs e. ⊎_elim (λ z. ap (parent_before text) (ap last_of (e ∙ z))) (λ z. ap (parent_before text) (ap last_of (e ∙ z))) in
    bare.0
    ∙ sym (no_parent (components (trim_trailing text)) (sym (trim_trailing-components text)) (⊎_elim (λ z. inl (ap components z)) (λ z. inr (ap components z)) bare.1))
parent_of text r is (inr h) =
    let front = h.0 in
    let some = is ∙ h.1 in
    let split = path_components_parent text front some in
    let last = component_read split.0 in
    let cs : components text ≡ components front ++ last ∷ [] =
    sym (path_components-read text) ∙ ap (map component_read) split.1 ∙ map_push component_read (path_components front) split.0 ∙ ap (λ l. l ++ last ∷ []) (path_components-read front) in
    h.1
    ∙ sym (parent-found text front last cs (λ z. h.3 (root_last text (components front) (cs ∙ ap (λ c. components front ++ c ∷ []) z))) (take_parent text front some) h.2)

-- the parent that `std::path` gives
pub path_parent_is : (text : List ℕ) → path_parent text ≡ parent text
path_parent_is text = parent_of text (path_parent text) refl (has_parent text)
