-- Two paths are the same exactly if the components of each begin with those of the other.
use Rattle.std.proofs.Common.{◌≡◌, ◌↔◌, Bool, true, false, ◌&&◌, ℕ, List, [], ◌∷◌, ◌++◌, map, length, refl, sym, ap, ap₂, ◌∙◌, append-nil, arith}
use Rattle.std.specs.Prelude.{IsTrue}
use Rattle.std.specs.Bool.{Decides}
use Rattle.std.specs.Path.{path_components, PathStartsWith}
use Rattle.std.proofs.lemmas.Bool.Decides.{same_from_decides}
use Rattle.std.proofs.lemmas.List.{length-append}
use Rattle.std.proofs.lemmas.Slice.Eq.{bytes_eq-Decides}
use Rattle.jwalk_model.specs.Paths.{Component, root, here, up, plain, components, component_eq, components_eq, same_path}
use Rattle.jwalk_model.specs.PathTexts.{component_text, component_read}
use Rattle.jwalk_model.proofs.PathFacts.{path_components-texts, path_components-read}

component_eq-self : (c : Component) → component_eq c c ≡ true
component_eq-self root = refl
component_eq-self here = refl
component_eq-self up = refl
component_eq-self (plain name) = (bytes_eq-Decides name name).1 refl

components_eq-self : (cs : List Component) → components_eq cs cs ≡ true
components_eq-self [] = refl
components_eq-self (c ∷ cs) = rw (component_eq-self c) (components_eq-self cs)

equal_component : (c d : Component) → component_eq c d ≡ true → c ≡ d
equal_component root root h = refl
equal_component root here h = cc
equal_component root up h = cc
equal_component root (plain b) h = cc
equal_component here root h = cc
equal_component here here h = refl
equal_component here up h = cc
equal_component here (plain b) h = cc
equal_component up root h = cc
equal_component up here h = cc
equal_component up up h = refl
equal_component up (plain b) h = cc
equal_component (plain a) root h = cc
equal_component (plain a) here h = cc
equal_component (plain a) up h = cc
equal_component (plain a) (plain b) h = ap plain ((bytes_eq-Decides a b).0 h)

both_true : (a b : Bool) → (a && b) ≡ true → (a ≡ true) × (b ≡ true)
both_true true b h = (refl, h)
both_true false b h = cc

equal_components : (cs ds : List Component) → components_eq cs ds ≡ true → cs ≡ ds
equal_components [] [] h = refl
equal_components [] (d ∷ ds) h = cc
equal_components (c ∷ cs) [] h = cc
equal_components (c ∷ cs) (d ∷ ds) h =
    let both = both_true (component_eq c d) (components_eq cs ds) h in
    ap₂ (λ x xs. x ∷ xs) (equal_component c d both.0) (equal_components cs ds both.1)

-- the same components are those that `std::path` gives
same_components : (a b : List ℕ) → Decides (same_path a b) (path_components a ≡ path_components b)
same_components a b = (
  λ h. path_components-texts a ∙ ap (map component_text) (equal_components (components a) (components b) h) ∙ sym (path_components-texts b),
  λ e. ap (λ cs. components_eq cs (components b)) (sym (path_components-read a) ∙ ap (map component_read) e ∙ path_components-read b) ∙ components_eq-self (components b),
)

equal_fronts : {X : Type 0} (xs ys xs' ys' : List X) → xs ≡ ys ++ ys' → ys ≡ xs ++ xs' → xs ≡ ys
equal_fronts xs ys xs' [] e f = e ∙ append-nil ys
equal_fronts xs ys xs' (y ∷ ys') e f =
    absurd (omega (arith, ap length e, ap length f, length-append ys (y ∷ ys'), length-append xs xs'))

-- where a begins with b, they are the same exactly if b begins with a
same_by_second : (a b : List ℕ) → PathStartsWith a b → Decides (same_path a b) (PathStartsWith b a)
same_by_second a b first = (
  λ h. ([], sym ((same_components a b).0 h) ∙ sym (append-nil (path_components a))),
  λ second. (same_components a b).1 (equal_fronts (path_components a) (path_components b) second.0 first.0 first.1 second.1),
)

pub same_path-second : (r s : Bool) (a b : List ℕ) → (IsTrue r ↔ PathStartsWith a b) → (IsTrue s ↔ PathStartsWith b a) → r ≡ true → s ≡ same_path a b
same_path-second r s a b first second h = same_from_decides s (same_path a b) second (same_by_second a b (first.0 h))

-- where a doesn't begin with b, they differ
pub same_path-first : (r : Bool) (a b : List ℕ) → (IsTrue r ↔ PathStartsWith a b) → r ≡ false → r ≡ same_path a b
same_path-first r a b first h = differs (same_path a b) refl
  where
    differs : (t : Bool) → same_path a b ≡ t → r ≡ t
    differs true e = first.1 ([], (same_components a b).0 e ∙ sym (append-nil (path_components b)))
    differs false e = h
