-- The components of `std::path` are those of `specs/Paths.antt`.
use Rattle.std.proofs.Common.{◌≡◌, ◌≢◌, ℕ, Bool, true, false, cond, ◌||◌, ◌&&◌, eqb, List, [], ◌∷◌, ◌++◌, length, slice_index_or, map, filter, flat_map, bytes_eq, Option, Some, None, MatchOption, refl, sym, ap, ap₂, subst, ◌∙◌, arith, ne_eqb}
use Rattle.std.specs.List.{onto_first}
use Rattle.std.specs.Path.{dot as dot_byte, HasNoSlash, root_dir, cur_dir, parent_dir, first_piece, later_pieces, is_name, is_dot_at, leading_components, path_names, path_components, component_bytes, IsWellFormedComponent, IsNextComponent, IsLastComponent}
use Rattle.std.specs.declared.path.components.Component.{Component as StdComponent}
use Rattle.std.specs.declared.path.components.Component.TheVariants.{RootDir, CurDir, ParentDir, Normal}
use Rattle.std.proofs.lemmas.Bool.{cond-true, cond-false, both_ways, or_parts, false_from_ne_true}
use Rattle.std.proofs.lemmas.List.{map-append, map_push}
use Rattle.std.proofs.lemmas.Slice.Eq.{bytes_eq-Decides}
use Rattle.jwalk_model.specs.Paths.{Component, root, here, up, plain, slash, dot, dots, parts, component_of, first_component, components_of, components}
use Rattle.jwalk_model.specs.PathTexts.{component_text, component_read, component_seen, IsName, IsProper, IsStep, AreSteps, AreProper}

pub by_test : {G : Type 0} (b : Bool) → (b ≡ true → G) → (b ≡ false → G) → G
by_test true holds fails = holds refl
by_test false holds fails = fails refl

-- a text is cut at its slashes
pub parts_are : (text : List ℕ) → parts text ≡ first_piece text ∷ later_pieces text
parts_are [] = refl
parts_are (b ∷ rest) = by_test (eqb b slash) (λ e. rw e (ap (λ ps. [] ∷ ps) (parts_are rest))) (λ e. rw e (ap (onto_first b) (parts_are rest)))

-- what a part gives, as texts
component_texts : (part : List ℕ) → map component_text (component_of part) ≡ cond (is_name part) (part ∷ []) []
component_texts [] = refl
component_texts (c ∷ cs) =
    let some = ne_eqb (length (c ∷ cs)) 0 (λ z. omega arith) in
    by_test (bytes_eq (c ∷ cs) dot)
    (λ e. rw (e, some) refl)
    (λ e. rw (e, some) (by_test (bytes_eq (c ∷ cs) dots) (λ up_. rw up_ (ap (λ t. t ∷ []) (sym ((bytes_eq-Decides (c ∷ cs) dots).0 up_)))) (λ other. rw other refl)))

names_texts : (others : List (List ℕ)) → map component_text (flat_map component_of others) ≡ filter is_name others
names_texts [] = refl
names_texts (part ∷ others) =
    map-append component_text (component_of part) (flat_map component_of others)
    ∙ ap₂ ◌++◌ (component_texts part) (names_texts others)
    ∙ by_test (is_name part) (λ e. rw e refl) (λ e. rw e refl)

first_piece_empty : (rest : List ℕ) → bytes_eq (first_piece rest) [] ≡ eqb (slice_index_or rest 0 slash) slash
first_piece_empty [] = refl
first_piece_empty (b ∷ rest) = by_test (eqb b slash) (λ e. rw e refl) (λ e. rw e refl)

-- the first part, where it has bytes
first_texts : (c : ℕ) (cs : List ℕ) (others names : List (List ℕ)) (leads : Bool) → leads ≡ bytes_eq (c ∷ cs) dot
    → cond leads (cur_dir ∷ []) [] ++ cond (is_name (c ∷ cs)) ((c ∷ cs) ∷ names) names ≡ map component_text (first_component (c ∷ cs) others) ++ names
first_texts c cs others names leads is =
    let some = ne_eqb (length (c ∷ cs)) 0 (λ z. omega arith) in
    by_test (bytes_eq (c ∷ cs) dot)
    (λ e. rw (is, e, some) refl)
    (λ e.
    let named : is_name (c ∷ cs) ≡ true = rw (e, some) refl in
    let text : map component_text (component_of (c ∷ cs)) ≡ (c ∷ cs) ∷ [] = component_texts (c ∷ cs) ∙ cond-true _ _ _ named in
    ap₂ ◌++◌ (cond-false leads (cur_dir ∷ []) [] (is ∙ e)) (cond-true _ ((c ∷ cs) ∷ names) names named)
    ∙ ap (λ l. l ++ names) (sym (ap (map component_text) (cond-false (bytes_eq (c ∷ cs) dot) (here ∷ []) _ e) ∙ text)))

parts_texts : (text : List ℕ) → leading_components text ++ filter is_name (first_piece text ∷ later_pieces text)
    ≡ map component_text (components_of (first_piece text ∷ later_pieces text))
parts_texts [] = refl
parts_texts (b ∷ rest) =
    by_test (eqb b slash)
    (λ e. rw (e) (ap (λ l. root_dir ∷ l) (sym (names_texts (first_piece rest ∷ later_pieces rest)))))
    (λ e.
    let piece = first_piece rest in
    let others = later_pieces rest in
    rw (e) (first_texts b piece others (filter is_name others) (is_dot_at (b ∷ rest) 0) (ap (λ t. eqb b dot_byte && t) (sym (first_piece_empty rest)))
    ∙ ap (λ l. map component_text (first_component (b ∷ piece) others) ++ l) (sym (names_texts others))
    ∙ sym (map-append component_text (first_component (b ∷ piece) others) (flat_map component_of others))))

-- the components that `std::path` gives are the texts of these
pub path_components-texts : (text : List ℕ) → path_components text ≡ map component_text (components text)
unfolding path_components path_names
path_components-texts text = parts_texts text ∙ ap (λ ps. map component_text (components_of ps)) (sym (parts_are text))

-- ---- a component read back

no_slash_first_piece : (text : List ℕ) → HasNoSlash (first_piece text)
no_slash_first_piece [] = tt
no_slash_first_piece (b ∷ rest) = by_test (eqb b slash) (λ e. rw e tt) (λ e. rw (e, e) (no_slash_first_piece rest))

not_root : (name : List ℕ) → HasNoSlash name → bytes_eq name (slash ∷ []) ≡ false
not_root name h = false_from_ne_true _ (λ e. subst HasNoSlash ((bytes_eq-Decides name (slash ∷ [])).0 e) h)

not_text : (name other : List ℕ) → name ≢ other → bytes_eq name other ≡ false
not_text name other h = false_from_ne_true _ (λ e. h ((bytes_eq-Decides name other).0 e))

name_read : (name : List ℕ) → IsName name → component_read name ≡ plain name
name_read name h =
    cond-false _ _ _ (not_root name h.no_slash) ∙ cond-false _ _ _ (not_text name dot h.not_dot) ∙ cond-false _ _ _ (not_text name dots h.not_dots)

pub component_read-text : (c : Component) → IsProper c → component_read (component_text c) ≡ c
component_read-text root h = refl
component_read-text here h = refl
component_read-text up h = refl
component_read-text (plain name) h = name_read name h

name_from_std : (name : List ℕ) → is_name name ≡ true → name ≢ parent_dir → HasNoSlash name → IsName name
name_from_std [] named other no_slash = absurd (both_ways false refl named)
name_from_std (c ∷ cs) named other no_slash = record {
  some = λ e. cc;
  not_dot = λ e. both_ways false refl (sym (ap is_name e) ∙ named);
  not_dots = other;
  no_slash = no_slash;
}

pub component_read-bytes : (d : StdComponent) → IsWellFormedComponent d → component_read (component_bytes d) ≡ component_seen d
component_read-bytes RootDir h = refl
component_read-bytes CurDir h = refl
component_read-bytes ParentDir h = refl
component_read-bytes (Normal name) h = name_read name.now (name_from_std name.now h.0 h.1 h.2)

-- what a call of `next` gives
pub next_read : (before after : List (List ℕ)) (r : Option StdComponent) → IsNextComponent before r after
    → MatchOption r ((map component_read before ≡ []) × (map component_read after ≡ [])) (λ d. map component_read before ≡ component_seen d ∷ map component_read after)
next_read before after None h = (ap (map component_read) h.0, ap (map component_read) h.1)
next_read before after (Some d) h = ap (map component_read) h.0 ∙ ap (λ c. c ∷ map component_read after) (component_read-bytes d h.1)

-- what a call of `next_back` gives
pub last_read : (before after : List (List ℕ)) (r : Option StdComponent) → IsLastComponent before r after
    → MatchOption r ((map component_read before ≡ []) × (map component_read after ≡ [])) (λ d. map component_read before ≡ map component_read after ++ component_seen d ∷ [])
last_read before after None h = (ap (map component_read) h.0, ap (map component_read) h.1)
last_read before after (Some d) h =
    ap (map component_read) h.0 ∙ map_push component_read after (component_bytes d) ∙ ap (λ c. map component_read after ++ c ∷ []) (component_read-bytes d h.1)

-- ---- the components of a text are proper

AreSteps-append : (cs ds : List Component) → AreSteps cs → AreSteps ds → AreSteps (cs ++ ds)
AreSteps-append [] ds g h = h
AreSteps-append (c ∷ cs) ds g h = (g.0, AreSteps-append cs ds g.1 h)

steps_of_part : (part : List ℕ) → HasNoSlash part → AreSteps (component_of part)
steps_of_part part h =
    by_test (bytes_eq part [] || bytes_eq part dot)
    (λ e. rw e tt)
    (λ e.
    let neither = or_parts _ _ e in
    rw e (by_test (bytes_eq part dots) (λ is_up. rw is_up (tt, tt))
    (λ other. rw other (
      record {
        some = λ same. both_ways _ neither.0 ((bytes_eq-Decides part []).1 same);
        not_dot = λ same. both_ways _ neither.1 ((bytes_eq-Decides part dot).1 same);
        not_dots = λ same. both_ways _ other ((bytes_eq-Decides part dots).1 same);
        no_slash = h;
      },
      tt,
    ))))

steps_of_parts : (text : List ℕ) → AreSteps (flat_map component_of (later_pieces text))
steps_of_parts [] = tt
steps_of_parts (b ∷ rest) =
    by_test (eqb b slash)
    (λ e. rw e (AreSteps-append (component_of (first_piece rest)) _ (steps_of_part (first_piece rest) (no_slash_first_piece rest)) (steps_of_parts rest)))
    (λ e. rw e (steps_of_parts rest))

steps_are_proper : (cs : List Component) → AreSteps cs → AreProper cs
steps_are_proper [] h = tt
steps_are_proper (root ∷ cs) h = absurd h.0
steps_are_proper (here ∷ cs) h = absurd h.0
steps_are_proper (up ∷ cs) h = (tt, h.1)
steps_are_proper (plain name ∷ cs) h = h

first_proper : (part : List ℕ) (others : List (List ℕ)) → HasNoSlash part → AreSteps (flat_map component_of others) → AreProper (components_of (part ∷ others))
first_proper [] [] h g = tt
first_proper [] (next ∷ others) h g = (tt, g)
first_proper (c ∷ cs) others h g =
    by_test (bytes_eq (c ∷ cs) dot)
    (λ e. rw e (tt, g))
    (λ e.
    subst (λ l. AreProper (l ++ flat_map component_of others)) (sym (cond-false (bytes_eq (c ∷ cs) dot) (here ∷ []) _ e))
    (steps_are_proper _ (AreSteps-append (component_of (c ∷ cs)) _ (steps_of_part (c ∷ cs) h) g)))

-- the root and `.` come only first, and each name is a plain one
pub components-proper : (text : List ℕ) → AreProper (components text)
components-proper text = subst (λ ps. AreProper (components_of ps)) (sym (parts_are text)) (first_proper (first_piece text) (later_pieces text) (no_slash_first_piece text) (steps_of_parts text))

step_is_proper : (c : Component) → IsStep c → IsProper c
step_is_proper root h = tt
step_is_proper here h = tt
step_is_proper up h = tt
step_is_proper (plain name) h = h

steps_read : (cs : List Component) → AreSteps cs → map component_read (map component_text cs) ≡ cs
steps_read [] h = refl
steps_read (c ∷ cs) h = ap₂ (λ d ds. d ∷ ds) (component_read-text c (step_is_proper c h.0)) (steps_read cs h.1)

proper_read : (cs : List Component) → AreProper cs → map component_read (map component_text cs) ≡ cs
proper_read [] h = refl
proper_read (c ∷ cs) h = ap₂ (λ d ds. d ∷ ds) (component_read-text c h.0) (steps_read cs h.1)

-- what `std::path` gives, read back
pub path_components-read : (text : List ℕ) → map component_read (path_components text) ≡ components text
path_components-read text = ap (map component_read) (path_components-texts text) ∙ proper_read (components text) (components-proper text)
