-- The components of a path with one more name, and of the path of an entry.
use Rattle.std.proofs.Common.{◌≡◌, ◌≢◌, ℕ, ◌<◌, ◌-◌, Bool, true, false, cond, eqb, List, [], ◌∷◌, ◌++◌, length, get_or, map, filter, bytes_eq, Option, Some, None, option_map, refl, sym, ap, ap₂, subst, ◌∙◌, arith, eqb-true, ne_eqb}
use Rattle.std.specs.Option.{option_flatten}
use Rattle.std.specs.Path.{HasNoSlash, IsRelative, first_piece, later_pieces, is_name, normal_name, split_last_component, path_names, path_join, path_components, path_parent, path_file_name, with_separator}
use Rattle.std.proofs.lemmas.Bool.{cond-true, cond-false, eqb-false, or_from, false_from_ne_true}
use Rattle.std.proofs.lemmas.List.{map_push}
use Rattle.std.proofs.lemmas.Paths.{path_components_join, path_components_parent, path_join_relative}
use Rattle.std.proofs.lemmas.Slice.Eq.{bytes_eq-Decides}
use Rattle.jwalk_model.specs.Paths.{Component, root, here, up, plain, slash, dot, dots, parts, component_of, components_of, components, last_of, name_of, file_name, parent, starts_with_slash, with_slash, join}
use Rattle.jwalk_model.specs.PathTexts.{component_read, IsName, AreSteps, AreProper}
use Rattle.jwalk_model.proofs.PathFacts.{by_test, parts_are, component_read-text, path_components-read, components-proper}
use Rattle.jwalk_model.proofs.PathJoins.{with_slash_kept, with_slash_added}
use Rattle.jwalk_model.proofs.PathNames.{path_file_name_is}
use Rattle.jwalk_model.proofs.PathParents.{last_of-push, path_parent_is}
use Rattle.jwalk_usage_laws.specs.Agreement.{own_path}

-- a text with no slash is one piece
one_piece : (text : List ℕ) → HasNoSlash text → (first_piece text ≡ text) × (later_pieces text ≡ [])
one_piece [] h = (refl, refl)
one_piece (b ∷ rest) h =
    by_test (eqb b slash)
    (λ e. absurd (rw e at h))
    (λ e. let more = one_piece rest (rw e at h) in rw e (ap (λ l. b ∷ l) more.0, more.1))

-- a name is one part
one_part : (name : List ℕ) → IsName name → parts name ≡ name ∷ []
one_part name h = let one = one_piece name h.no_slash in parts_are name ∙ ap₂ (λ x y. x ∷ y) one.0 one.1

not_text : (name other : List ℕ) → name ≢ other → bytes_eq name other ≡ false
not_text name other h = false_from_ne_true _ (λ e. h ((bytes_eq-Decides name other).0 e))

plain_part : (name : List ℕ) → IsName name → component_of name ≡ plain name ∷ []
plain_part name h =
    cond-false _ _ _ (or_from _ _ (not_text name [] h.some) (not_text name dot h.not_dot)) ∙ cond-false _ _ _ (not_text name dots h.not_dots)

plain_first : (name : List ℕ) → IsName name → components_of (name ∷ []) ≡ plain name ∷ []
plain_first [] h = absurd (h.some refl)
plain_first (c ∷ cs) h = ap (λ l. l ++ []) (cond-false _ _ _ (not_text (c ∷ cs) dot h.not_dot) ∙ plain_part (c ∷ cs) h)

name_components : (name : List ℕ) → IsName name → components name ≡ plain name ∷ []
name_components name h = ap components_of (one_part name h) ∙ plain_first name h

-- it starts with no slash
is_relative : (name : List ℕ) → IsName name → IsRelative name
is_relative [] h = absurd (h.some refl)
is_relative (c ∷ cs) h = λ e. let bad : HasNoSlash (slash ∷ cs) = subst (λ b. HasNoSlash (b ∷ cs)) e h.no_slash in bad

no_slash_first : (name : List ℕ) → IsName name → starts_with_slash name ≡ false
no_slash_first [] h = refl
no_slash_first (c ∷ cs) h = ne_eqb c slash (is_relative (c ∷ cs) h)

names_of_one : (name : List ℕ) → IsName name → path_names name ≡ name ∷ []
unfolding path_names
names_of_one name h =
    let one = one_piece name h.no_slash in
    ap₂ (λ x y. filter is_name (x ∷ y)) one.0 one.1 ∙ cond-true (is_name name) (name ∷ []) [] (named name h)
  where
    named : (text : List ℕ) → IsName text → is_name text ≡ true
    named [] k = absurd (k.some refl)
    named (c ∷ cs) k = rw (ne_eqb (length (c ∷ cs)) 0 (λ z. omega arith), not_text (c ∷ cs) dot k.not_dot) refl

-- a slash is put at the end as `std::path` does it
same_with_slash : (text : List ℕ) → 0 < length text → with_separator text ≡ with_slash text
same_with_slash text some =
    let none : eqb (length text) 0 ≡ false = ne_eqb (length text) 0 (λ z. omega arith) in
    by_test (eqb (get_or text (length text - 1) 0) slash)
    (λ e. rw (none, e) (sym (append-nil-of text) ∙ with_slash_kept text (eqb-true _ _ e)))
    (λ e. rw (none, e) (with_slash_added text some (eqb-false _ _ e)))
  where
    append-nil-of : (t : List ℕ) → t ++ [] ≡ t
    append-nil-of [] = refl
    append-nil-of (c ∷ cs) = ap (λ l. c ∷ l) (append-nil-of cs)

joined_by : (path name : List ℕ) → IsName name → join path name ≡ with_slash path ++ name
joined_by path name h = cond-false _ _ _ (no_slash_first name h)

-- a name below a path is one more component
pub components_joined : (path name : List ℕ) → IsName name → components (join path name) ≡ components path ++ plain name ∷ []
components_joined [] name h = ap components (joined_by [] name h) ∙ name_components name h
components_joined (c ∷ cs) name h =
    let path = c ∷ cs in
    let some : 0 < length path = omega arith in
    let relative = is_relative name h in
    let same : join path name ≡ path_join path name =
    joined_by path name h ∙ ap (λ t. t ++ name) (sym (same_with_slash path some)) ∙ sym (path_join_relative path name relative) in
    ap components same
    ∙ sym (path_components-read (path_join path name))
    ∙ ap (map component_read) (path_components_join path name some relative ∙ ap (λ l. path_components path ++ l) (names_of_one name h))
    ∙ map_push component_read (path_components path) name
    ∙ ap₂ (λ l c. l ++ c ∷ []) (path_components-read path) (component_read-text (plain name) h)

-- ---- the path of an entry that is made of a path

plain_of : (c : Component) (name : List ℕ) → name_of (Some c) ≡ Some name → c ≡ plain name
plain_of root name e = cc
plain_of here name e = cc
plain_of up name e = cc
plain_of (plain other) name e = cc

steps_last : (cs : List Component) (name : List ℕ) → AreSteps (cs ++ plain name ∷ []) → IsName name
steps_last [] name h = h.0
steps_last (c ∷ cs) name h = steps_last cs name h.1

proper_last : (cs : List Component) (name : List ℕ) → AreProper (cs ++ plain name ∷ []) → IsName name
proper_last [] name h = h.0
proper_last (c ∷ cs) name h = steps_last cs name h.1

-- a path that has a file name has a parent, and these are its components
record IsInParent (path name : List ℕ) : Type 0 where
  front : List ℕ
  is : parent path ≡ Some front
  components_are : components path ≡ components front ++ plain name ∷ []
  named : IsName name

split_front : (split : Option (List ℕ × List ℕ)) (name : List ℕ) → option_flatten (option_map (λ s. normal_name s.1) split) ≡ Some name → (front : List ℕ) × (option_map (λ s. s.0) split ≡ Some front)
split_front None name e = absurd cc
split_front (Some s) name e = (s.0, refl)

has_front : (path name : List ℕ) → path_file_name path ≡ Some name → (front : List ℕ) × (path_parent path ≡ Some front)
unfolding path_parent path_file_name
has_front path name e = split_front (split_last_component path) name e

in_parent : (path name : List ℕ) → file_name path ≡ Some name → IsInParent path name
in_parent path name e =
    let found = has_front path name (path_file_name_is path ∙ e) in
    let front = found.0 in
    let split = path_components_parent path front found.1 in
    let last = component_read split.0 in
    let cs : components path ≡ components front ++ last ∷ [] =
    sym (path_components-read path) ∙ ap (map component_read) split.1 ∙ map_push component_read (path_components front) split.0 ∙ ap (λ l. l ++ last ∷ []) (path_components-read front) in
    let is_plain : last ≡ plain name = plain_of last name (ap name_of (sym (last_of-push (components front) last)) ∙ sym (ap (λ l. name_of (last_of l)) cs) ∙ e) in
    let whole : components path ≡ components front ++ plain name ∷ [] = cs ∙ ap (λ c. components front ++ c ∷ []) is_plain in
    record {
      front = front;
      is = sym (path_parent_is path) ∙ found.1;
      components_are = whole;
      named = proper_last (components front) name (subst AreProper whole (components-proper path));
    }

own_by : (path : List ℕ) (name : Option (List ℕ)) → file_name path ≡ name → components (own_path path) ≡ components path
own_by path None e = rw e (alone (starts_with_slash path))
  where
    alone : (b : Bool) → components (cond b path path) ≡ components path
    alone true = refl
    alone false = refl
own_by path (Some name) e =
    let it = in_parent path name e in
    rw (e, it.is) (components_joined it.front name it.named ∙ sym it.components_are)

-- it has the components of the path
pub own_components : (path : List ℕ) → components (own_path path) ≡ components path
own_components path = own_by path (file_name path) refl
