-- Where a path that is built on leads, in the table and in the tree.
use Rattle.std.proofs.Common.{◌≡◌, ℕ, true, List, [], ◌∷◌, ◌++◌, map, Option, None, Some, Result, Ok, Err, refl, sym, ap, subst, ◌∙◌}
use Rattle.std.specs.Prelude.{if◌then◌else◌}
use Rattle.std.specs.Option.{option_map}
use Rattle.std.specs.Path.{IsLastComponent}
use Rattle.std.specs.declared.io.ErrorKind.{ErrorKind}
use Rattle.std.specs.declared.path.components.Component.{Component as StdComponent}
use Rattle.jwalk_model.specs.Paths.{Component, root, here, up, plain, components, last_of, all_but_last, name_of}
use Rattle.jwalk_model.specs.PathTexts.{component_read, component_seen}
use Rattle.jwalk_model.specs.Tree.{Place, is_directory, looked_up, Spot, spot_in, spot_below, spot_of}
use Rattle.jwalk_model.proofs.PathFacts.{last_read}
use Rattle.jwalk_memory_fs.specs.Child.{Child, Dir}
use Rattle.jwalk_memory_fs.specs.Hit.{Hit, on_dir, on_file, on_link}
use Rattle.jwalk_memory_fs.specs.Branch.{Branch, at_end, node_of, tree_of_table, from_root, holder_of, named_below, named_spot, IsSound}
use Rattle.jwalk_memory_fs.proofs.LookUpLemmas.{Agrees, from_root_agrees}

last_of-append : (front : List Component) (c : Component) → last_of (front ++ c ∷ []) ≡ Some c
last_of-append [] c = refl
last_of-append (a ∷ []) c = refl
last_of-append (a ∷ b ∷ cs) c = last_of-append (b ∷ cs) c

all_but_last-append : (front : List Component) (c : Component) → all_but_last (front ++ c ∷ []) ≡ front
all_but_last-append [] c = refl
all_but_last-append (a ∷ []) c = refl
all_but_last-append (a ∷ b ∷ cs) c = ap (λ (ds : List Component). a ∷ ds) (all_but_last-append (b ∷ cs) c)

-- what `next_back` gives is the last component, and the others are left
pub last_split : (cs : List Component) (before after : List (List ℕ)) (r : Option StdComponent) → IsLastComponent before r after → map component_read before ≡ cs
    → (last_of cs ≡ option_map component_seen r) × (all_but_last cs ≡ map component_read after)
last_split cs before after None h e =
    let both = last_read before after None h in
    (ap last_of (sym e ∙ both.0), ap all_but_last (sym e ∙ both.0) ∙ sym both.1)
last_split cs before after (Some d) h e =
    let whole = sym e ∙ last_read before after (Some d) h in
    (ap last_of whole ∙ last_of-append (map component_read after) (component_seen d), ap all_but_last whole ∙ all_but_last-append (map component_read after) (component_seen d))

pub named_spot-split : (table : List Branch) (cs : List Component) (before after : List (List ℕ)) (r : Option StdComponent) (name : Option (List ℕ))
    → IsLastComponent before r after → map component_read before ≡ cs → name ≡ name_of (option_map component_seen r)
    → named_spot table cs ≡ named_below table (map component_read after) name
named_spot-split table cs before after r name h e is =
    let both = last_split cs before after r h e in
    ap (λ (front : List Component). named_below table front (name_of (last_of cs))) both.1
    ∙ ap (named_below table (map component_read after)) (ap name_of both.0 ∙ sym is)

-- Both are nothing, or the same name in the same directory.
abbrev pub SpotsAgree : List Branch → Option Spot → Option (ℕ × List ℕ) → Type 0
SpotsAgree table None None = Unit {0}
SpotsAgree table None (Some t) = ⊥
SpotsAgree table (Some s) None = ⊥
SpotsAgree table (Some s) (Some t) = (at_end table (Dir 0) s.holder ≡ Some (Dir t.0)) × (s.name ≡ t.1)

abbrev spot_at : Place → List ℕ → Spot
spot_at place name = record { holder = place; name = name }

module _ (table : List Branch) (sound : IsSound table) where
  agree_in : (name : List ℕ) (r : Result Place ErrorKind) (s : Result Hit ErrorKind) → Agrees table r s
      → SpotsAgree table (spot_in (tree_of_table table) name r) (option_map (λ holder. (holder, name)) (holder_of s))
  agree_in name (Ok place) (Ok (on_dir i)) e =
      subst (λ (o : Option Child). SpotsAgree table (if is_directory (option_map (node_of table) o) then Some (spot_at place name) else None) (Some (i, name))) (sym e) (e, refl)
  agree_in name (Ok place) (Ok (on_file len)) e =
      subst (λ (o : Option Child). SpotsAgree table (if is_directory (option_map (node_of table) o) then Some (spot_at place name) else None) None) (sym e) tt
  agree_in name (Ok place) (Ok (on_link holder target)) e =
      subst (λ (o : Option Child). SpotsAgree table (if is_directory (option_map (node_of table) o) then Some (spot_at place name) else None) None) (sym e.0) tt
  agree_in name (Ok place) (Err l) e = absurd e
  agree_in name (Err k) (Ok hit) e = absurd e
  agree_in name (Err k) (Err l) e = tt

  agree_below : (front : List Component) (last : Option Component) → SpotsAgree table (spot_below (tree_of_table table) front last) (named_below table front (name_of last))
  agree_below front None = tt
  agree_below front (Some root) = tt
  agree_below front (Some here) = tt
  agree_below front (Some up) = tt
  agree_below front (Some (plain name)) =
      agree_in name (looked_up (tree_of_table table) true 40 [] front) (from_root table true front) (from_root_agrees table true sound front)

  -- the tree's spot is the table's
  pub spots_agree : (path : List ℕ) → SpotsAgree table (spot_of (tree_of_table table) path) (named_spot table (components path))
  spots_agree path = agree_below (all_but_last (components path)) (last_of (components path))
