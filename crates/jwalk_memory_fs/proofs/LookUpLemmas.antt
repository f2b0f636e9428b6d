-- A look-up in the tree finds what one in the table does.
use Rattle.std.proofs.Common.{◌≡◌, ◌≢◌, ℕ, zero, suc, Bool, true, false, List, [], ◌∷◌, ◌++◌, Option, None, Some, Result, Ok, Err, refl, sym, ap, subst, ◌∙◌}
use Rattle.std.specs.Prelude.{option_and_then, if◌then◌else◌}
use Rattle.std.specs.Option.{option_map}
use Rattle.std.specs.declared.io.ErrorKind.{ErrorKind}
use Rattle.std.specs.declared.io.ErrorKind.TheVariants as kind
use Rattle.jwalk_model.specs.Paths.{Component, root, here, up, plain, components}
use Rattle.jwalk_model.specs.Tree.{Place, above, child, is_directory, LookUp, through_link, to_child, step, along as along_tree, link_limit, looked_up, look_up}
use Rattle.jwalk_memory_fs.specs.Child.{Child, Dir, File, Link}
use Rattle.jwalk_memory_fs.specs.Hit.{Hit, on_dir, on_file, on_link}
use Rattle.jwalk_memory_fs.specs.Branch.{Branch, child_named, children_at, parent_at, child_of, at_end, node_of, tree_of_table, hit_or_missing, go_on, Way, through, along, reached, from_root, found, IsSound}
use Rattle.jwalk_memory_fs.proofs.PlaceLemmas.{above-append}
use Rattle.jwalk_memory_fs.proofs.TableLemmas.{at_end-append, at_above}

-- the place of a hit
abbrev pub IsAt : List Branch → Place → Hit → Type 0
IsAt table place (on_dir index) = at_end table (Dir 0) place ≡ Some (Dir index)
IsAt table place (on_file len) = at_end table (Dir 0) place ≡ Some (File len)
IsAt table place (on_link holder target) = (at_end table (Dir 0) place ≡ Some (Link target)) × (at_end table (Dir 0) (above place) ≡ Some (Dir holder))

-- Both found the same, or failed alike.
abbrev pub Agrees : List Branch → Result Place ErrorKind → Result Hit ErrorKind → Type 0
Agrees table (Ok place) (Ok hit) = IsAt table place hit
Agrees table (Ok place) (Err k) = ⊥
Agrees table (Err k) (Ok hit) = ⊥
Agrees table (Err k) (Err l) = k ≡ l

-- Behind a link, both go on alike from the directory that holds it, or neither may.
abbrev WaysAgree : List Branch → Option LookUp → Option Way → Type 0
WaysAgree table None None = Unit {0}
WaysAgree table None (Some way) = ⊥
WaysAgree table (Some look_on) None = ⊥
WaysAgree table (Some look_on) (Some way) = (place : Place) (i : ℕ) (cs : List Component) → at_end table (Dir 0) place ≡ Some (Dir i) → Agrees table (look_on place cs) (way (on_dir i) cs)

through_agrees : (table : List Branch) (links : Option LookUp) (ways : Option Way) → WaysAgree table links ways → (place : Place) (i : ℕ) (target : List ℕ) (cs : List Component)
    → at_end table (Dir 0) place ≡ Some (Dir i) → Agrees table (through_link links place target cs) (through ways i target cs)
through_agrees table None None agree place i target cs e = refl
through_agrees table None (Some way) agree place i target cs e = absurd agree
through_agrees table (Some look_on) None agree place i target cs e = absurd agree
through_agrees table (Some look_on) (Some way) agree place i [] cs e = refl
through_agrees table (Some look_on) (Some way) agree place i (c ∷ target) cs e = agree place i (components (c ∷ target) ++ cs) e

module _ (table : List Branch) (follow : Bool) (links : Option LookUp) (ways : Option Way) (agree : WaysAgree table links ways) where
  abbrev go : List Component → Place → Result Place ErrorKind
  go left p = along_tree (tree_of_table table) follow links p left

  along_file : (place : Place) (len : ℕ) (c : Component) (cs : List Component) → at_end table (Dir 0) place ≡ Some (File len) → go (c ∷ cs) place ≡ Err kind.Other
  along_file place len c cs e =
      ap (λ (o : Option Child). if is_directory (option_map (node_of table) o) then step (tree_of_table table) follow links (go cs) place c cs else Err kind.Other) e

  along_dir : (place : Place) (i : ℕ) (c : Component) (cs : List Component) → at_end table (Dir 0) place ≡ Some (Dir i) → go (c ∷ cs) place ≡ step (tree_of_table table) follow links (go cs) place c cs
  along_dir place i c cs e =
      ap (λ (o : Option Child). if is_directory (option_map (node_of table) o) then step (tree_of_table table) follow links (go cs) place c cs else Err kind.Other) e

  file_agrees : (place : Place) (len : ℕ) (cs : List Component) → at_end table (Dir 0) place ≡ Some (File len) → Agrees table (go cs place) (along table follow ways (on_file len) cs)
  file_agrees place len [] e = e
  file_agrees place len (c ∷ cs) e = subst (λ r. Agrees table r (Err kind.Other)) (sym (along_file place len c cs e)) refl

  -- a link at the end is followed if that is asked for, and each other one always
  link_agrees : (place : Place) (i : ℕ) (name target : List ℕ) (cs : List Component) → at_end table (Dir 0) place ≡ Some (Dir i) → at_end table (Dir 0) (child place name) ≡ Some (Link target)
      → Agrees table (to_child follow links (go cs) place name cs (option_map (node_of table) (Some (Link target)))) (along table follow ways (on_link i target) cs)
  link_agrees place i name target [] at e =
      elim follow as (λ (b : Bool). Agrees table (if b then through_link links place target [] else Ok (child place name)) (if b then through ways i target [] else Ok (on_link i target)))
      [ true ↦ through_agrees table links ways agree place i target [] at | false ↦ (e, ap (at_end table (Dir 0)) (above-append place name) ∙ at) ]
  link_agrees place i name target (c ∷ cs) at e = through_agrees table links ways agree place i target (c ∷ cs) at

  abbrev Follows : List Component → Type 0
  Follows cs = (place : Place) (i : ℕ) → at_end table (Dir 0) place ≡ Some (Dir i) → Agrees table (go cs place) (along table follow ways (on_dir i) cs)

  named_agrees : (place : Place) (i : ℕ) (name : List ℕ) (cs : List Component) → Follows cs → at_end table (Dir 0) place ≡ Some (Dir i)
      → (o : Option Child) → at_end table (Dir 0) (child place name) ≡ o
      → Agrees table (to_child follow links (go cs) place name cs (option_map (node_of table) o)) (go_on (λ next. along table follow ways next cs) (hit_or_missing i o))
  named_agrees place i name cs hyp at None e = refl
  named_agrees place i name cs hyp at (Some (Dir j)) e = hyp (child place name) j e
  named_agrees place i name cs hyp at (Some (File len)) e = file_agrees (child place name) len cs e
  named_agrees place i name cs hyp at (Some (Link target)) e = link_agrees place i name target cs at e

  step_agrees : IsSound table → (place : Place) (i : ℕ) (c : Component) (cs : List Component) → Follows cs → at_end table (Dir 0) place ≡ Some (Dir i)
      → Agrees table (step (tree_of_table table) follow links (go cs) place c cs) (along table follow ways (on_dir i) (c ∷ cs))
  step_agrees sound place i root cs hyp e = hyp [] 0 refl
  step_agrees sound place i here cs hyp e = hyp place i e
  step_agrees sound place i up cs hyp e = hyp (above place) (parent_at table i) (at_above table sound place i e)
  step_agrees sound place i (plain name) cs hyp e =
      let o = at_end-append table (Dir 0) place name ∙ ap (option_and_then (λ x. child_of table x name)) e in
      subst (λ r. Agrees table r (along table follow ways (on_dir i) (plain name ∷ cs)))
      (sym (ap (λ (x : Option Child). to_child follow links (go cs) place name cs (option_map (node_of table) x)) o))
      (named_agrees place i name cs hyp e (child_named (children_at table i) name) o)

  along_agrees : IsSound table → (cs : List Component) → Follows cs
  along_agrees sound [] place i e = e
  along_agrees sound (c ∷ cs) place i e =
      subst (λ r. Agrees table r (along table follow ways (on_dir i) (c ∷ cs))) (sym (along_dir place i c cs e)) (step_agrees sound place i c cs (along_agrees sound cs) e)

-- the look-up from a directory, with n links that may be followed
reached_agrees : (table : List Branch) (follow : Bool) → IsSound table → (links : ℕ) (place : Place) (i : ℕ) (cs : List Component) → at_end table (Dir 0) place ≡ Some (Dir i)
    → Agrees table (looked_up (tree_of_table table) follow links place cs) (reached table follow links (on_dir i) cs)
reached_agrees table follow sound zero place i cs e = along_agrees table follow None None tt sound cs place i e
reached_agrees table follow sound (suc links) place i cs e =
    along_agrees table follow (Some (looked_up (tree_of_table table) follow links)) (Some (reached table follow links)) (reached_agrees table follow sound links) sound cs place i e

-- a whole look-up
pub from_root_agrees : (table : List Branch) (follow : Bool) → IsSound table → (cs : List Component) → Agrees table (looked_up (tree_of_table table) follow link_limit [] cs) (from_root table follow cs)
unfolding from_root
from_root_agrees table follow sound cs = reached_agrees table follow sound link_limit [] 0 cs refl

-- the look-up of a path
pub look_up_agrees : (table : List Branch) (follow : Bool) → IsSound table → (path : List ℕ) → Agrees table (look_up (tree_of_table table) follow path) (found table follow path)
look_up_agrees table follow sound [] = refl
look_up_agrees table follow sound (c ∷ cs) = from_root_agrees table follow sound (components (c ∷ cs))

pub found-some : (table : List Branch) (follow : Bool) (path : List ℕ) → path ≢ [] → found table follow path ≡ from_root table follow (components path)
found-some table follow [] ne = absurd (ne refl)
found-some table follow (c ∷ cs) ne = refl
