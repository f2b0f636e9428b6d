-- A tree in memory whose names are plain agrees with itself.
use Rattle.std.proofs.Common.{◌≡◌, ◌≢◌, ℕ, zero, suc, Bool, true, false, cond, List, [], ◌∷◌, ◌++◌, map, All, Option, Some, None, Result, Ok, Err, refl, sym, ap, subst, ◌∙◌, append_assoc, eqb, bytes_eq, flat_map}
use Rattle.std.specs.Path.{first_piece, later_pieces}
use Rattle.std.proofs.lemmas.Bool.{cond-true, cond-false}
use Rattle.std.specs.declared.io.ErrorKind.{ErrorKind}
use Rattle.std.specs.declared.io.ErrorKind.TheVariants as kind
use Rattle.std.proofs.lemmas.List.Elements.{All-nil, All-cons, All-head, All-tail}
use Rattle.jwalk_model.specs.declared.file_type.FileType.{FileType}
use Rattle.jwalk_model.specs.declared.file_type.FileType.TheVariants as type
use Rattle.jwalk_model.specs.declared.metadata.Metadata.{Metadata}
use Rattle.jwalk_model.specs.declared.seen.Seen.{Seen}
use Rattle.jwalk_model.specs.declared.seen.Seen.TheVariants.{TypeAlone, Whole}
use Rattle.jwalk_model.specs.FileType.{is_file}
use Rattle.jwalk_model.specs.FileSystem.{Listed}
use Rattle.jwalk_model.specs.Paths.{Component, root, here, up, plain, slash, dot, dots, component_of, first_component, components, join}
use Rattle.jwalk_model.specs.PathTexts.{IsName}
use Rattle.jwalk_model.specs.Tree.{Place, Node, directory, file, link, Tree, LookUp, link_limit, above, child, is_directory, through_link, to_child, step, along, looked_up, look_up, seen_of, seen_at, listing_at, node_metadata, at_found, functions_of}
use Rattle.jwalk_model.proofs.PathFacts.{by_test, parts_are}
use Rattle.jwalk_usage_laws.specs.Agreement.{own_path, SaysWhatIs}
use Rattle.jwalk_usage_laws.specs.Totals.{SaysAllOfFile}
use Rattle.jwalk_usage_laws.specs.Trees.{TreesAgree, KeptTotalsOverTrees}
use Rattle.jwalk_usage_laws.proofs.JoinFacts.{components_joined, own_components}
use Rattle.jwalk_usage_laws.proofs.TotalFacts.{kept_totals_are_totals, files_keep_metadata}

-- a result is one value
same_ok : {X : Type 0} (x y : X) (r : Result X ErrorKind) → r ≡ Ok x → r ≡ Ok y → x ≡ y
same_ok x y r is other = cc

-- ---- a look-up with one more name

module _ (tree : Tree) (name : List ℕ) (holder : Place) (node : Node) (dir : is_directory (tree holder) ≡ true) (there : tree (child holder name) ≡ Some node) where
  -- Where the first leads to the directory, the second leads on to the name in it.
  abbrev GoesOn : LookUp → LookUp → Type 0
  GoesOn followed last = (place : Place) (left : List Component) → followed place left ≡ Ok holder → last place (left ++ plain name ∷ []) ≡ Ok (child holder name)

  abbrev GoOn : Option LookUp → Option LookUp → Type 0
  GoOn None None = Unit {0}
  GoOn (Some followed) (Some last) = GoesOn followed last
  GoOn _ _ = ⊥

  last_step : (links : Option LookUp) (n : Node) → to_child false links (λ q. along tree false links q []) holder name [] (Some n) ≡ Ok (child holder name)
  last_step links (directory names denied) = refl
  last_step links (file len) = refl
  last_step links (link target) = refl

  at_holder : (links : Option LookUp) → along tree false links holder (plain name ∷ []) ≡ Ok (child holder name)
  at_holder links = rw (dir, there) (last_step links node)

  through_goes : (ways others : Option LookUp) → GoOn ways others → (at : Place) (target : List ℕ) (left : List Component) → through_link ways at target left ≡ Ok holder → through_link others at target (left ++ plain name ∷ []) ≡ Ok (child holder name)
  through_goes None None on at target left is = absurd cc
  through_goes (Some look_on) (Some other) on at [] left is = absurd cc
  through_goes (Some look_on) (Some other) on at (c ∷ target) left is =
      ap (other at) (sym (append_assoc (components (c ∷ target)) left (plain name ∷ []))) ∙ on at (components (c ∷ target) ++ left) is
  through_goes None (Some other) on at target left is = absurd on
  through_goes (Some look_on) None on at target left is = absurd on

  child_goes : (ways others : Option LookUp) → GoOn ways others → (go then : Place → Result Place ErrorKind) → ((q : Place) → go q ≡ Ok holder → then q ≡ Ok (child holder name))
      → (at : Place) (n : List ℕ) (left : List Component) (o : Option Node) → to_child true ways go at n left o ≡ Ok holder → to_child false others then at n (left ++ plain name ∷ []) o ≡ Ok (child holder name)
  child_goes ways others on go then next at n left None is = absurd cc
  child_goes ways others on go then next at n left (Some (directory names denied)) is = next (child at n) is
  child_goes ways others on go then next at n left (Some (file len)) is = next (child at n) is
  child_goes ways others on go then next at n [] (Some (link target)) is = through_goes ways others on at target [] is
  child_goes ways others on go then next at n (c ∷ left) (Some (link target)) is = through_goes ways others on at target (c ∷ left) is

  step_goes : (ways others : Option LookUp) → GoOn ways others → (go then : Place → Result Place ErrorKind) → ((q : Place) → go q ≡ Ok holder → then q ≡ Ok (child holder name))
      → (place : Place) (c : Component) (left : List Component) → step tree true ways go place c left ≡ Ok holder → step tree false others then place c (left ++ plain name ∷ []) ≡ Ok (child holder name)
  step_goes ways others on go then next place root left is = next [] is
  step_goes ways others on go then next place here left is = next place is
  step_goes ways others on go then next place up left is = next (above place) is
  step_goes ways others on go then next place (plain n) left is = child_goes ways others on go then next place n left (tree (child place n)) is

  if_directory : (b : Bool) (x y : Result Place ErrorKind) → cond b x (Err kind.Other) ≡ Ok holder → (x ≡ Ok holder → y ≡ Ok (child holder name)) → cond b y (Err kind.Other) ≡ Ok (child holder name)
  if_directory true x y is next = next is
  if_directory false x y is next = absurd cc

  along_goes : (ways others : Option LookUp) → GoOn ways others → GoesOn (along tree true ways) (along tree false others)
  along_goes ways others on place [] is = subst (λ q. along tree false others q (plain name ∷ []) ≡ Ok (child holder name)) (sym (same_ok place holder (Ok place) refl is)) (at_holder others)
  along_goes ways others on place (c ∷ left) is =
      if_directory (is_directory (tree place)) _ _ is
      (step_goes ways others on (λ q. along tree true ways q left) (λ q. along tree false others q (left ++ plain name ∷ [])) (λ q. along_goes ways others on q left) place c left)

  looked_up_goes : (links : ℕ) → GoesOn (looked_up tree true links) (looked_up tree false links)
  looked_up_goes zero = along_goes None None tt
  looked_up_goes (suc links) = along_goes (Some (looked_up tree true links)) (Some (looked_up tree false links)) (looked_up_goes links)

-- a look-up of a text that is not empty
by_components : (tree : Tree) (follow : Bool) (text : List ℕ) → text ≢ [] → look_up tree follow text ≡ looked_up tree follow link_limit [] (components text)
by_components tree follow [] some = absurd (some refl)
by_components tree follow (c ∷ cs) some = refl

not_empty : (path name : List ℕ) → IsName name → join path name ≢ []
not_empty path name h e = push_empty (components path) (plain name) (sym (components_joined path name h) ∙ ap components e)
  where
    push_empty : (cs : List Component) (c : Component) → cs ++ c ∷ [] ≢ []
    push_empty [] c z = cc
    push_empty (d ∷ cs) c z = cc

-- a name in the directory that a path leads to is found below that path
found_below : (tree : Tree) (path name : List ℕ) (holder : Place) (node : Node) → look_up tree true path ≡ Ok holder → is_directory (tree holder) ≡ true → tree (child holder name) ≡ Some node → IsName name
    → look_up tree false (join path name) ≡ Ok (child holder name)
found_below tree [] name holder node found dir there named = absurd cc
found_below tree (c ∷ cs) name holder node found dir there named =
    let path = c ∷ cs in
    by_components tree false (join path name) (not_empty path name named)
    ∙ ap (looked_up tree false link_limit []) (components_joined path name named)
    ∙ looked_up_goes tree name holder node dir there link_limit [] (components path) found

-- ---- listings

-- a child as a listing gives it
abbrev shown : Option Node → Result Seen ErrorKind
shown o = Ok (seen_at o)

abbrev listed_child : Tree → Place → List ℕ → Listed
listed_child tree holder name = Ok (record { name = name; seen = shown (tree (child holder name)) })

module _ (tree : Tree) (path : List ℕ) (holder : Place) (found : look_up tree true path ≡ Ok holder) (dir : is_directory (tree holder) ≡ true) where
  said_of : (name : List ℕ) (o : Option Node) → tree (child holder name) ≡ o → IsName name → (m : Metadata) → shown o ≡ Ok (Whole m) → (functions_of tree).link_meta_of (join path name) ≡ Ok m
  said_of name None there named m is = absurd cc
  said_of name (Some node) there named m is =
      let same : seen_of node ≡ m = cc in
      ap (at_found (λ place. node_metadata (tree place))) (found_below tree path name holder node found dir there named) ∙ ap node_metadata there ∙ ap Ok same

  listed_names : (names : List (List ℕ)) → All IsName names → All (SaysWhatIs (functions_of tree) path) (map (listed_child tree holder) names)
  listed_names [] named = All-nil (SaysWhatIs (functions_of tree) path)
  listed_names (name ∷ names) named =
      All-cons (SaysWhatIs (functions_of tree) path) (listed_child tree holder name) (map (listed_child tree holder) names) (said_of name (tree (child holder name)) refl (All-head IsName name names named)) (listed_names names (All-tail IsName name names named))

  no_file_alone : (o : Option Node) (t : FileType) → shown o ≡ Ok (TypeAlone t) → is_file t ≡ false
  no_file_alone None t is = let same : type.Other ≡ t = cc in ap is_file (sym same)
  no_file_alone (Some node) t is = absurd cc

  listed_files : (names : List (List ℕ)) → All SaysAllOfFile (map (listed_child tree holder) names)
  listed_files [] = All-nil SaysAllOfFile
  listed_files (name ∷ names) = All-cons SaysAllOfFile (listed_child tree holder name) (map (listed_child tree holder) names) (no_file_alone (tree (child holder name))) (listed_files names)

-- What holds of the listing of each directory holds of each listing.
module _ (tree : Tree) (Fits : List Listed → Type 0) (path : List ℕ)
    (fit : (holder : Place) (names : List (List ℕ)) → look_up tree true path ≡ Ok holder → tree holder ≡ Some (directory names None) → Fits (map (listed_child tree holder) names)) where
  by_node : (holder : Place) (items : List Listed) (o : Option Node) → look_up tree true path ≡ Ok holder → tree holder ≡ o → listing_at tree holder o ≡ Ok items → Fits items
  by_node holder items None found there is = absurd cc
  by_node holder items (Some (directory names None)) found there is = subst Fits (same_ok _ items (listing_at tree holder (Some (directory names None))) refl is) (fit holder names found there)
  by_node holder items (Some (directory names (Some denied))) found there is = absurd cc
  by_node holder items (Some (file len)) found there is = absurd cc
  by_node holder items (Some (link target)) found there is = absurd cc

  by_place : (items : List Listed) (r : Result Place ErrorKind) → look_up tree true path ≡ r → at_found (λ place. listing_at tree place (tree place)) r ≡ Ok items → Fits items
  by_place items (Ok holder) found is = by_node holder items (tree holder) found refl is
  by_place items (Err k) found is = absurd cc

is_dir_there : (o : Option Node) (names : List (List ℕ)) (denied : Option ErrorKind) → o ≡ Some (directory names denied) → is_directory o ≡ true
is_dir_there o names denied e = ap is_directory e

-- ---- paths of entries

same_found : (tree : Tree) (follow : Bool) (a b : List ℕ) → (a ≡ [] → b ≡ []) → (b ≡ [] → a ≡ []) → components a ≡ components b → look_up tree follow a ≡ look_up tree follow b
same_found tree follow [] [] to from same = refl
same_found tree follow [] (d ∷ ds) to from same = absurd (nil_cons (to refl))
  where
    nil_cons : d ∷ ds ≢ []
    nil_cons z = cc
same_found tree follow (c ∷ cs) [] to from same = absurd (nil_cons (from refl))
  where
    nil_cons : c ∷ cs ≢ []
    nil_cons z = cc
same_found tree follow (c ∷ cs) (d ∷ ds) to from same = ap (looked_up tree follow link_limit []) same

first_some : (c : ℕ) (part : List ℕ) (others : List (List ℕ)) → first_component (c ∷ part) others ≢ []
first_some c part others =
    by_test (bytes_eq (c ∷ part) dot)
    (λ e z. here_some (sym (cond-true _ _ _ e) ∙ z))
    (λ e z. part_some (sym (cond-false _ (here ∷ []) (component_of (c ∷ part)) e) ∙ z) e)
  where
    here_some : here ∷ [] ≢ []
    here_some z = cc

    part_some : component_of (c ∷ part) ≡ [] → bytes_eq (c ∷ part) dot ≡ false → ⊥
    part_some z e =
        let is : component_of (c ∷ part) ≡ cond (bytes_eq (c ∷ part) dots) (up ∷ []) (plain (c ∷ part) ∷ []) = cond-false _ _ _ e in
        by_test (bytes_eq (c ∷ part) dots)
        (λ h. let one : up ∷ [] ≡ [] = sym (is ∙ cond-true _ _ _ h) ∙ z in cc)
        (λ h. let one : plain (c ∷ part) ∷ [] ≡ [] = sym (is ∙ cond-false _ _ _ h) ∙ z in cc)

empty_front : (cs ds : List Component) → cs ++ ds ≡ [] → cs ≡ []
empty_front [] ds e = refl
empty_front (c ∷ cs) ds e = cc

-- only the empty text has no components
some_components : (text : List ℕ) → components text ≡ [] → text ≡ []
some_components [] e = refl
some_components (c ∷ cs) e =
    by_test (eqb c slash)
    (λ h. let with_root : root ∷ flat_map component_of (first_piece cs ∷ later_pieces cs) ≡ [] = sym (slash_first h) ∙ e in absurd cc)
    (λ h. absurd (first_some c (first_piece cs) (later_pieces cs) (empty_front _ _ (sym (byte_first h) ∙ e))))
  where
    slash_first : eqb c slash ≡ true → components (c ∷ cs) ≡ root ∷ flat_map component_of (first_piece cs ∷ later_pieces cs)
    slash_first h = rw (h, parts_are cs) refl

    byte_first : eqb c slash ≡ false → components (c ∷ cs) ≡ first_component (c ∷ first_piece cs) (later_pieces cs) ++ flat_map component_of (later_pieces cs)
    byte_first h = rw (h, parts_are cs) refl

own_found : (tree : Tree) (follow : Bool) (path : List ℕ) → look_up tree follow (own_path path) ≡ look_up tree follow path
own_found tree follow path =
    let same = own_components path in
    same_found tree follow (own_path path) path (λ e. some_components path (sym same ∙ ap components e)) (λ e. some_components (own_path path) (same ∙ ap components e)) same

pub trees_agree : TreesAgree
trees_agree tree named = record {
  agrees = record {
    listed = λ path items is. by_place tree (All (SaysWhatIs (functions_of tree) path)) path
        (λ holder names found there. listed_names tree path holder found (is_dir_there (tree holder) names None there) names (named holder names None there))
        items (look_up tree true path) refl is;
    through = λ path m is. ap (at_found (λ place. node_metadata (tree place))) (own_found tree true path) ∙ is;
  };
  says_all = λ path items is. by_place tree (All SaysAllOfFile) path
      (λ holder names found there. listed_files tree path holder found (is_dir_there (tree holder) names None there) names)
      items (look_up tree true path) refl is;
  roots = λ path m is. ap (at_found (λ place. node_metadata (tree place))) (own_found tree false path) ∙ is;
}

pub kept_totals_over_trees : KeptTotalsOverTrees
kept_totals_over_trees tree options text named =
    let it = trees_agree tree named in
    kept_totals_are_totals (functions_of tree) options text it.agrees (it.roots text) (files_keep_metadata (functions_of tree) options text it.says_all)
