-- The names of a tree in memory stay plain as it is built.
use Rattle.std.proofs.Common.{◌≡◌, ℕ, Bool, true, false, cond, not, List, [], ◌∷◌, ◌++◌, bytes_eq, All, Option, Some, None, Result, Ok, Err, refl, ap, subst}
use Rattle.std.specs.Prelude.{filter, is_some}
use Rattle.std.specs.declared.io.ErrorKind.{ErrorKind}
use Rattle.std.proofs.lemmas.List.Elements.{All-nil, All-cons, All-head, All-tail, All-push}
use Rattle.jwalk_model.specs.Paths.{Component, root, here, up, plain, components, last_of, all_but_last}
use Rattle.jwalk_model.specs.PathTexts.{IsName, AreSteps, AreProper}
use Rattle.jwalk_model.specs.Tree.{Place, Node, directory, file, link, Tree, same_place, is_within, is_directory, only_root, Refusal, not_found, already_exists, Spot, spot_in, spot_below, spot_of, place_of, renamed, with_child, add_at, add, with_denied, deny_at, deny, without_child, remove_at, remove}
use Rattle.jwalk_model.proofs.PathFacts.{components-proper}
use Rattle.jwalk_usage_laws.specs.Trees.{HasPlainNames, HasPlainNamesItself, KeepsPlainNames, BuiltTreesHavePlainNames}

-- a tree is one value
same_tree : (a b : Tree) (r : Result Tree Refusal) → r ≡ Ok a → r ≡ Ok b → a ≡ b
same_tree a b r is other = cc

-- ---- the name of a spot

last_of_steps : (cs : List Component) (name : List ℕ) → AreSteps cs → last_of cs ≡ Some (plain name) → IsName name
last_of_steps [] name h e = absurd cc
last_of_steps (c ∷ []) name h e =
    let same : c ≡ plain name = cc in
    (subst (λ d. AreSteps (d ∷ [])) same h).0
last_of_steps (c ∷ d ∷ cs) name h e = last_of_steps (d ∷ cs) name h.1 e

last_of_proper : (cs : List Component) (name : List ℕ) → AreProper cs → last_of cs ≡ Some (plain name) → IsName name
last_of_proper [] name h e = absurd cc
last_of_proper (c ∷ []) name h e =
    let same : c ≡ plain name = cc in
    (subst (λ d. AreProper (d ∷ [])) same h).0
last_of_proper (c ∷ d ∷ cs) name h e = last_of_steps (d ∷ cs) name h.1 e

named_if : (is : Bool) (s t : Spot) → cond is (Some s) None ≡ Some t → s.name ≡ t.name
named_if true s t e = let same : s ≡ t = cc in ap (λ u. u.name) same
named_if false s t e = absurd cc

named_in : (tree : Tree) (name : List ℕ) (holder : Result Place ErrorKind) (s : Spot) → spot_in tree name holder ≡ Some s → name ≡ s.name
named_in tree name (Ok holder) s e = named_if (is_directory (tree holder)) (record { holder = holder; name = name }) s e
named_in tree name (Err k) s e = absurd cc

named_below : (tree : Tree) (front : List Component) (last : Option Component) (s : Spot) → ((name : List ℕ) → last ≡ Some (plain name) → IsName name) → spot_below tree front last ≡ Some s → IsName s.name
named_below tree front None s named e = absurd cc
named_below tree front (Some root) s named e = absurd cc
named_below tree front (Some here) s named e = absurd cc
named_below tree front (Some up) s named e = absurd cc
named_below tree front (Some (plain name)) s named e = subst IsName (named_in tree name _ s e) (named name refl)

spot_named : (tree : Tree) (path : List ℕ) (s : Spot) → spot_of tree path ≡ Some s → IsName s.name
spot_named tree path s e =
    named_below tree (all_but_last (components path)) (last_of (components path)) s (λ name is. last_of_proper (components path) name (components-proper path) is) e

-- ---- the names of a node

-- Each name of what is at a place, if that is a directory, is plain.
abbrev AllPlain : Option Node → Type 0
AllPlain o = (names : List (List ℕ)) (denied : Option ErrorKind) → o ≡ Some (directory names denied) → All IsName names

plain_node : (node : Node) → HasPlainNamesItself node → AllPlain (Some node)
plain_node (directory names denied) h others k e = let same : names ≡ others = cc in subst (All IsName) same h
plain_node (file len) h names k e = absurd cc
plain_node (link target) h names k e = absurd cc

plain_nothing : AllPlain None
plain_nothing names k e = absurd cc

-- with other names that are plain if these are
plain_renamed : (f : List (List ℕ) → List (List ℕ)) → ((names : List (List ℕ)) → All IsName names → All IsName (f names)) → (o : Option Node) → AllPlain o → AllPlain (renamed f o)
plain_renamed f kept None h = plain_nothing
plain_renamed f kept (Some (directory names denied)) h = plain_node (directory (f names) denied) (kept names (h names denied refl))
plain_renamed f kept (Some (file len)) h = plain_node (file len) tt
plain_renamed f kept (Some (link target)) h = plain_node (link target) tt

of_both : (b : Bool) (x y : Option Node) → AllPlain x → AllPlain y → AllPlain (cond b x y)
of_both true x y h k = h
of_both false x y h k = k

filtered : (keep : List ℕ → Bool) (names : List (List ℕ)) → All IsName names → All IsName (filter keep names)
filtered keep [] h = All-nil IsName
filtered keep (name ∷ names) h =
    let others = filtered keep names (All-tail IsName name names h) in
    elim (keep name) as (λ b. All IsName (cond b (name ∷ filter keep names) (filter keep names))) [ true ↦ All-cons IsName name (filter keep names) (All-head IsName name names h) others | false ↦ others ]

-- ---- steps

adding : (node : Node) (path : List ℕ) → HasPlainNamesItself node → KeepsPlainNames (add node path)
adding node path own tree new h e = at_spot (spot_of tree path) refl e
  where
    with_one : (s : Spot) → IsName s.name → HasPlainNames (with_child node s tree)
    with_one s named place =
        of_both (same_place place (place_of s)) _ _ (plain_node node own)
        (of_both (same_place place s.holder) _ _ (plain_renamed (λ names. names ++ s.name ∷ []) (λ names all. All-push IsName names s.name all named) (tree place) (h place)) (h place))

    if_free : (taken : Bool) (s : Spot) → IsName s.name → cond taken (Err already_exists) (Ok (with_child node s tree)) ≡ Ok new → HasPlainNames new
    if_free true s named is = absurd cc
    if_free false s named is = subst HasPlainNames (same_tree (with_child node s tree) new (Ok (with_child node s tree)) refl is) (with_one s named)

    at_spot : (o : Option Spot) → spot_of tree path ≡ o → add_at tree node o ≡ Ok new → HasPlainNames new
    at_spot None found is = absurd cc
    at_spot (Some s) found is = if_free (is_some (tree (place_of s))) s (spot_named tree path s found) is

denying : (k : ErrorKind) (path : List ℕ) → KeepsPlainNames (deny k path)
denying k path tree new h e = at_spot (spot_of tree path) e
  where
    with_kind : (s : Spot) (names : List (List ℕ)) → All IsName names → HasPlainNames (λ place. cond (same_place place (place_of s)) (Some (directory names (Some k))) (tree place))
    with_kind s names all place = of_both (same_place place (place_of s)) _ _ (plain_node (directory names (Some k)) all) (h place)

    at_node : (s : Spot) (o : Option Node) → tree (place_of s) ≡ o → with_denied k s tree o ≡ Ok new → HasPlainNames new
    at_node s None found is = absurd cc
    at_node s (Some (directory names denied)) found is =
        let made : Tree = λ place. cond (same_place place (place_of s)) (Some (directory names (Some k))) (tree place) in
        subst HasPlainNames (same_tree made new (Ok made) refl is) (with_kind s names (h (place_of s) names denied found))
    at_node s (Some (file len)) found is = absurd cc
    at_node s (Some (link target)) found is = absurd cc

    at_spot : (o : Option Spot) → deny_at tree k o ≡ Ok new → HasPlainNames new
    at_spot None is = absurd cc
    at_spot (Some s) is = at_node s (tree (place_of s)) refl is

removing : (path : List ℕ) → KeepsPlainNames (remove path)
removing path tree new h e = at_spot (spot_of tree path) e
  where
    without_one : (s : Spot) → HasPlainNames (without_child s tree)
    without_one s place =
        of_both (is_within (place_of s) place) _ _ plain_nothing
        (of_both (same_place place s.holder) _ _ (plain_renamed (filter (λ name. not (bytes_eq name s.name))) (filtered (λ name. not (bytes_eq name s.name))) (tree place) (h place)) (h place))

    if_there : (there : Bool) (s : Spot) → cond there (Ok (without_child s tree)) (Err not_found) ≡ Ok new → HasPlainNames new
    if_there true s is = subst HasPlainNames (same_tree (without_child s tree) new (Ok (without_child s tree)) refl is) (without_one s)
    if_there false s is = absurd cc

    at_spot : (o : Option Spot) → remove_at tree o ≡ Ok new → HasPlainNames new
    at_spot None is = absurd cc
    at_spot (Some s) is = if_there (is_some (tree (place_of s))) s is

empty : HasPlainNames only_root
empty [] = plain_node (directory [] None) (All-nil IsName)
empty (n ∷ ns) = plain_nothing

pub built_trees_have_plain_names : BuiltTreesHavePlainNames
built_trees_have_plain_names = record { empty = empty; adding = adding; denying = denying; removing = removing }
