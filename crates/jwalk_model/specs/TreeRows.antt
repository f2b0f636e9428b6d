-- A small tree, built, and what it returns as a file system.
use Rattle.std.specs.Prelude.{◌≡◌, ℕ, List, [], ◌∷◌, None, Result, Ok, Err, codes, refl}
use Rattle.std.specs.declared.io.ErrorKind.TheVariants as kind
use Rattle.jwalk_model.specs.declared.file_type.FileType.TheVariants as type
use Rattle.jwalk_model.specs.Metadata.{metadata}
use Rattle.jwalk_model.specs.FileSystem.{Functions}
use Rattle.jwalk_model.specs.Tree.{Tree, directory, file, link, only_root, add, deny, remove, Refusal, not_found, already_exists, functions_of}

-- a step of building
abbrev pub Step : Type 0
Step = Tree → Result Tree Refusal

-- a directory, a file of this length, a link to this target, at a path
abbrev pub d : List ℕ → Step
d path = add (directory [] None) path

abbrev pub f : ℕ → List ℕ → Step
f len path = add (file len) path

abbrev pub l : List ℕ → List ℕ → Step
l target path = add (link target) path

-- a directory that can't be read
abbrev pub x : List ℕ → Step
x path = deny kind.PermissionDenied path

-- the tree after the steps, where one that fails changes nothing
abbrev or_same : Tree → Result Tree Refusal → Tree
or_same tree (Ok new) = new
or_same tree (Err refusal) = tree

abbrev pub built : Tree → List Step → Tree
built tree [] = tree
built tree (step ∷ steps) = built (or_same tree (step tree)) steps

abbrev small : Tree
small = built only_root (d (codes "/r") ∷ f 7 (codes "/r/f") ∷ l (codes "f") (codes "/r/l") ∷ l (codes "r") (codes "/q") ∷ [])

abbrev small_functions : Functions
small_functions = functions_of small

metadata_through_links : small_functions.meta_of (codes "/q/l") ≡ Ok (metadata type.File 7)
metadata_through_links = refl

symlink_metadata_of_a_link : small_functions.link_meta_of (codes "/q/l") ≡ Ok (metadata type.Symlink 1)
symlink_metadata_of_a_link = refl

read_link_of_a_file : small_functions.target_of (codes "/r/f") ≡ Err kind.InvalidInput
read_link_of_a_file = refl

read_dir_of_a_file : small_functions.list_of (codes "/r/f") ≡ Err kind.InvalidInput
read_dir_of_a_file = refl

below_a_file : small_functions.meta_of (codes "/r/f/x") ≡ Err kind.Other
below_a_file = refl

up_after_a_link : small_functions.meta_of (codes "/q/..") ≡ Ok (metadata type.Dir 0)
up_after_a_link = refl

relative_path : small_functions.meta_of (codes "r") ≡ Ok (metadata type.Dir 0)
relative_path = refl

empty_path : small_functions.meta_of [] ≡ Err kind.NotFound
empty_path = refl

dot_of_a_file : small_functions.meta_of (codes "/r/f/.") ≡ Ok (metadata type.File 7)
dot_of_a_file = refl

dots_of_a_file : small_functions.meta_of (codes "/r/f/..") ≡ Err kind.Other
dots_of_a_file = refl

add_through_a_link : f 1 (codes "/q/f") small ≡ Err already_exists
add_through_a_link = refl

add_below_nothing : d (codes "/n/m") small ≡ Err not_found
add_below_nothing = refl

add_the_root : d (codes "/") small ≡ Err not_found
add_the_root = refl

deny_a_link : x (codes "/r/l") small ≡ Err not_found
deny_a_link = refl

removed : (functions_of (built small (remove (codes "/r/f") ∷ []))).link_meta_of (codes "/r/f") ≡ Err kind.NotFound
removed = refl

-- the target of a link to itself
abbrev circle : Tree
circle = built only_root (l (codes "a") (codes "/a") ∷ [])

too_many_links : (functions_of circle).meta_of (codes "/a") ≡ Err kind.Other
too_many_links = refl

-- two links that lead to each other
two_links_in_a_circle : (functions_of (built only_root (l (codes "b") (codes "/a") ∷ l (codes "a") (codes "/b") ∷ []))).meta_of (codes "/a") ≡ Err kind.Other
two_links_in_a_circle = refl

-- a directory with a file and a directory, a link `/q` to the second, and links to that link
abbrev linked : Tree
linked = built only_root
    (d (codes "/r") ∷ f 1 (codes "/r/f") ∷ d (codes "/r/s") ∷ l (codes "r/s") (codes "/q") ∷ l (codes "/q") (codes "/k") ∷ l (codes "r/s//") (codes "/n") ∷ [])

up_from_where_a_link_led : (functions_of linked).meta_of (codes "/q/../f") ≡ Ok (metadata type.File 1)
up_from_where_a_link_led = refl

link_to_a_link : (functions_of linked).meta_of (codes "/k/../f") ≡ Ok (metadata type.File 1)
link_to_a_link = refl

target_with_a_slash_at_its_end : (functions_of linked).meta_of (codes "/n") ≡ Ok (metadata type.Dir 0)
target_with_a_slash_at_its_end = refl

-- what is left once the directory that `/q` leads to is removed
abbrev broken : Functions
broken = functions_of (built linked (remove (codes "/r/s") ∷ []))

broken_link_leads_nowhere : broken.meta_of (codes "/q") ≡ Err kind.NotFound
broken_link_leads_nowhere = refl

broken_link_is_a_link : broken.link_meta_of (codes "/q") ≡ Ok (metadata type.Symlink 3)
broken_link_is_a_link = refl
