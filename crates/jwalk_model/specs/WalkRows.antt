-- Walks over small trees, row by row: what they yield, a line each.
use Rattle.std.specs.Prelude.{◌≡◌, ℕ, zero, suc, length, true, false, List, [], ◌∷◌, ◌++◌, map, flat_map, Some, option_to_list, Ok, Err, codes, refl}
use Rattle.std.specs.Fmt.{digits}
use Rattle.std.specs.Option.{option_and_then}
use Rattle.std.specs.declared.io.ErrorKind.TheVariants as kind
use Rattle.jwalk_model.specs.declared.file_type.FileType.TheVariants as type
use Rattle.jwalk_model.specs.declared.seen.Seen.TheVariants.{TypeAlone}
use Rattle.jwalk_model.specs.Metadata.{metadata}
use Rattle.jwalk_model.specs.FileSystem.{Functions}
use Rattle.jwalk_model.specs.Tree.{only_root, functions_of}
use Rattle.jwalk_model.specs.TreeRows.{Step, d, f, l, x, built}
use Rattle.jwalk_model.specs.Error.{Failure, io}
use Rattle.jwalk_model.specs.Entry.{Children, Item}
use Rattle.jwalk_model.specs.Lines.{line_of}
use Rattle.jwalk_model.specs.Options.{Options, batches, defaults, with_sort, with_skip_hidden, with_follow_links, with_min_depth, with_max_depth, with_parallelism}
use Rattle.jwalk_model.specs.Counted.{Worth}
use Rattle.jwalk_model.specs.Listing.{below}
use Rattle.jwalk_model.specs.Walk.{whole_walk, stateless_walk}

-- the lines of what a walk from this root yields
abbrev walked : Functions → Options → List ℕ → List (List ℕ)
walked fs o root = map line_of (stateless_walk fs o root)

-- the file system of the tree that these steps build
abbrev pub tree_by : List Step → Functions
tree_by steps = functions_of (built only_root steps)

abbrev over : List Step → Options → List ℕ → List (List ℕ)
over steps = walked (tree_by steps)

abbrev pub sorted : Options
sorted = with_sort true defaults

abbrev following : Options
following = with_follow_links true defaults

-- the stored run of the program
first_run : over (d (codes "/r") ∷ f 3 (codes "/r/b") ∷ d (codes "/r/s") ∷ f 1 (codes "/r/s/x") ∷ f 2 (codes "/r/a") ∷ []) defaults (codes "/r")
    ≡ codes "0 d /r\n" ∷ codes "1 f /r/b\n" ∷ codes "1 d /r/s\n" ∷ codes "2 f /r/s/x\n" ∷ codes "1 f /r/a\n" ∷ []
unfolding whole_walk below digits
first_run = refl

abbrev pub tree_a : List Step
tree_a =
    d (codes "/t") ∷ f 1 (codes "/t/c.txt") ∷ f 2 (codes "/t/a.txt") ∷ d (codes "/t/group 2")
    ∷ f 3 (codes "/t/group 2/.hidden_file.txt") ∷ f 4 (codes "/t/group 2/e.txt") ∷ d (codes "/t/group 1")
    ∷ f 5 (codes "/t/group 1/d.txt") ∷ f 6 (codes "/t/b.txt") ∷ []

-- tree A with a group that can't be read
abbrev denied : List Step
denied = tree_a ++ x (codes "/t/group 2") ∷ []

by_name : over tree_a sorted (codes "/t")
    ≡ codes "0 d /t\n" ∷ codes "1 f /t/a.txt\n" ∷ codes "1 f /t/b.txt\n" ∷ codes "1 f /t/c.txt\n" ∷ codes "1 d /t/group 1\n"
    ∷ codes "2 f /t/group 1/d.txt\n" ∷ codes "1 d /t/group 2\n" ∷ codes "2 f /t/group 2/e.txt\n" ∷ []
unfolding whole_walk below digits
by_name = refl

in_order_of_creation : over tree_a defaults (codes "/t")
    ≡ codes "0 d /t\n" ∷ codes "1 f /t/c.txt\n" ∷ codes "1 f /t/a.txt\n" ∷ codes "1 d /t/group 2\n" ∷ codes "2 f /t/group 2/e.txt\n"
    ∷ codes "1 d /t/group 1\n" ∷ codes "2 f /t/group 1/d.txt\n" ∷ codes "1 f /t/b.txt\n" ∷ []
unfolding whole_walk below digits
in_order_of_creation = refl

hidden_shown : over tree_a (with_skip_hidden false sorted) (codes "/t")
    ≡ codes "0 d /t\n" ∷ codes "1 f /t/a.txt\n" ∷ codes "1 f /t/b.txt\n" ∷ codes "1 f /t/c.txt\n" ∷ codes "1 d /t/group 1\n"
    ∷ codes "2 f /t/group 1/d.txt\n" ∷ codes "1 d /t/group 2\n" ∷ codes "2 f /t/group 2/.hidden_file.txt\n" ∷ codes "2 f /t/group 2/e.txt\n" ∷ []
unfolding whole_walk below digits
hidden_shown = refl

missing_root : over tree_a defaults (codes "/none") ≡ codes "! 0 /none NotFound\n" ∷ []
unfolding whole_walk below digits
missing_root = refl

file_root : over tree_a defaults (codes "/t/a.txt") ≡ codes "0 f /t/a.txt\n" ∷ []
unfolding whole_walk below digits
file_root = refl

empty_directory : over (d (codes "/e") ∷ []) defaults (codes "/e") ≡ codes "0 d /e\n" ∷ []
unfolding whole_walk below digits
empty_directory = refl

root_alone : over tree_a (with_max_depth 0 defaults) (codes "/t") ≡ codes "0 d /t\n" ∷ []
unfolding whole_walk below digits
root_alone = refl

failed_directory : over denied sorted (codes "/t")
    ≡ codes "0 d /t\n" ∷ codes "1 f /t/a.txt\n" ∷ codes "1 f /t/b.txt\n" ∷ codes "1 f /t/c.txt\n" ∷ codes "1 d /t/group 1\n"
    ∷ codes "2 f /t/group 1/d.txt\n" ∷ codes "1 d /t/group 2 ! PermissionDenied\n" ∷ []
unfolding whole_walk below digits
failed_directory = refl

-- the errors that entries hold of their directories' readings
abbrev inner_error : Item Worth Worth → List Failure
inner_error (Ok e) = option_to_list (option_and_then (λ (c : Children Worth). c.error) e.read_children)
inner_error (Err failure) = []

error_of_a_failed_directory : flat_map inner_error (stateless_walk (tree_by denied) sorted (codes "/t"))
    ≡ io 1 (Some (codes "/t/group 2")) kind.PermissionDenied ∷ []
unfolding whole_walk below
error_of_a_failed_directory = refl

not_read_at_the_greatest_depth : over denied (with_max_depth 1 sorted) (codes "/t")
    ≡ codes "0 d /t\n" ∷ codes "1 f /t/a.txt\n" ∷ codes "1 f /t/b.txt\n" ∷ codes "1 f /t/c.txt\n" ∷ codes "1 d /t/group 1\n" ∷ codes "1 d /t/group 2\n" ∷ []
unfolding whole_walk below digits
not_read_at_the_greatest_depth = refl

from_depth_two : over denied (with_min_depth 2 sorted) (codes "/t") ≡ codes "2 f /t/group 1/d.txt\n" ∷ []
unfolding whole_walk below digits
from_depth_two = refl

-- The option that is set later wins. A walk that reads at most one directory is serial, unless its parallelism is set after that.
depths_both_five : with_max_depth 2 (with_min_depth 5 sorted) ≡ record sorted { min_depth = 5; max_depth = 5 }
depths_both_five = refl

depths_both_two : with_min_depth 5 (with_max_depth 2 sorted) ≡ record sorted { min_depth = 2; max_depth = 2 }
depths_both_two = refl

serial_at_depth_one : with_max_depth 1 (with_parallelism (batches 3) sorted) ≡ record sorted { max_depth = 1 }
serial_at_depth_one = refl

batches_at_depth_one : with_parallelism (batches 3) (with_max_depth 1 sorted) ≡ record sorted { max_depth = 1; parallelism = batches 3 }
batches_at_depth_one = refl

raised_greatest_depth : over tree_a (with_max_depth 2 (with_min_depth 5 sorted)) (codes "/t") ≡ []
unfolding whole_walk below digits
raised_greatest_depth = refl

lowered_least_depth : over tree_a (with_min_depth 5 (with_max_depth 2 sorted)) (codes "/t")
    ≡ codes "2 f /t/group 1/d.txt\n" ∷ codes "2 f /t/group 2/e.txt\n" ∷ []
unfolding whole_walk below digits
lowered_least_depth = refl

abbrev deep : List ℕ → List Step
deep target = d (codes "/r") ∷ d (codes "/r/a") ∷ d (codes "/r/a/b") ∷ d (codes "/r/a/b/c") ∷ l target (codes "/r/a/b/c/a-link") ∷ []

link_not_followed : over (deep (codes "/r/a")) defaults (codes "/r")
    ≡ codes "0 d /r\n" ∷ codes "1 d /r/a\n" ∷ codes "2 d /r/a/b\n" ∷ codes "3 d /r/a/b/c\n" ∷ codes "4 L /r/a/b/c/a-link\n" ∷ []
unfolding whole_walk below digits
link_not_followed = refl

loop_found : over (deep (codes "/r/a")) following (codes "/r")
    ≡ codes "0 d /r\n" ∷ codes "1 d /r/a\n" ∷ codes "2 d /r/a/b\n" ∷ codes "3 d /r/a/b/c\n" ∷ codes "! 4 /r/a/b/c/a-link loop /r/a\n" ∷ []
unfolding whole_walk below digits
loop_found = refl

loop_by_a_relative_target : over (deep (codes "../..")) following (codes "/r")
    ≡ codes "0 d /r\n" ∷ codes "1 d /r/a\n" ∷ codes "2 d /r/a/b\n" ∷ codes "3 d /r/a/b/c\n" ∷ codes "! 4 /r/a/b/c/a-link loop /r/a\n" ∷ []
unfolding whole_walk below digits
loop_by_a_relative_target = refl

abbrev circle : List Step
circle = d (codes "/r") ∷ l (codes "a") (codes "/r/a") ∷ []

circle_followed : over circle following (codes "/r") ≡ codes "0 d /r\n" ∷ codes "! 1 /r/a Other\n" ∷ []
unfolding whole_walk below digits
circle_followed = refl

circle_not_followed : over circle defaults (codes "/r") ≡ codes "0 d /r\n" ∷ codes "1 L /r/a\n" ∷ []
unfolding whole_walk below digits
circle_not_followed = refl

abbrev with_link : List Step
with_link = d (codes "/r") ∷ d (codes "/r/a") ∷ f 0 (codes "/r/a/zzz") ∷ l (codes "a") (codes "/r/a-link") ∷ []

root_link_entered : over with_link defaults (codes "/r/a-link") ≡ codes "0 L /r/a-link\n" ∷ codes "1 f /r/a-link/zzz\n" ∷ []
unfolding whole_walk below digits
root_link_entered = refl

root_link_followed : over with_link following (codes "/r/a-link") ≡ codes "0 D /r/a-link\n" ∷ codes "1 f /r/a-link/zzz\n" ∷ []
unfolding whole_walk below digits
root_link_followed = refl

link_followed : over with_link following (codes "/r")
    ≡ codes "0 d /r\n" ∷ codes "1 d /r/a\n" ∷ codes "2 f /r/a/zzz\n" ∷ codes "1 D /r/a-link\n" ∷ codes "2 f /r/a-link/zzz\n" ∷ []
unfolding whole_walk below digits
link_followed = refl

broken_root_link : over (l (codes "/nowhere") (codes "/x") ∷ []) defaults (codes "/x") ≡ codes "! 0 /x NotFound\n" ∷ []
unfolding whole_walk below digits
broken_root_link = refl

-- a broken root link is reported by its entry's own path, a missing root by the path that was given
broken_root_link_with_slash : over (l (codes "/nowhere") (codes "/x") ∷ []) defaults (codes "/x/") ≡ codes "! 0 /x NotFound\n" ∷ []
unfolding whole_walk below digits
broken_root_link_with_slash = refl

missing_root_with_slash : over [] defaults (codes "/x/") ≡ codes "! 0 /x/ NotFound\n" ∷ []
unfolding whole_walk below digits
missing_root_with_slash = refl

empty_root : over [] defaults [] ≡ codes "! 0  NotFound\n" ∷ []
unfolding whole_walk below digits
empty_root = refl

abbrev one_directory : List ℕ → List (List ℕ)
one_directory = over (d (codes "/r") ∷ []) (with_max_depth 1 defaults)

root_dot : one_directory (codes ".") ≡ codes "0 d .\n" ∷ codes "1 d ./r\n" ∷ []
unfolding whole_walk below digits
root_dot = refl

root_dots : one_directory (codes "..") ≡ codes "0 d ..\n" ∷ codes "1 d ../r\n" ∷ []
unfolding whole_walk below digits
root_dots = refl

root_dots_dots : one_directory (codes "../..") ≡ codes "0 d ../..\n" ∷ codes "1 d ../../r\n" ∷ []
unfolding whole_walk below digits
root_dots_dots = refl

root_slash : one_directory (codes "/") ≡ codes "0 d /\n" ∷ codes "1 d /r\n" ∷ []
unfolding whole_walk below digits
root_slash = refl

-- the parents of the entries that are yielded
abbrev parent_in : Item Worth Worth → List (List ℕ)
parent_in (Ok e) = e.parent_path ∷ []
parent_in (Err failure) = []

abbrev parents_of_one_directory : List ℕ → List (List ℕ)
parents_of_one_directory root = flat_map parent_in (stateless_walk (tree_by (d (codes "/r") ∷ [])) (with_max_depth 1 defaults) root)

root_dot_has_no_parent : parents_of_one_directory (codes ".") ≡ [] ∷ codes "." ∷ []
unfolding whole_walk below
root_dot_has_no_parent = refl

root_dots_has_no_parent : parents_of_one_directory (codes "..") ≡ [] ∷ codes ".." ∷ []
unfolding whole_walk below
root_dots_has_no_parent = refl

root_dots_dots_has_no_parent : parents_of_one_directory (codes "../..") ≡ [] ∷ codes "../.." ∷ []
unfolding whole_walk below
root_dots_dots_has_no_parent = refl

root_slash_has_no_parent : parents_of_one_directory (codes "/") ≡ [] ∷ codes "/" ∷ []
unfolding whole_walk below
root_slash_has_no_parent = refl

abbrev itself : List Step
itself = d (codes "/r") ∷ l (codes ".") (codes "/r/l") ∷ []

link_to_its_directory : over itself (with_max_depth 3 following) (codes "/r") ≡ codes "0 d /r\n" ∷ codes "! 1 /r/l loop /r\n" ∷ []
unfolding whole_walk below digits
link_to_its_directory = refl

link_to_its_directory_unbounded : over itself following (codes "/r") ≡ codes "0 d /r\n" ∷ codes "! 1 /r/l loop /r\n" ∷ []
unfolding whole_walk below digits
link_to_its_directory_unbounded = refl

-- text alone decides: the file system finds `/s` by the link `/r/k/l`, whose text leads to `/r`
no_loop_but_by_its_text : over (d (codes "/r") ∷ l (codes "/s/t") (codes "/r/k") ∷ d (codes "/s") ∷ d (codes "/s/t") ∷ l (codes "..") (codes "/s/t/l") ∷ []) following (codes "/r")
    ≡ codes "0 d /r\n" ∷ codes "1 D /r/k\n" ∷ codes "! 2 /r/k/l loop /r\n" ∷ []
unfolding whole_walk below digits
no_loop_but_by_its_text = refl

-- of two ancestors that a link leads to, the nearest is named: the root's text `/l/`, and the directory read, `/l`
nearest_ancestor_named : over (d (codes "/s") ∷ l (codes "/s") (codes "/l") ∷ l (codes "/l") (codes "/s/k") ∷ []) following (codes "/l/")
    ≡ codes "0 D /l\n" ∷ codes "! 1 /l/k loop /l\n" ∷ []
unfolding whole_walk below digits
nearest_ancestor_named = refl

-- the ancestors of the entries that are yielded
abbrev ancestors_of : Item Worth Worth → List (List (List ℕ))
ancestors_of (Ok e) = e.ancestors ∷ []
ancestors_of (Err failure) = []

abbrev ancestors_in_small : Options → List (List (List ℕ))
ancestors_in_small o = flat_map ancestors_of (stateless_walk (tree_by (d (codes "/r") ∷ f 1 (codes "/r/b") ∷ [])) o (codes "/r"))

root_stands_twice : ancestors_in_small following ≡ (codes "/r" ∷ []) ∷ (codes "/r" ∷ codes "/r" ∷ []) ∷ []
unfolding whole_walk below
root_stands_twice = refl

no_ancestors_kept : ancestors_in_small defaults ≡ [] ∷ [] ∷ []
unfolding whole_walk below
no_ancestors_kept = refl

-- what is below a followed directory, and a link to a file, under a root that ends in a dot
dot_root_followed : over (d (codes "/r") ∷ f 1 (codes "/r/x") ∷ l (codes "x") (codes "/r/l") ∷ []) following (codes "/r/.")
    ≡ codes "0 d /r\n" ∷ codes "1 f /r/./x\n" ∷ codes "1 F /r/l\n" ∷ []
unfolding whole_walk below digits
dot_root_followed = refl

-- a listing with a type that failed, an item that failed, and two files
abbrev faulty : Functions
faulty = record {
  list_of = λ path. Ok (
      Ok (record { name = codes ".x"; seen = Err kind.PermissionDenied })
      ∷ Err kind.InvalidData
      ∷ Ok (record { name = codes "b"; seen = Ok (TypeAlone type.File) })
      ∷ Ok (record { name = codes "a"; seen = Ok (TypeAlone type.File) })
      ∷ []);
  meta_of = λ path. Err kind.NotFound;
  link_meta_of = λ path. Ok (metadata type.Dir 0);
  target_of = λ path. Err kind.NotFound;
}

errors_last : walked faulty sorted (codes "/d")
    ≡ codes "0 d /d\n" ∷ codes "1 f /d/a\n" ∷ codes "1 f /d/b\n" ∷ codes "! 1 /d/.x PermissionDenied\n" ∷ codes "! 1 - InvalidData\n" ∷ []
unfolding whole_walk below digits
errors_last = refl

errors_at_any_depth : walked faulty (with_max_depth 5 (with_min_depth 5 sorted)) (codes "/d")
    ≡ codes "! 1 /d/.x PermissionDenied\n" ∷ codes "! 1 - InvalidData\n" ∷ []
unfolding whole_walk below digits
errors_at_any_depth = refl

-- two directories with a link from each to the other
abbrev to_each_other : List Step
to_each_other = d (codes "/r") ∷ d (codes "/r/a") ∷ l (codes "../b") (codes "/r/a/l") ∷ d (codes "/r/b") ∷ l (codes "../a") (codes "/r/b/m") ∷ []

mutual_links_not_told : over to_each_other (with_max_depth 4 following) (codes "/r")
    ≡ codes "0 d /r\n" ∷ codes "1 d /r/a\n" ∷ codes "2 D /r/a/l\n" ∷ codes "3 D /r/a/l/m\n" ∷ codes "4 D /r/a/l/m/l\n"
    ∷ codes "1 d /r/b\n" ∷ codes "2 D /r/b/m\n" ∷ codes "3 D /r/b/m/l\n" ∷ codes "4 D /r/b/m/l/m\n" ∷ []
unfolding whole_walk below digits
mutual_links_not_told = refl

abbrev repeated : ℕ → List ℕ
repeated zero = codes "/r/b"
repeated (suc n) = repeated n ++ codes "/m/l"

abbrev last_line : List (List ℕ) → List ℕ
last_line [] = []
last_line (line ∷ []) = line
last_line (line ∷ next ∷ lines) = last_line (next ∷ lines)

-- one look-up follows 40 links: below each of the two directories 40 entries, and one error whose path has 41 links
mutual_links_unbounded : length (over to_each_other following (codes "/r")) ≡ 85
unfolding whole_walk below digits
mutual_links_unbounded = refl

links_past_the_limit : last_line (over to_each_other following (codes "/r")) ≡ codes "! 42 " ++ repeated 20 ++ codes "/m Other\n"
unfolding whole_walk below digits
links_past_the_limit = refl
