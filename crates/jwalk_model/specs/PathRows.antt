-- Path texts, row by row.
use Rattle.std.specs.Prelude.{◌≡◌, ℕ, true, false, List, [], ◌∷◌, Option, Some, None, codes, refl}
use Rattle.jwalk_model.specs.Paths.{Component, root, here, up, plain, components, file_name, parent, join, same_path, normalised, same_place}

-- the three results for a text
pub record Row (text : List ℕ) (cs : List Component) (name above : Option (List ℕ)) : Type 0 where
  pub has_components : components text ≡ cs
  pub has_file_name : file_name text ≡ name
  pub has_parent : parent text ≡ above

row_empty : Row [] [] None None
row_empty = record { has_components = refl; has_file_name = refl; has_parent = refl }

row_root : Row (codes "/") (root ∷ []) None None
row_root = record { has_components = refl; has_file_name = refl; has_parent = refl }

row_root_dot : Row (codes "/.") (root ∷ []) None None
row_root_dot = record { has_components = refl; has_file_name = refl; has_parent = refl }

row_dot : Row (codes ".") (here ∷ []) None (Some [])
row_dot = record { has_components = refl; has_file_name = refl; has_parent = refl }

row_dots : Row (codes "..") (up ∷ []) None (Some [])
row_dots = record { has_components = refl; has_file_name = refl; has_parent = refl }

row_dots_dots : Row (codes "../..") (up ∷ up ∷ []) None (Some (codes ".."))
row_dots_dots = record { has_components = refl; has_file_name = refl; has_parent = refl }

row_a : Row (codes "a") (plain (codes "a") ∷ []) (Some (codes "a")) (Some [])
row_a = record { has_components = refl; has_file_name = refl; has_parent = refl }

row_a_dot : Row (codes "a/.") (plain (codes "a") ∷ []) (Some (codes "a")) (Some [])
row_a_dot = record { has_components = refl; has_file_name = refl; has_parent = refl }

row_root_a : Row (codes "/a") (root ∷ plain (codes "a") ∷ []) (Some (codes "a")) (Some (codes "/"))
row_root_a = record { has_components = refl; has_file_name = refl; has_parent = refl }

row_slashes_a : Row (codes "//a") (root ∷ plain (codes "a") ∷ []) (Some (codes "a")) (Some (codes "/"))
row_slashes_a = record { has_components = refl; has_file_name = refl; has_parent = refl }

row_slashes_x_y : Row (codes "//x/y") (root ∷ plain (codes "x") ∷ plain (codes "y") ∷ []) (Some (codes "y")) (Some (codes "//x"))
row_slashes_x_y = record { has_components = refl; has_file_name = refl; has_parent = refl }

row_trailing_slash : Row (codes "a/b/") (plain (codes "a") ∷ plain (codes "b") ∷ []) (Some (codes "b")) (Some (codes "a"))
row_trailing_slash = record { has_components = refl; has_file_name = refl; has_parent = refl }

row_two_slashes : Row (codes "a//b") (plain (codes "a") ∷ plain (codes "b") ∷ []) (Some (codes "b")) (Some (codes "a"))
row_two_slashes = record { has_components = refl; has_file_name = refl; has_parent = refl }

row_dot_between : Row (codes "a/./b") (plain (codes "a") ∷ plain (codes "b") ∷ []) (Some (codes "b")) (Some (codes "a"))
row_dot_between = record { has_components = refl; has_file_name = refl; has_parent = refl }

row_dot_first : Row (codes "./a") (here ∷ plain (codes "a") ∷ []) (Some (codes "a")) (Some (codes "."))
row_dot_first = record { has_components = refl; has_file_name = refl; has_parent = refl }

row_dots_last : Row (codes "a/..") (plain (codes "a") ∷ up ∷ []) None (Some (codes "a"))
row_dots_last = record { has_components = refl; has_file_name = refl; has_parent = refl }

join_names : join (codes "a") (codes "b") ≡ codes "a/b"
join_names = refl

join_after_slash : join (codes "a/") (codes "b") ≡ codes "a/b"
join_after_slash = refl

join_empty : join [] (codes "b") ≡ codes "b"
join_empty = refl

join_root : join (codes "/") (codes "b") ≡ codes "/b"
join_root = refl

join_absolute : join (codes "a") (codes "/b") ≡ codes "/b"
join_absolute = refl

join_nothing : join (codes "a") [] ≡ codes "a/"
join_nothing = refl

same_by_slashes : same_path (codes "a//b/") (codes "a/b") ≡ true
same_by_slashes = refl

same_by_dot : same_path (codes "/a/./b") (codes "/a/b") ≡ true
same_by_dot = refl

first_dot_counts : same_path (codes "./a") (codes "a") ≡ false
first_dot_counts = refl

dots_are_kept : same_path (codes "a/../b") (codes "b") ≡ false
dots_are_kept = refl

empty_is_not_dot : same_path [] (codes ".") ≡ false
empty_is_not_dot = refl

up_two : same_place (codes "/r/a/b/c/../..") (codes "/r/a") ≡ true
up_two = refl

above_the_root : same_place (codes "/..") (codes "/") ≡ true
above_the_root = refl

first_dot_dropped : same_place (codes "./a") (codes "a") ≡ true
first_dot_dropped = refl

nothing_left : same_place (codes "a/..") [] ≡ true
nothing_left = refl

dots_left : same_place (codes "a/../../../a") (codes "../../a") ≡ true
dots_left = refl

dots_in_front_count : same_place (codes "../a") (codes "a") ≡ false
dots_in_front_count = refl

normalised_names : normalised (codes "/r//a/./b/../c/") ≡ plain (codes "c") ∷ plain (codes "a") ∷ plain (codes "r") ∷ root ∷ []
normalised_names = refl

normalised_dots : normalised (codes "./../a/../..") ≡ up ∷ up ∷ []
normalised_dots = refl
