-- Small lists of items, contents first.
use Rattle.std.specs.Prelude.{◌≡◌, ℕ, false, List, [], ◌∷◌, codes, None, Ok, Err, refl}
use Rattle.std.specs.declared.io.ErrorKind.TheVariants.{PermissionDenied}
use Rattle.jwalk_model.specs.declared.file_type.FileType.TheVariants.{Dir}
use Rattle.jwalk_model.specs.Error.{io}
use Rattle.jwalk_model.specs.Entry.{Item}
use Rattle.jwalk_contents_first.specs.ContentsFirst.{contents_first}

abbrev Answer : Type 0
Answer = Item (Unit {0}) (Unit {0})

-- an entry at a depth, with its name
abbrev e : ℕ → List ℕ → Answer
e depth name = Ok (record {
  depth = depth;
  file_name = name;
  file_type = Dir;
  seen = None;
  client_state = tt;
  parent_path = [];
  through_link = false;
  ancestors = [];
  read_children = None;
})

-- an error at a depth
abbrev x : ℕ → Answer
x depth = Err (io depth None PermissionDenied)

nothing : contents_first {R = Unit {0}} {E = Unit {0}} [] ≡ []
nothing = refl

root_alone : contents_first (e 0 (codes "r") ∷ []) ≡ e 0 (codes "r") ∷ []
root_alone = refl

files_before_their_directory : contents_first (e 0 (codes "r") ∷ e 1 (codes "a") ∷ e 1 (codes "b") ∷ []) ≡ e 1 (codes "a") ∷ e 1 (codes "b") ∷ e 0 (codes "r") ∷ []
files_before_their_directory = refl

directory_between_files : contents_first (e 0 (codes "r") ∷ e 1 (codes "a") ∷ e 1 (codes "d") ∷ e 2 (codes "c") ∷ e 1 (codes "z") ∷ [])
    ≡ e 1 (codes "a") ∷ e 2 (codes "c") ∷ e 1 (codes "d") ∷ e 1 (codes "z") ∷ e 0 (codes "r") ∷ []
directory_between_files = refl

chain_of_directories : contents_first (e 0 (codes "r") ∷ e 1 (codes "d") ∷ e 2 (codes "e") ∷ e 3 (codes "f") ∷ []) ≡ e 3 (codes "f") ∷ e 2 (codes "e") ∷ e 1 (codes "d") ∷ e 0 (codes "r") ∷ []
chain_of_directories = refl

two_roots : contents_first (e 0 (codes "r") ∷ e 1 (codes "a") ∷ e 0 (codes "s") ∷ e 1 (codes "b") ∷ []) ≡ e 1 (codes "a") ∷ e 0 (codes "r") ∷ e 1 (codes "b") ∷ e 0 (codes "s") ∷ []
two_roots = refl

-- what is nearer to the root was left out
from_depth_two : contents_first (e 2 (codes "a") ∷ e 3 (codes "b") ∷ e 2 (codes "c") ∷ []) ≡ e 3 (codes "b") ∷ e 2 (codes "a") ∷ e 2 (codes "c") ∷ []
from_depth_two = refl

-- the entry at depth 1 was filtered out, and what it held is below the root
depths_with_a_gap : contents_first (e 0 (codes "r") ∷ e 2 (codes "a") ∷ e 1 (codes "b") ∷ []) ≡ e 2 (codes "a") ∷ e 1 (codes "b") ∷ e 0 (codes "r") ∷ []
depths_with_a_gap = refl

deeper_item_first : contents_first (e 2 (codes "a") ∷ e 1 (codes "b") ∷ e 0 (codes "r") ∷ []) ≡ e 2 (codes "a") ∷ e 1 (codes "b") ∷ e 0 (codes "r") ∷ []
deeper_item_first = refl

-- an error comes behind the directories that it isn't below, and before those that it is
error_in_a_directory : contents_first (e 0 (codes "r") ∷ e 1 (codes "d") ∷ e 2 (codes "a") ∷ x 2 ∷ e 1 (codes "b") ∷ []) ≡ e 2 (codes "a") ∷ x 2 ∷ e 1 (codes "d") ∷ e 1 (codes "b") ∷ e 0 (codes "r") ∷ []
error_in_a_directory = refl

error_beside_a_directory : contents_first (e 0 (codes "r") ∷ e 1 (codes "d") ∷ x 1 ∷ []) ≡ e 1 (codes "d") ∷ x 1 ∷ e 0 (codes "r") ∷ []
error_beside_a_directory = refl
