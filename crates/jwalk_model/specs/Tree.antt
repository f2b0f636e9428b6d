-- A tree in memory: what is in it, what a look-up finds, and what building changes.
use Rattle.std.specs.Prelude.{ℕ, zero, suc, Bool, true, false, ◌&&◌, List, [], ◌∷◌, ◌++◌, map, filter, length, not, Option, Some, None, is_some, Result, Ok, Err, if◌then◌else◌, bytes_eq}
use Rattle.std.specs.declared.io.ErrorKind.{ErrorKind}
use Rattle.std.specs.declared.io.ErrorKind.TheVariants as kind
use Rattle.jwalk_model.specs.declared.file_type.FileType.TheVariants as type
use Rattle.jwalk_model.specs.declared.metadata.Metadata.{Metadata}
use Rattle.jwalk_model.specs.declared.seen.Seen.{Seen}
use Rattle.jwalk_model.specs.declared.seen.Seen.TheVariants.{TypeAlone, Whole}
use Rattle.jwalk_model.specs.Metadata.{metadata}
use Rattle.jwalk_model.specs.FileSystem.{Listed, Functions}
use Rattle.jwalk_model.specs.Paths.{Component, root, here, up, plain, components, last_of, all_but_last}

-- a place in the tree: the names on the way to it from the root
abbrev pub Place : Type 0
Place = List (List ℕ)

-- A directory has its children's names in order of creation, and an error kind if it was denied. A file has its length, a link its target.
pub data Node : Type 0 where
  directory : List (List ℕ) → Option ErrorKind → Node
  file : ℕ → Node
  link : List ℕ → Node

-- what is at each place
abbrev pub Tree : Type 0
Tree = Place → Option Node

-- how many links one look-up may follow
abbrev pub link_limit : ℕ
link_limit = 40

-- the directory that holds a place; the root holds itself
abbrev pub above : Place → Place
above [] = []
above (n ∷ []) = []
above (n ∷ m ∷ ns) = n ∷ above (m ∷ ns)

-- the place of a child
abbrev pub child : Place → List ℕ → Place
child place name = place ++ name ∷ []

abbrev pub same_place : Place → Place → Bool
same_place [] [] = true
same_place (n ∷ ns) (m ∷ ms) = bytes_eq n m && same_place ns ms
same_place _ _ = false

-- whether a place is another one or below it
abbrev pub is_within : Place → Place → Bool
is_within [] ms = true
is_within (n ∷ ns) (m ∷ ms) = bytes_eq n m && is_within ns ms
is_within (n ∷ ns) [] = false

abbrev pub is_directory : Option Node → Bool
is_directory None = false
is_directory (Some (directory names denied)) = true
is_directory (Some (file len)) = false
is_directory (Some (link target)) = false

-- What is found at a place by the components that are left.
abbrev pub LookUp : Type 0
LookUp = Place → List Component → Result Place ErrorKind

-- A link in a directory is followed: its target is put in front of the components that are left. No look-up goes on where no more links may be followed.
abbrev pub through_link : Option LookUp → Place → List ℕ → List Component → Result Place ErrorKind
through_link None holder target left = Err kind.Other
through_link (Some look_on) holder [] left = Err kind.NotFound
through_link (Some look_on) holder (c ∷ target) left = look_on holder (components (c ∷ target) ++ left)

-- A child was looked for: links are followed, and `go` works off the components that are left from any other.
abbrev pub to_child : Bool → Option LookUp → (Place → Result Place ErrorKind) → Place → List ℕ → List Component → Option Node → Result Place ErrorKind
to_child follow links go holder name left None = Err kind.NotFound
to_child follow links go holder name left (Some (directory names denied)) = go (child holder name)
to_child follow links go holder name left (Some (file len)) = go (child holder name)
to_child follow links go holder name [] (Some (link target)) = if follow then through_link links holder target [] else go (child holder name)
to_child follow links go holder name (c ∷ left) (Some (link target)) = through_link links holder target (c ∷ left)

module _ (tree : Tree) (follow : Bool) where
  -- one component worked off from a directory
  abbrev pub step : Option LookUp → (Place → Result Place ErrorKind) → Place → Component → List Component → Result Place ErrorKind
  step links go place root left = go []
  step links go place here left = go place
  step links go place up left = go (above place)
  step links go place (plain name) left = to_child follow links go place name left (tree (child place name))

  -- the components worked off from the front; one that comes at something other than a directory can't be
  abbrev pub along : Option LookUp → LookUp
  along links place [] = Ok place
  along links place (c ∷ left) = if is_directory (tree place) then step links (λ p. along links p left) place c left else Err kind.Other

  -- the same, with n links that may be followed
  abbrev pub looked_up : ℕ → LookUp
  looked_up zero = along None
  looked_up (suc links) = along (Some (looked_up links))

-- The place that a path leads to. If the last component is a link, it is followed if that is asked for.
abbrev pub look_up : Tree → Bool → List ℕ → Result Place ErrorKind
look_up tree follow [] = Err kind.NotFound
look_up tree follow (c ∷ cs) = looked_up tree follow link_limit [] (components (c ∷ cs))

-- type and length of a node: a directory has length 0, a link as many bytes as its target
abbrev pub seen_of : Node → Metadata
seen_of (directory names denied) = metadata type.Dir 0
seen_of (file len) = metadata type.File len
seen_of (link target) = metadata type.Symlink (length target)

-- a node as a listing has it
abbrev pub seen_at : Option Node → Seen
seen_at None = TypeAlone type.Other
seen_at (Some node) = Whole (seen_of node)

-- a directory's children with their own metadata, unless it was denied
abbrev pub listing_at : Tree → Place → Option Node → Result (List Listed) ErrorKind
listing_at tree place (Some (directory names None)) = Ok (map (λ name. Ok (record { name = name; seen = Ok (seen_at (tree (child place name))) })) names)
listing_at tree place (Some (directory names (Some denied))) = Err denied
listing_at tree place (Some (file len)) = Err kind.InvalidInput
listing_at tree place (Some (link target)) = Err kind.InvalidInput
listing_at tree place None = Err kind.NotFound

-- what is known of a node, if there is one
abbrev pub node_metadata : Option Node → Result Metadata ErrorKind
node_metadata None = Err kind.NotFound
node_metadata (Some node) = Ok (seen_of node)

-- the target of a link
abbrev pub target_at : Option Node → Result (List ℕ) ErrorKind
target_at None = Err kind.NotFound
target_at (Some (directory names denied)) = Err kind.InvalidInput
target_at (Some (file len)) = Err kind.InvalidInput
target_at (Some (link target)) = Ok target

-- what is at the place that was found
abbrev pub at_found : {X : Type 0} → (Place → Result X ErrorKind) → Result Place ErrorKind → Result X ErrorKind
at_found f (Ok place) = f place
at_found f (Err k) = Err k

-- the tree as a file system
abbrev pub functions_of : Tree → Functions
functions_of tree = record {
  list_of = λ path. at_found (λ place. listing_at tree place (tree place)) (look_up tree true path);
  meta_of = λ path. at_found (λ place. node_metadata (tree place)) (look_up tree true path);
  link_meta_of = λ path. at_found (λ place. node_metadata (tree place)) (look_up tree false path);
  target_of = λ path. at_found (λ place. target_at (tree place)) (look_up tree false path);
}

-- the tree with nothing below its root
abbrev pub only_root : Tree
only_root [] = Some (directory [] None)
only_root (n ∷ ns) = None

-- why a tree can't be built on as asked
pub data Refusal : Type 0 where
  not_found : Refusal
  already_exists : Refusal

-- a name in a directory of the tree
pub record Spot : Type 0 where
  pub holder : Place
  pub name : List ℕ

abbrev pub spot_in : Tree → List ℕ → Result Place ErrorKind → Option Spot
spot_in tree name (Ok holder) = if is_directory (tree holder) then Some (record { holder = holder; name = name }) else None
spot_in tree name (Err k) = None

abbrev pub spot_below : Tree → List Component → Option Component → Option Spot
spot_below tree front None = None
spot_below tree front (Some root) = None
spot_below tree front (Some here) = None
spot_below tree front (Some up) = None
spot_below tree front (Some (plain name)) = spot_in tree name (looked_up tree true link_limit [] front)

-- Where a path that is built on leads. Its last component must be a plain name. The ones before it must lead to a directory, from the root and with all links followed.
abbrev pub spot_of : Tree → List ℕ → Option Spot
spot_of tree path = spot_below tree (all_but_last (components path)) (last_of (components path))

abbrev pub place_of : Spot → Place
place_of s = child s.holder s.name

-- a directory with other names of children, in a tree that is otherwise the same
abbrev pub renamed : (List (List ℕ) → List (List ℕ)) → Option Node → Option Node
renamed f (Some (directory names denied)) = Some (directory (f names) denied)
renamed f (Some (file len)) = Some (file len)
renamed f (Some (link target)) = Some (link target)
renamed f None = None

-- the tree with a new child, which comes last in its directory
abbrev pub with_child : Node → Spot → Tree → Tree
with_child node s tree place =
    if same_place place (place_of s) then Some node
    else if same_place place s.holder then renamed (λ names. names ++ s.name ∷ []) (tree place)
    else tree place

abbrev pub add_at : Tree → Node → Option Spot → Result Tree Refusal
add_at tree node None = Err not_found
add_at tree node (Some s) = if is_some (tree (place_of s)) then Err already_exists else Ok (with_child node s tree)

-- `add_dir`, `add_file` and `add_link`: the tree with this new node at the path
abbrev pub add : Node → List ℕ → Tree → Result Tree Refusal
add node path tree = add_at tree node (spot_of tree path)

-- the directory denied, in a tree that is otherwise the same
abbrev pub with_denied : ErrorKind → Spot → Tree → Option Node → Result Tree Refusal
with_denied k s tree (Some (directory names denied)) = Ok (λ place. if same_place place (place_of s) then Some (directory names (Some k)) else tree place)
with_denied k s tree (Some (file len)) = Err not_found
with_denied k s tree (Some (link target)) = Err not_found
with_denied k s tree None = Err not_found

abbrev pub deny_at : Tree → ErrorKind → Option Spot → Result Tree Refusal
deny_at tree k None = Err not_found
deny_at tree k (Some s) = with_denied k s tree (tree (place_of s))

-- `deny`: reading the directory at the path fails with this kind
abbrev pub deny : ErrorKind → List ℕ → Tree → Result Tree Refusal
deny k path tree = deny_at tree k (spot_of tree path)

-- the tree without a child and all that it holds
abbrev pub without_child : Spot → Tree → Tree
without_child s tree place =
    if is_within (place_of s) place then None
    else if same_place place s.holder then renamed (filter (λ name. not (bytes_eq name s.name))) (tree place)
    else tree place

abbrev pub remove_at : Tree → Option Spot → Result Tree Refusal
remove_at tree None = Err not_found
remove_at tree (Some s) = if is_some (tree (place_of s)) then Ok (without_child s tree) else Err not_found

-- `remove`: the tree without what is at the path
abbrev pub remove : List ℕ → Tree → Result Tree Refusal
remove path tree = remove_at tree (spot_of tree path)
