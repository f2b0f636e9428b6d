-- The table of directories as a list of values: what its names refer to, what a look-up finds in it, and the tree that it is.
use Rattle.std.specs.Prelude.{◌≡◌, ◌≢◌, ℕ, zero, suc, ◌<◌, Bool, true, false, List, [], ◌∷◌, ◌++◌, map, filter, not, length, slice_index_or, slice_get, slice_set, take, MatchOption, ◌-◌, Option, Some, None, is_some, Result, Ok, Err, if◌then◌else◌, bytes_eq, option_and_then}
use Rattle.std.specs.Option.{option_map}
use Rattle.std.specs.Map.{lookup}
use Rattle.std.specs.declared.io.ErrorKind.{ErrorKind}
use Rattle.std.specs.declared.io.ErrorKind.TheVariants as kind
use Rattle.jwalk_model.specs.Paths.{Component, root, here, up, plain, components, last_of, all_but_last, name_of}
use Rattle.jwalk_model.specs.Tree.{Node, directory, file, link, Tree, link_limit}
use Rattle.jwalk_model.specs.FileSystem.{Listed}
use Rattle.jwalk_model.specs.declared.seen.Seen.TheVariants.{Whole}
use Rattle.jwalk_memory_fs.specs.Child.{Child, Dir, File, Link, metadata_of}
use Rattle.jwalk_memory_fs.specs.Hit.{Hit, on_dir, on_file, on_link, hit_seen, hit_of}
use Rattle.jwalk_memory_fs.specs.declared.hit.Hit.{Hit as CodeHit}
use Rattle.jwalk_memory_fs.specs.declared.build_error.BuildError.{BuildError}
use Rattle.jwalk_memory_fs.specs.declared.build_error.BuildError.TheVariants.{NotFound, AlreadyExists}

-- a directory: the index of the one that holds it, its children by name in order of creation, and the error kind of reading it, if it was denied
pub record Branch : Type 0 where
  pub parent : ℕ
  pub children : List (List ℕ × Child)
  pub denied : Option ErrorKind

-- the child of this name
abbrev pub child_named : List (List ℕ × Child) → List ℕ → Option Child
child_named children name = lookup (λ other. bytes_eq name other) children

-- the directory with a new child behind the others
abbrev pub with_child : List ℕ → Child → Branch → Branch
with_child name child b = record { parent = b.parent; children = b.children ++ (name, child) ∷ []; denied = b.denied }

-- the directory, denied
abbrev pub with_denied : ErrorKind → Branch → Branch
with_denied k b = record { parent = b.parent; children = b.children; denied = Some k }

-- the directory in another one
abbrev pub with_parent : ℕ → Branch → Branch
with_parent parent b = record { parent = parent; children = b.children; denied = b.denied }

-- the children except the one of this name
abbrev pub without : List ℕ → List (List ℕ × Child) → List (List ℕ × Child)
without name children = filter (λ e. not (bytes_eq e.0 name)) children

-- the directory without the child of this name
abbrev pub without_name : List ℕ → Branch → Branch
without_name name b = record { parent = b.parent; children = without name b.children; denied = b.denied }

-- a directory with no children
abbrev pub empty_branch : ℕ → Branch
empty_branch parent = record { parent = parent; children = []; denied = None }

-- the directory at an index of the table, and an empty one past the end
abbrev pub branch_at : List Branch → ℕ → Branch
branch_at table index = slice_index_or table index (empty_branch 0)

-- the table in which a directory has a new child behind the others
abbrev pub with_named : List Branch → ℕ → List ℕ → Child → List Branch
with_named table holder name child = slice_set table holder (with_child name child (branch_at table holder))

-- the table in which a directory is denied
abbrev pub with_denial : List Branch → ℕ → ErrorKind → List Branch
with_denial table index k = slice_set table index (with_denied k (branch_at table index))

-- the table in which a directory is in another one
abbrev pub with_parent_at : List Branch → ℕ → ℕ → List Branch
with_parent_at table index parent = slice_set table index (with_parent parent (branch_at table index))

-- the table in which a directory has no child of this name
abbrev pub without_named : List Branch → ℕ → List ℕ → List Branch
without_named table holder name = slice_set table holder (without_name name (branch_at table holder))

-- its children
abbrev pub children_at : List Branch → ℕ → List (List ℕ × Child)
children_at table index = (branch_at table index).children

-- the index of the directory that holds it
abbrev pub parent_at : List Branch → ℕ → ℕ
parent_at table index = (branch_at table index).parent

-- the kind that reading it fails with
abbrev pub denied_at : List Branch → ℕ → Option ErrorKind
denied_at table index = (branch_at table index).denied

-- the child of this name, in what is a directory
abbrev pub child_of : List Branch → Child → List ℕ → Option Child
child_of table (Dir index) name = child_named (children_at table index) name
child_of table (File len) name = None
child_of table (Link target) name = None

-- what is at the end of the names
abbrev pub at_end : List Branch → Child → List (List ℕ) → Option Child
at_end table child [] = Some child
at_end table child (name ∷ names) = option_and_then (λ next. at_end table next names) (child_of table child name)

-- the names of children, in order
abbrev pub names_of : List (List ℕ × Child) → List (List ℕ)
names_of children = map (λ e. e.0) children

-- a child as a listing gives it
abbrev pub listed_child : List ℕ × Child → Listed
listed_child e = Ok (record { name = e.0; seen = Ok (Whole (metadata_of e.1)) })

-- the children as a listing gives them
abbrev pub listing_of : List (List ℕ × Child) → List Listed
listing_of children = map listed_child children

-- each of these children is found by its name
abbrev pub AreFound : List (List ℕ × Child) → List (List ℕ × Child) → Type 0
AreFound children [] = Unit {0}
AreFound children (e ∷ es) = (child_named children e.0 ≡ Some e.1) × AreFound children es

-- the node that a child is
abbrev pub node_of : List Branch → Child → Node
node_of table (Dir index) = directory (names_of (children_at table index)) (denied_at table index)
node_of table (File len) = file len
node_of table (Link target) = link target

-- the tree that the table is, whose root comes first
abbrev pub tree_of_table : List Branch → Tree
tree_of_table table names = option_map (node_of table) (at_end table (Dir 0) names)

-- the outcome of a look-up by a child that was looked for in a directory
abbrev pub hit_or_missing : ℕ → Option Child → Result Hit ErrorKind
hit_or_missing holder None = Err kind.NotFound
hit_or_missing holder (Some child) = Ok (hit_of holder child)

-- one component worked off, where what the look-up had reached is no link
abbrev pub next_hit : List Branch → Hit → Component → Result Hit ErrorKind
next_hit table (on_file len) c = Err kind.Other
next_hit table (on_link holder target) c = Err kind.Other
next_hit table (on_dir index) root = Ok (on_dir 0)
next_hit table (on_dir index) here = Ok (on_dir index)
next_hit table (on_dir index) up = Ok (on_dir (parent_at table index))
next_hit table (on_dir index) (plain name) = hit_or_missing index (child_named (children_at table index) name)

abbrev pub go_on : {X : Type 0} → (X → Result Hit ErrorKind) → Result X ErrorKind → Result Hit ErrorKind
go_on next (Ok x) = next x
go_on next (Err k) = Err k

-- What a look-up reaches from a hit by the components that are left.
abbrev pub Way : Type 0
Way = Hit → List Component → Result Hit ErrorKind

-- A link is followed: its target is put in front of the components that are left. There is no way on where no more links may be followed.
abbrev pub through : Option Way → ℕ → List ℕ → List Component → Result Hit ErrorKind
through None holder target left = Err kind.Other
through (Some way) holder [] left = Err kind.NotFound
through (Some way) holder (c ∷ target) left = way (on_dir holder) (components (c ∷ target) ++ left)

module _ (table : List Branch) (follow : Bool) where
  -- the components worked off from the front
  abbrev pub along : Option Way → Way
  along links (on_link holder target) [] = if follow then through links holder target [] else Ok (on_link holder target)
  along links (on_link holder target) (c ∷ cs) = through links holder target (c ∷ cs)
  along links (on_dir index) [] = Ok (on_dir index)
  along links (on_dir index) (c ∷ cs) = go_on (λ next. along links next cs) (next_hit table (on_dir index) c)
  along links (on_file len) [] = Ok (on_file len)
  along links (on_file len) (c ∷ cs) = Err kind.Other

  -- the same, with n links that may be followed
  abbrev pub reached : ℕ → Way
  reached zero = along None
  reached (suc links) = along (Some (reached links))

-- what the components lead to from the root, in a whole look-up
unfoldable pub from_root : List Branch → Bool → List Component → Result Hit ErrorKind
from_root table follow cs = reached table follow link_limit (on_dir 0) cs

-- what is found at a path; nothing is at the empty one
abbrev pub found : List Branch → Bool → List ℕ → Result Hit ErrorKind
found table follow [] = Err kind.NotFound
found table follow (c ∷ cs) = from_root table follow (components (c ∷ cs))

-- It is no link.
abbrev pub IsSettled : Hit → Type 0
IsSettled (on_dir index) = Unit {0}
IsSettled (on_file len) = Unit {0}
IsSettled (on_link holder target) = ⊥

-- A link is followed before these components, or at the end if that is asked for.
abbrev pub IsFollowed : Bool → List Component → Type 0
IsFollowed follow [] = follow ≡ true
IsFollowed follow (c ∷ cs) = Unit {0}

-- What components lead to from a hit, and how many links may be followed from there: whatever is left behind them, the look-up goes on in the same way.
abbrev pub LeadsOn : List Branch → ℕ → Hit → List Component → Result (CodeHit × ℕ) ErrorKind → Type 0
LeadsOn table links from cs result =
    (follow : Bool) (left : List Component) → reached table follow links from (cs ++ left) ≡ go_on (λ r. reached table follow r.1 (hit_seen r.0) left) result

-- the same for a link that is followed
abbrev pub LinkLeadsOn : List Branch → ℕ → ℕ → List ℕ → Result (CodeHit × ℕ) ErrorKind → Type 0
LinkLeadsOn table links holder target result =
    (follow : Bool) (left : List Component) → IsFollowed follow left
    → reached table follow links (on_link holder target) left ≡ go_on (λ r. reached table follow r.1 (hit_seen r.0) left) result

-- the directory, if one was found
abbrev pub holder_of : Result Hit ErrorKind → Option ℕ
holder_of (Ok (on_dir index)) = Some index
holder_of (Ok (on_file len)) = None
holder_of (Ok (on_link holder target)) = None
holder_of (Err k) = None

-- the directory that the components lead to, and the name that comes behind them
abbrev pub named_below : List Branch → List Component → Option (List ℕ) → Option (ℕ × List ℕ)
named_below table front None = None
named_below table front (Some name) = option_map (λ holder. (holder, name)) (holder_of (from_root table true front))

-- the directory and the name in it that a path leads to
abbrev pub named_spot : List Branch → List Component → Option (ℕ × List ℕ)
named_spot table cs = named_below table (all_but_last cs) (name_of (last_of cs))

-- the name, if it is there and isn't taken
abbrev pub if_free : List Branch → Option (ℕ × List ℕ) → Result (ℕ × List ℕ) BuildError
if_free table None = Err NotFound
if_free table (Some s) = if is_some (child_named (children_at table s.0) s.1) then Err AlreadyExists else Ok s

-- the directory and the free name that a path leads to
abbrev pub free_spot : List Branch → List Component → Result (ℕ × List ℕ) BuildError
free_spot table cs = if_free table (named_spot table cs)

-- the name, if it refers to a child
abbrev pub if_taken : List Branch → Option (ℕ × List ℕ) → Option (ℕ × List ℕ)
if_taken table None = None
if_taken table (Some s) = if is_some (child_named (children_at table s.0) s.1) then Some s else None

-- the directory and the name in it of the child that a path leads to
abbrev pub taken_spot : List Branch → List Component → Option (ℕ × List ℕ)
taken_spot table cs = if_taken table (named_spot table cs)

-- the directory, if the child is one
abbrev pub index_of_child : Option Child → Option ℕ
index_of_child None = None
index_of_child (Some (Dir index)) = Some index
index_of_child (Some (File len)) = None
index_of_child (Some (Link target)) = None

-- the directory that a path leads to by its last name
abbrev pub directory_spot : List Branch → List Component → Option ℕ
directory_spot table cs = option_and_then (λ s. index_of_child (child_named (children_at table s.0) s.1)) (named_spot table cs)

-- The directory that was reached, or that holds the link, is in the table.
abbrev pub IsWithin : List Branch → Hit → Type 0
IsWithin table (on_dir index) = index < length table
IsWithin table (on_file len) = Unit {0}
IsWithin table (on_link holder target) = holder < length table

-- A directory that a name refers to is in the table and isn't the root, and only that name in that directory refers to it.
pub record IsHeld (table : List Branch) (holder : ℕ) (name : List ℕ) (index : ℕ) : Type 0 where
  pub within : index < length table
  pub below_root : 0 < index
  pub parent : parent_at table index ≡ holder
  pub only_name : (other : List ℕ) → child_named (children_at table holder) other ≡ Some (Dir index) → other ≡ name

-- The root is there and holds itself, and each directory's parent is there. Each directory that a name refers to is held by it alone.
pub record IsSound (table : List Branch) : Type 0 where
  pub rooted : 0 < length table
  pub own_parent : parent_at table 0 ≡ 0
  pub parents : (index : ℕ) → index < length table → parent_at table index < length table
  pub held : (holder : ℕ) (name : List ℕ) (index : ℕ) → child_named (children_at table holder) name ≡ Some (Dir index) → IsHeld table holder name index

-- No name refers to the directory.
pub record IsLoose (table : List Branch) (index : ℕ) : Type 0 where
  pub below_root : 0 < index
  pub within : index < length table
  pub unnamed : (holder : ℕ) (name : List ℕ) → child_named (children_at table holder) name ≢ Some (Dir index)

-- There is nothing in it, and it may be read.
abbrev pub IsEmptied : Branch → Type 0
IsEmptied b = (length b.children ≡ 0) × (is_some b.denied ≡ false)

-- The directory had one more child, the last, whose name is gone.
abbrev pub PopsLast : Branch → List ℕ → Child → Branch → Type 0
PopsLast old name child new = (old ≡ with_child name child new) × (child_named new.children name ≡ None)

-- The places that are free: no name refers to any of them, none is twice among them, and this many from the front are empty.
pub record AreSpare (table : List Branch) (free : List ℕ) (done : ℕ) : Type 0 where
  pub apart : (k l : ℕ) → k < l → l < length free → slice_index_or free k 0 ≢ slice_index_or free l 0
  pub loose : (k : ℕ) → k < length free → IsLoose table (slice_index_or free k 0)
  pub emptied : (k : ℕ) → k < done → IsEmptied (branch_at table (slice_index_or free k 0))

-- A new directory is the last child of its holder. It is at the last of the free places, which is free no more, or behind the others.
abbrev pub IsDirectoryAdded : List Branch → List ℕ → ℕ → List ℕ → List Branch → List ℕ → Type 0
IsDirectoryAdded old free holder name new left =
    MatchOption (slice_get free (length free - 1))
    ((new ≡ with_named old holder name (Dir (length old)) ++ empty_branch holder ∷ []) × (left ≡ free))
    (λ place. (new ≡ with_parent_at (with_named old holder name (Dir place)) place holder) × (left ≡ take (length free - 1) free))

-- A child is gone, and what it held is nowhere. The places that became free are among the free ones.
pub record IsRemoved (old : List Branch) (holder : ℕ) (name : List ℕ) (new : List Branch) (free : List ℕ) : Type 0 where
  pub sound : IsSound new
  pub spare : AreSpare new free (length free)
  pub tree : (place : List (List ℕ)) → tree_of_table new place ≡ tree_of_table (without_named old holder name) place
