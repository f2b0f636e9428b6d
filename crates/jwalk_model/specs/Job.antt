-- One reading of a directory, and the list of one item that a walk begins with.
use Rattle.std.specs.Prelude.{ℕ, ◌+◌, ◌==◌, nat_le, Bool, true, false, not, ◌&&◌, List, [], ◌∷◌, ◌++◌, flat_map, find, reverse, Option, Some, None, is_some, unwrap_or, Result, Ok, Err, if◌then◌else◌}
use Rattle.std.specs.Result.{result_and}
use Rattle.jwalk_model.specs.declared.file_type.FileType.{FileType}
use Rattle.jwalk_model.specs.declared.metadata.Identity.{Identity}
use Rattle.jwalk_model.specs.declared.metadata.Metadata.{Metadata}
use Rattle.jwalk_model.specs.declared.seen.Seen.{Seen}
use Rattle.jwalk_model.specs.FileType.{is_dir, is_symlink}
use Rattle.jwalk_model.specs.Metadata.{type_of, identity_of, same_file, is_elsewhere}
use Rattle.jwalk_model.specs.Seen.{type_seen, metadata_seen, identity_seen}
use Rattle.jwalk_model.specs.FileSystem.{Named, Listed, Functions, metadata_at}
use Rattle.jwalk_model.specs.Paths.{join, parent, file_name, same_place}
use Rattle.jwalk_model.specs.Error.{Failure, io, unnamed, looped}
use Rattle.jwalk_model.specs.Entry.{Entry, Item, children_at, is_hidden, path_of}
use Rattle.jwalk_model.specs.ReadDir.{Spec, Reading, Outcome, KeepsDepths, IsLawfulReading}
use Rattle.jwalk_model.specs.Options.{Options}
use Rattle.jwalk_model.specs.Sorting.{arranged}

-- what a callback makes of a list: of a directory at a depth or of the root, with its path, its state and the list
abbrev pub Processing : Type 0 → Type 0 → Type 0
Processing R E = Option ℕ → List ℕ → R → List (Item R E) → Reading R E

-- It keeps the depths of every list.
abbrev pub KeepsDepthsOf : {R E : Type 0} → Processing R E → Type 0
KeepsDepthsOf {R} {E} processed = (depth : Option ℕ) (path : List ℕ) (state : R) (list : List (Item R E)) → KeepsDepths depth list (processed depth path state list).list

-- What readings are made of: a fixed file system, the options, the callback's function, and the state of a new entry. The function is given the list of a directory at a depth, or the root's.
pub record Job (R E : Type 0) : Type 0 where
  pub fs : Functions
  pub options : Options
  pub processed : Processing R E
  pub default : E

-- one function for a value, another for an error
abbrev pub either : {X F Y : Type 0} → (X → Y) → (F → Y) → Result X F → Y
either f g (Ok x) = f x
either f g (Err e) = g e

-- whether what is found, of a type and an identity, is a directory that is entered from another one: not where it is known to be on another file system
abbrev pub is_entered : Option Identity → FileType → Option Identity → Bool
is_entered within type identity = is_dir type && not (is_elsewhere within identity)

-- which file is at a path, through its last link, where that is known
abbrev pub identity_at : Functions → List ℕ → Option Identity
identity_at fs path = either identity_of (λ _. None) (fs.meta_of path)

-- whether a directory above a link is what it leads to: the same file where both are known, and else the same place by the link's text
abbrev pub is_target : Option Identity → List ℕ → Option Identity → List ℕ → Bool
is_target (Some it) place (Some above) path = same_file it above
is_target _ place _ path = same_place place path

-- the nearest ancestor, which is the last of the list, that a link with this target leads to
abbrev pub looped_to : Functions → Option Identity → List ℕ → List (List ℕ) → Option (List ℕ)
looped_to fs target place ancestors = find (λ path. is_target target place (identity_at fs path) path) (reverse ancestors)

-- the name of an entry made from a path, and its parent: the whole path and nothing if the path has no file name
abbrev pub own_name : List ℕ → List ℕ
own_name path = unwrap_or (file_name path) path

abbrev pub own_parent : List ℕ → List ℕ
own_parent path = if is_some (file_name path) then unwrap_or (parent path) [] else []

-- the error of a link that leads back to a directory above it, if it does
abbrev pub unless_above : ℕ → List ℕ → Option (List ℕ) → Result (Unit {0}) Failure
unless_above depth path None = Ok tt
unless_above depth path (Some ancestor) = Err (looped depth ancestor path)

-- which file a link at a depth leads to, where a loop is told by it: not for a root, which has no directory above it but itself
abbrev pub target_at : ℕ → Metadata → Option Identity
target_at depth m = if depth == 0 then None else identity_of m

-- whether a link at a depth, with a parent and a path of its own and these ancestors, leads on to a target of which this is known. A directory is looked for among the ancestors, by which file it is or by the link's text below the parent.
abbrev pub leads_on : Functions → ℕ → List (List ℕ) → List ℕ → List ℕ → Metadata → Result (Unit {0}) Failure
leads_on fs depth ancestors above path m =
    if is_dir (type_of m)
    then either
    (λ target. unless_above depth path (looped_to fs (target_at depth m) (join above target) ancestors))
    (λ kind. Err (unnamed depth above kind))
    (fs.target_of path)
    else Ok tt

module _ {R E : Type 0} (job : Job R E) where
  -- the metadata that an entry keeps, where that is asked for
  abbrev pub kept : Option Metadata → Option Metadata
  kept seen = if job.options.keep_metadata then seen else None

  abbrev pub made_of : ℕ → List ℕ → Bool → List (List ℕ) → Metadata → Entry R E
  made_of depth path through ancestors m = record {
    depth = depth;
    file_name = own_name path;
    file_type = type_of m;
    seen = kept (Some m);
    client_state = job.default;
    parent_path = own_parent path;
    through_link = through;
    ancestors = ancestors;
    read_children = children_at (is_dir (type_of m)) path;
  }

  -- the entry of a path, or the error with its depth and path; it is asked for through a link or not
  abbrev pub made : ℕ → List ℕ → Bool → List (List ℕ) → Item R E
  made depth path through ancestors = either
      (λ m. Ok (made_of depth path through ancestors m))
      (λ kind. Err (io depth (Some path) kind))
      (metadata_at job.fs through path)

  -- the entry behind a link in a directory, of which this is known
  abbrev pub behind : Option Identity → Entry R E → Metadata → Entry R E
  behind within e m = record (made_of e.depth (path_of e) true e.ancestors m) { read_children = children_at (is_entered within (type_of m) (identity_of m)) (path_of e) }

  -- the entry that is reached through the link e, where that leads on to a target of which this is known
  abbrev pub reached : Option Identity → Entry R E → Metadata → Item R E
  reached within e m = result_and (leads_on job.fs e.depth e.ancestors e.parent_path (path_of e) m) (Ok (behind within e m))

  -- an entry of a directory after the link rule: where links are followed, a link is replaced by what it leads to
  abbrev pub followed : Option Identity → Entry R E → Item R E
  followed within e =
      if job.options.follow_links && is_symlink e.file_type
      then either (reached within e) (λ kind. Err (io e.depth (Some (path_of e)) kind)) (job.fs.meta_of (path_of e))
      else Ok e

  -- the ancestors of what is in a directory: none are kept where links aren't followed
  abbrev pub ancestors_in : Spec R → List (List ℕ)
  ancestors_in spec = if job.options.follow_links then spec.ancestors ++ spec.path ∷ [] else []

  -- which file a directory is, where the walk stays on one file system
  abbrev pub within : Spec R → Option Identity
  within spec = if job.options.same_file_system then identity_at job.fs spec.path else None

  -- the entry of a name in a directory
  abbrev pub entry_in : Spec R → List ℕ → Seen → Entry R E
  entry_in spec name seen = record {
    depth = spec.depth + 1;
    file_name = name;
    file_type = type_seen seen;
    seen = kept (metadata_seen seen);
    client_state = job.default;
    parent_path = spec.path;
    through_link = false;
    ancestors = ancestors_in spec;
    read_children = children_at (is_entered (within spec) (type_seen seen) (identity_seen seen)) (join spec.path name);
  }

  -- what a name gives of which this is seen: nothing where it is hidden and skipped
  abbrev pub shown : Spec R → List ℕ → Seen → List (Item R E)
  shown spec name seen =
      if job.options.skip_hidden && is_hidden name then [] else followed (within spec) (entry_in spec name seen) ∷ []

  -- what a name gives: where an error is seen, that error with the joined path
  abbrev pub named : Spec R → Named → List (Item R E)
  named spec n = either (shown spec n.name) (λ kind. Err (io (spec.depth + 1) (Some (join spec.path n.name)) kind) ∷ []) n.seen

  -- what one item of a listing gives
  abbrev pub item_of : Spec R → Listed → List (Item R E)
  item_of spec = either (named spec) (λ kind. Err (unnamed (spec.depth + 1) spec.path kind) ∷ [])

  -- the items of a listing after the hidden and the link rule, in the file system's order
  abbrev pub raw : Spec R → List Listed → List (Item R E)
  raw spec = flat_map (item_of spec)

  -- the same in the order that is asked for
  abbrev pub ordered : Spec R → List Listed → List (Item R E)
  ordered spec items = if job.options.sort then arranged (raw spec items) else raw spec items

  -- One reading. At the greatest depth nothing is read. A listing that fails is an error with the directory's depth and path.
  abbrev pub reading : Spec R → Outcome R E
  reading spec =
      if nat_le job.options.max_depth spec.depth
      then Ok (record { state = spec.state; list = [] })
      else either
      (λ items. Ok (job.processed (Some spec.depth) spec.path spec.state (ordered spec items)))
      (λ kind. Err (io spec.depth (Some spec.path) kind))
      (job.fs.list_of spec.path)

  -- a root that is still a link: a directory behind it is to be read, and the entry stays that of the link
  abbrev pub with_target : Entry R E → Item R E
  with_target e =
      if is_symlink e.file_type
      then either
      (λ m. Ok (if is_dir (type_of m) then record e { read_children = children_at true (path_of e) } else e))
      (λ kind. Err (io 0 (Some (path_of e)) kind))
      (job.fs.meta_of (path_of e))
      else Ok e

  -- the paths that the root's ancestors begin with
  abbrev root_ancestors : List ℕ → List (List ℕ)
  root_ancestors path = if job.options.follow_links then path ∷ [] else []

  -- the root's item before the callback: a root lies in no directory, and so is entered on any file system
  abbrev pub root_item : List ℕ → Item R E
  root_item path = either (λ e. either with_target Err (followed None e)) Err (made 0 path false (root_ancestors path))

  -- the path that the callback is given with the root's item: the root's parent, and nothing if no entry could be made
  abbrev pub root_parent : List ℕ → List ℕ
  root_parent path = either (λ e. e.parent_path) (λ _. []) (made 0 path false (root_ancestors path))

  -- the list that a walk begins with
  abbrev pub root_list : List ℕ → R → Reading R E
  root_list path state = job.processed None (root_parent path) state (root_item path ∷ [])

-- Whatever the file system returns, readings by a callback that keeps depths are lawful.
abbrev pub ReadingsAreLawful : Type 0 → Type 0 → Type 0
ReadingsAreLawful R E = (job : Job R E) → KeepsDepthsOf job.processed → (spec : Spec R) → IsLawfulReading job.options.max_depth spec (reading job spec)
