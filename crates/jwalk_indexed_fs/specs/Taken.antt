-- What is kept of a listing that is given on.
use Rattle.std.specs.Prelude.{◌≡◌, ◌&&◌, Bool, true, List, [], ◌∷◌, map, filter, is_some, Option, Some, IfSome, string_bytes}
use Rattle.jwalk_model.specs.FileSystem.{Listed, Functions}
use Rattle.jwalk_model.specs.declared.metadata.Moment.{Moment}
use Rattle.jwalk_indexed_fs.specs.Name.{Name}
use Rattle.jwalk_indexed_fs.specs.Listing.{bare, name_of, in_order}
use Rattle.jwalk_indexed_fs.specs.Records.{item_kept, list_kept}
use Rattle.jwalk_indexed_fs.specs.Stamp.{IsSettled}
use Rattle.jwalk_indexed_fs.specs.declared.records.Record.{Record}
use Rattle.jwalk_indexed_fs.specs.declared.stamp.Stamp.{Stamp}
use Rattle.jwalk_indexed_fs.specs.declared.taken.TypedName.{TypedName}

-- a name with its type
abbrev pub name_typed : {A : Type 0} → TypedName A → Name
name_typed n = record { name = string_bytes n.name; file_type = n.file_type }

-- the same as an item of a listing
abbrev pub item_typed : {A : Type 0} → TypedName A → Listed
item_typed n = item_kept (name_typed n)

-- whether an item is a name of which something is seen, and no error
abbrev pub is_seen : Listed → Bool
is_seen item = is_some (name_of item)

-- whether no item of a listing is an error
abbrev pub is_whole : List Listed → Bool
is_whole [] = true
is_whole (x ∷ xs) = is_seen x && is_whole xs

-- the items that are no errors, as their types alone
abbrev pub seen_items : List Listed → List Listed
seen_items items = map bare (filter is_seen items)

-- What is kept of a listing: each name that is no error, in order. A stamp is kept only of a listing without an error, and only one that had settled before the time.
pub record IsKeptOf (start : Moment) (items : List Listed) (r : Record) : Type 0 where
  pub names : list_kept r.names ≡ in_order (seen_items items)
  pub whole : (s : Stamp) → r.stamp ≡ Some s → is_whole items ≡ true
  pub settled : (s : Stamp) → r.stamp ≡ Some s → IsSettled start s
