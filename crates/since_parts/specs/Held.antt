-- What a snapshot holds.
use Rattle.std.specs.Prelude.{ℕ, ◌+◌, ◌*◌, ◌<◌, Bool, List, ◌++◌, length, map, flat_map}
use Rattle.std.specs.List.Sorted.{IsPermutation}
use Rattle.jwalk_changes.specs.AtPath.{whole}
use Rattle.jwalk_snapshot.specs.Text.{Content, Entry, Folder, entry_of, folder_of}
use Rattle.since_parts.specs.Facts.{Seen, compared}
use Rattle.since_parts.specs.declared.held.Held.{Held}
use Rattle.since_parts.specs.declared.held.Order.{Order}
use Rattle.since_parts.specs.declared.held.Rest.{Rest}

-- a name in a directory with this path: its path behind the root, and what is compared of it
abbrev pub name_seen : Bool → List ℕ → Entry → Seen
name_seen numbers folder e = record { path = whole folder e.name; facts = compared numbers e.file_type e.facts }

-- the names in a directory
abbrev pub names_seen : Bool → Folder → List Seen
names_seen numbers f = map (name_seen numbers f.path) f.names

-- the names in all directories
abbrev pub held_in : Bool → List Folder → List Seen
held_in numbers = flat_map (names_seen numbers)

-- These are all names in a snapshot, in some order.
abbrev pub HoldsAll : Bool → Content → List Seen → Type 0
HoldsAll numbers c all = IsPermutation (held_in numbers c.folders) all

-- the same of a name where it lies in memory
abbrev pub seen_in : Held → Seen
seen_in h = name_seen h.numbers h.folder.now (entry_of h.name.now)

-- the names that a directory still has
abbrev pub rest_in : Bool → Rest → List Seen
rest_in numbers r = map (name_seen numbers r.folder.now) (map entry_of r.names.now)

-- the names that are still to come
abbrev pub left_in : Order → List Seen
left_in o = flat_map (rest_in o.numbers) o.opened.items ++ held_in o.numbers (map folder_of o.blocks.now)

-- the names that were taken, and those that are still to come
abbrev pub all_in : Order → List Seen
all_in o = map seen_in o.all.items ++ left_in o

-- how many turns there are at most: one for each name, one to open each directory, and one to close it
abbrev pub turns_left : Order → ℕ
turns_left o = length (left_in o) + (2 * length o.blocks.now + length o.opened.items)

-- All names stay, and fewer turns are left.
pub record Passes (old new : Order) : Type 0 where
  pub same : IsPermutation (all_in old) (all_in new)
  pub falls : turns_left new < turns_left old
