-- The lines of differences as JSON.
use Rattle.std.specs.Prelude.{ℕ, Bool, true, List, [], ◌∷◌, ◌++◌, codes, flat_map, map}
use Rattle.jwalk_changes.specs.declared.change.Change.TheVariants.{Added, Removed, Changed}
use Rattle.jwalk_changes.specs.declared.facts.Which.{Which}
use Rattle.serde_json.specs.Data.{Data, Members, array, no_members, object, put, string}
use Rattle.serde_json.specs.View.{items_of}
use Rattle.serde_json.specs.Written.{compact_text}
use Rattle.since_parts.specs.Choice.{words_if}
use Rattle.since_parts.specs.Differences.{Difference}
use Rattle.since_parts.specs.Line.{path_in}

-- the word for what a difference is
abbrev pub kind_of : Difference → List ℕ
kind_of (Added found) = codes "added"
kind_of (Removed old) = codes "removed"
kind_of (Changed old found which) = codes "changed"

-- the words for what differs
abbrev pub words_of : Which → List (List ℕ)
words_of w = words_if w.file_type (codes "type") ++ words_if w.len (codes "length") ++ words_if w.modified (codes "time") ++ words_if w.inode (codes "number")

-- the same as an array of texts
abbrev pub differs_of : Which → Data
differs_of w = array (items_of (map string (words_of w)))

-- the members of any difference: its kind, and the path that it is about
abbrev pub told_members : Difference → Members
told_members change = put (codes "path") (string (path_in change)) (put (codes "kind") (string (kind_of change)) no_members)

-- the members of a difference: of a change also what differs, if that is asked for
abbrev pub members_of : Bool → Difference → Members
members_of true (Changed old found which) = put (codes "differs") (differs_of which) (told_members (Changed old found which))
members_of _ change = told_members change

-- the line of a difference: an object, and a line feed
abbrev pub json_line : Bool → Difference → List ℕ
json_line long change = compact_text (object (members_of long change)) ++ 10 ∷ []

-- the lines of differences
abbrev pub json_lines : Bool → List Difference → List ℕ
json_lines long = flat_map (json_line long)
