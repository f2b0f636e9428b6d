-- Listings that say types alone, in the order of names.
use Rattle.std.specs.Prelude.{ℕ, Bool, true, false, List, [], ◌∷◌, map, Option, Some, None, Result, Ok, Err, if◌then◌else◌}
use Rattle.std.specs.Ordering.{nat_cmp, is_lt}
use Rattle.std.specs.Cmp.Lexicographic.{slice_cmp}
use Rattle.std.specs.declared.io.ErrorKind.{ErrorKind}
use Rattle.jwalk_model.specs.FileSystem.{Named, Listed, Functions}
use Rattle.jwalk_model.specs.Seen.{type_seen}
use Rattle.jwalk_model.specs.declared.seen.Seen.{Seen}
use Rattle.jwalk_model.specs.declared.seen.Seen.TheVariants.{TypeAlone}

-- what is seen of a name, as its type alone
abbrev pub bare_seen : Result Seen ErrorKind → Result Seen ErrorKind
bare_seen (Ok s) = Ok (TypeAlone (type_seen s))
bare_seen (Err e) = Err e

abbrev pub bare : Listed → Listed
bare (Ok n) = Ok (record n { seen = bare_seen n.seen })
bare (Err e) = Err e

-- the name by which an item is put in order, if something is seen of it
abbrev pub name_if : List ℕ → Result Seen ErrorKind → Option (List ℕ)
name_if name (Ok s) = Some name
name_if name (Err e) = None

abbrev pub name_of : Listed → Option (List ℕ)
name_of (Ok n) = name_if n.name n.seen
name_of (Err e) = None

-- whether one must come before the other: names by their bytes, and any name before an error
abbrev pub name_before : Option (List ℕ) → Option (List ℕ) → Bool
name_before (Some a) (Some b) = is_lt (slice_cmp nat_cmp a b)
name_before (Some a) None = true
name_before None b = false

abbrev pub listed_before : Listed → Listed → Bool
listed_before x y = name_before (name_of x) (name_of y)

-- x put before the first item that needn't come before it
abbrev pub put : Listed → List Listed → List Listed
put x [] = x ∷ []
put x (y ∷ ys) = if listed_before y x then y ∷ put x ys else x ∷ y ∷ ys

-- the items in the order of their names, and then the errors. What ties keeps its order.
abbrev pub in_order : List Listed → List Listed
in_order [] = []
in_order (x ∷ xs) = put x (in_order xs)

-- a listing that says types alone, in the order of names
abbrev pub typed_list : List Listed → List Listed
typed_list items = in_order (map bare items)

abbrev pub typed_answer : Result (List Listed) ErrorKind → Result (List Listed) ErrorKind
typed_answer (Ok items) = Ok (typed_list items)
typed_answer (Err e) = Err e

-- the file system whose listings are such, and which returns the same for all else
abbrev pub typed_functions : Functions → Functions
typed_functions fs = record fs { list_of = λ path. typed_answer (fs.list_of path) }
