-- What the callback makes of a small list, and a walk with it over a small tree, row by row.
use Rattle.std.specs.Prelude.{◌≡◌, ℕ, Bool, true, false, nat_lt, length, List, [], ◌∷◌, map, Some, None, Ok, Err, codes, refl}
use Rattle.std.specs.Cmp.{IsStrictWeakOrder}
use Rattle.std.specs.declared.cmp.Ordering.{Ordering}
use Rattle.std.specs.Fmt.{digits}
use Rattle.std.specs.declared.io.ErrorKind.TheVariants as kind
use Rattle.jwalk_model.specs.declared.file_type.FileType.{FileType}
use Rattle.jwalk_model.specs.declared.file_type.FileType.TheVariants.{Dir, File}
use Rattle.jwalk_model.specs.Paths.{join}
use Rattle.jwalk_model.specs.Error.{io}
use Rattle.jwalk_model.specs.Entry.{Entry, Item, children_at}
use Rattle.jwalk_model.specs.ReadDir.{Reading}
use Rattle.jwalk_model.specs.Job.{Processing}
use Rattle.jwalk_model.specs.Counted.{Worth}
use Rattle.jwalk_model.specs.Listing.{below}
use Rattle.jwalk_model.specs.Lines.{line_of}
use Rattle.jwalk_model.specs.TreeRows.{d, f}
use Rattle.jwalk_model.specs.Walk.{whole_walk}
use Rattle.jwalk_model.specs.WalkRows.{tree_by, sorted}
use Rattle.jwalk_job.specs.Entry.{entry as value}
use Rattle.jwalk_job.specs.Given.{counted_entry}
use Rattle.jwalk_job.specs.declared.dir_entry.DirEntry.{DirEntry}
use Rattle.jwalk_sort_by.specs.SortBy.{sorts, sorting, IsBy, SortsAs}

-- states that say nothing
abbrev Nothing : Type 0
Nothing = Unit {0}

-- an entry of `/r`, with a directory to be read below it or without one
abbrev entry : List ℕ → FileType → Bool → Item Nothing Nothing
entry name type entered = Ok (record {
  depth = 1;
  file_name = name;
  file_type = type;
  seen = None;
  client_state = tt;
  parent_path = codes "/r";
  through_link = false;
  ancestors = [];
  read_children = children_at entered (join (codes "/r") name);
})

abbrev fault : Item Nothing Nothing
fault = Err (io 1 None kind.Other)

-- an error, a file and a directory of one name, and another directory
abbrev items : List (Item Nothing Nothing)
items = fault ∷ entry (codes "target") File false ∷ entry (codes "target") Dir true ∷ entry (codes "src") Dir true ∷ []

-- a list that the callback leaves
abbrev left : List (Item Nothing Nothing) → Reading Nothing Nothing
left list = record { state = tt; list = list }

-- whether a name is shorter
abbrev shorter : {R E : Type 0} → Entry R E → Entry R E → Bool
shorter x y = nat_lt (length x.file_name) (length y.file_name)

-- the error behind the entries
shorter_first : sorts shorter (Some 0) (codes "/r") tt items
    ≡ left (entry (codes "src") Dir true ∷ entry (codes "target") File false ∷ entry (codes "target") Dir true ∷ fault ∷ [])
shorter_first = refl

-- what ties keeps its order
longer_first : sorts (λ x y. shorter y x) (Some 0) (codes "/r") tt items
    ≡ left (entry (codes "target") File false ∷ entry (codes "target") Dir true ∷ entry (codes "src") Dir true ∷ fault ∷ [])
longer_first = refl

errors_keep_their_order : sorts shorter (Some 0) (codes "/r") tt (fault ∷ Err (io 1 None kind.NotFound) ∷ []) ≡ left (fault ∷ Err (io 1 None kind.NotFound) ∷ [])
errors_keep_their_order = refl

-- the list that a walk begins with
root_stays : sorts shorter None (codes "/") tt items ≡ left items
root_stays = refl

-- the lines of a walk from a root over a tree, by name
abbrev walk_with : Processing Nothing Nothing → List ℕ → List (List ℕ)
walk_with processed root = map line_of (whole_walk (record {
  fs = tree_by (d (codes "/r") ∷ d (codes "/r/target") ∷ f 1 (codes "/r/target/o") ∷ d (codes "/r/src") ∷ f 1 (codes "/r/src/target") ∷ []);
  options = sorted;
  processed = processed;
  default = tt;
}) root tt)

walk_that_sorts : walk_with (sorts (λ x y. shorter y x)) (codes "/r")
    ≡ codes "0 d /r\n" ∷ codes "1 d /r/target\n" ∷ codes "2 f /r/target/o\n" ∷ codes "1 d /r/src\n" ∷ codes "2 f /r/src/target\n" ∷ []
unfolding whole_walk below digits
walk_that_sorts = refl

-- One that sorts by an order makes what `sorting` gives.
sorting_is_made : {C A R E : Type 0} (gives : DirEntry C A R E → DirEntry C A R E → Ordering → Type 0) (less : Entry Worth Worth → Entry Worth Worth → Bool) → IsStrictWeakOrder less
    → IsBy gives (λ x y. less (counted_entry (sorting {R = R} {E = E} less) (value x)) (counted_entry (sorting {R = R} {E = E} less) (value y))) → SortsAs gives (sorting less)
sorting_is_made gives less o by = (less, o, by, λ depth path state list. refl)
