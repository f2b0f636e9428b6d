-- What the callbacks make of a small list, and walks with them over a small tree, row by row.
use Rattle.std.specs.Prelude.{◌≡◌, ℕ, ◌==◌, Bool, true, false, not, ◌&&◌, List, [], ◌∷◌, map, take, Some, None, Ok, Err, bytes_eq, codes, refl}
use Rattle.std.specs.Borrow.{Bor}
use Rattle.std.specs.Fmt.{digits}
use Rattle.std.specs.declared.io.ErrorKind.TheVariants as kind
use Rattle.jwalk_model.specs.declared.file_type.FileType.{FileType}
use Rattle.jwalk_model.specs.declared.file_type.FileType.TheVariants.{Dir, File}
use Rattle.jwalk_model.specs.FileType.{is_dir}
use Rattle.jwalk_model.specs.Paths.{join}
use Rattle.jwalk_model.specs.Error.{io}
use Rattle.jwalk_model.specs.Entry.{Item, children_at}
use Rattle.jwalk_model.specs.ReadDir.{Reading}
use Rattle.jwalk_model.specs.Job.{Processing}
use Rattle.jwalk_model.specs.Listing.{below}
use Rattle.jwalk_model.specs.Lines.{line_of}
use Rattle.jwalk_model.specs.TreeRows.{d, f}
use Rattle.jwalk_model.specs.Walk.{whole_walk}
use Rattle.jwalk_model.specs.WalkRows.{tree_by, sorted}
use Rattle.jwalk_job.specs.Given.{Given}
use Rattle.jwalk_callbacks.specs.declared.skip_names.SkipNames.{SkipNames}
use Rattle.jwalk_callbacks.specs.Both.{chained, chaining, CountsAlike, MakesInTurn}
use Rattle.jwalk_callbacks.specs.SkipNames.{names_of, skips, skipping, Skips}
use Rattle.jwalk_callbacks.specs.FilterEntry.{Test, filters, filtering, IsTest, FiltersAs}

-- states that say nothing
abbrev Nothing : Type 0
Nothing = Unit {0}

-- an entry of `/r`, with a directory to be read below it or without one
abbrev entry : List ℕ → FileType → Bool → Item Nothing Nothing
entry name type entered = Ok (record {
  depth = 1;
  file_name = name;
  file_type = type;
  seen = None;
  client_state = tt;
  parent_path = codes "/r";
  through_link = false;
  ancestors = [];
  read_children = children_at entered (join (codes "/r") name);
})

abbrev fault : Item Nothing Nothing
fault = Err (io 1 None kind.Other)

-- an error, a file and a directory of one name, and another directory
abbrev items : List (Item Nothing Nothing)
items = fault ∷ entry (codes "target") File false ∷ entry (codes "target") Dir true ∷ entry (codes "src") Dir true ∷ []

-- a list that a callback leaves
abbrev left : List (Item Nothing Nothing) → Reading Nothing Nothing
left list = record { state = tt; list = list }

targets_skipped : skips (codes ".git" ∷ codes "target" ∷ []) (Some 0) (codes "/r") tt items
    ≡ left (fault ∷ entry (codes "target") File false ∷ entry (codes "target") Dir false ∷ entry (codes "src") Dir true ∷ [])
targets_skipped = refl

-- a name is no part of a longer one, and upper case differs from lower case
others_not_skipped : skips (codes "tar" ∷ codes "SRC" ∷ codes "targets" ∷ []) (Some 0) (codes "/r") tt items ≡ left items
others_not_skipped = refl

none_skipped_at_the_root : skips (codes "target" ∷ []) None (codes "/") tt items ≡ left items
none_skipped_at_the_root = refl

-- all but directories of one name
abbrev no_target : Test
no_target depth name type = not (bytes_eq name (codes "target") && is_dir type)

targets_dropped : filters no_target (Some 0) (codes "/r") tt items
    ≡ left (fault ∷ entry (codes "target") File false ∷ entry (codes "src") Dir true ∷ [])
targets_dropped = refl

errors_stay : filters (λ depth name type. depth == 2) (Some 0) (codes "/r") tt items ≡ left (fault ∷ [])
errors_stay = refl

none_dropped_at_the_root : filters no_target None (codes "/") tt items ≡ left items
none_dropped_at_the_root = refl

-- what a callback makes of a list that leaves its first three items
abbrev cuts : Processing Nothing Nothing
cuts depth path state list = left (take 3 list)

dropped_then_cut : chained (filters no_target) cuts (Some 0) (codes "/r") tt items
    ≡ left (fault ∷ entry (codes "target") File false ∷ entry (codes "src") Dir true ∷ [])
dropped_then_cut = refl

cut_then_dropped : chained cuts (filters no_target) (Some 0) (codes "/r") tt items
    ≡ left (fault ∷ entry (codes "target") File false ∷ [])
cut_then_dropped = refl

-- the lines of a walk from a root over a tree, by name
abbrev walk_with : Processing Nothing Nothing → List ℕ → List (List ℕ)
walk_with processed root = map line_of (whole_walk (record {
  fs = tree_by (d (codes "/r") ∷ d (codes "/r/target") ∷ f 1 (codes "/r/target/o") ∷ d (codes "/r/src") ∷ f 1 (codes "/r/src/target") ∷ []);
  options = sorted;
  processed = processed;
  default = tt;
}) root tt)

walk_that_skips : walk_with (skips (codes "target" ∷ [])) (codes "/r")
    ≡ codes "0 d /r\n" ∷ codes "1 d /r/src\n" ∷ codes "2 f /r/src/target\n" ∷ codes "1 d /r/target\n" ∷ []
unfolding whole_walk below digits
walk_that_skips = refl

walk_that_filters : walk_with (filters no_target) (codes "/r")
    ≡ codes "0 d /r\n" ∷ codes "1 d /r/src\n" ∷ codes "2 f /r/src/target\n" ∷ []
unfolding whole_walk below digits
walk_that_filters = refl

walk_that_filters_and_skips : walk_with (chained (filters no_target) (skips (codes "src" ∷ []))) (codes "/r")
    ≡ codes "0 d /r\n" ∷ codes "1 d /r/src\n" ∷ []
unfolding whole_walk below digits
walk_that_filters_and_skips = refl

-- a root is entered, and yielded, whatever its name
walk_from_a_skipped_name : walk_with (skips (codes "target" ∷ [])) (codes "/r/target") ≡ codes "0 d /r/target\n" ∷ codes "1 f /r/target/o\n" ∷ []
unfolding whole_walk below digits
walk_from_a_skipped_name = refl

walk_from_a_dropped_name : walk_with (filters no_target) (codes "/r/target") ≡ codes "0 d /r/target\n" ∷ codes "1 f /r/target/o\n" ∷ []
unfolding whole_walk below digits
walk_from_a_dropped_name = refl

-- A callback that skips makes of lists what `skipping` gives. One whose answers are those of a test makes what `filtering` gives.
skipping_is_made : (R E : Type 0) {A : Type 0} (it : SkipNames A) → Skips {R = R} {E = E} it (skipping (names_of it))
skipping_is_made R E it depth path state list = refl

filtering_is_made : (R E : Type 0) (answers : ℕ → Bor (List ℕ) → FileType → Bool → Type 0) (test : Test) → IsTest answers test → FiltersAs answers {R = R} {E = E} (filtering test)
filtering_is_made R E answers test is = (test, is, λ depth path state list. refl)

-- Two callbacks make in turn what `chaining` gives, if states count alike.
chaining_is_made : {R E : Type 0} (First Second : Given R E → Type 0) (first second : Given R E)
    → First first → Second second → CountsAlike second first → MakesInTurn First Second (chaining first second)
chaining_is_made First Second first second made made' alike = record {
  first = first;
  second = second;
  first_made = made;
  second_made = made';
  first_alike = (refl, refl, refl);
  second_alike = alike;
  in_turn = λ depth path state list. refl;
}
