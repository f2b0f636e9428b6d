-- Walks over small trees whose file system knows which file is at a path, row by row: what they yield, a line each.
use Rattle.std.specs.Prelude.{◌≡◌, ℕ, ◌+◌, ◌*◌, List, [], ◌∷◌, map, None, Result, Ok, Err, codes, bytes_eq, if◌then◌else◌, fold, flat_map, pos, refl, true, false}
use Rattle.std.specs.Fmt.{digits}
use Rattle.std.specs.declared.io.ErrorKind.{ErrorKind}
use Rattle.jwalk_model.specs.declared.metadata.Identity.{Identity}
use Rattle.jwalk_model.specs.declared.metadata.Metadata.{Metadata}
use Rattle.jwalk_model.specs.declared.metadata.Moment.{Moment}
use Rattle.jwalk_model.specs.declared.seen.Seen.{Seen}
use Rattle.jwalk_model.specs.declared.seen.Seen.TheVariants.{TypeAlone, Whole}
use Rattle.jwalk_model.specs.Metadata.{with_details}
use Rattle.jwalk_model.specs.FileSystem.{Functions, Listed}
use Rattle.jwalk_model.specs.Tree.{Tree, Place, child, only_root, functions_of, look_up, at_found, listing_at, node_metadata}
use Rattle.jwalk_model.specs.TreeRows.{Step, d, f, l, built}
use Rattle.jwalk_model.specs.Lines.{line_of}
use Rattle.jwalk_model.specs.Options.{Options, defaults, with_follow_links, with_same_file_system}
use Rattle.jwalk_model.specs.Listing.{below}
use Rattle.jwalk_model.specs.Walk.{whole_walk, stateless_walk}

-- the file at a place: what is at or below a name `m` in a directory below the root is on a device of its own
abbrev device_of : Place → ℕ
device_of (top ∷ name ∷ below) = if bytes_eq name (codes "m") then 2 else 1
device_of place = 1

abbrev file_at : Place → Identity
file_at place = record { device = device_of place; inode = fold (λ n b. n * 256 + b) 1 (flat_map (λ name. 47 ∷ name) place) }

abbrev at_no_time : Moment
at_no_time = record { seconds = pos 0; nanoseconds = 0 }

abbrev identified : Place → Metadata → Metadata
identified place m = with_details (record {
  identity = file_at place;
  links = 1;
  blocks = 0;
  modified = at_no_time;
  accessed = at_no_time;
  changed = at_no_time;
  created = None;
  mode = 0;
  uid = 0;
  gid = 0;
}) m

abbrev metadata_with : Place → Result Metadata ErrorKind → Result Metadata ErrorKind
metadata_with place (Ok m) = Ok (identified place m)
metadata_with place (Err kind) = Err kind

abbrev seen_with : Place → Result Seen ErrorKind → Result Seen ErrorKind
seen_with place (Ok (Whole m)) = Ok (Whole (identified place m))
seen_with place (Ok (TypeAlone type)) = Ok (TypeAlone type)
seen_with place (Err kind) = Err kind

abbrev item_with : Place → Listed → Listed
item_with place (Ok n) = Ok (record { name = n.name; seen = seen_with (child place n.name) n.seen })
item_with place (Err kind) = Err kind

abbrev list_with : Place → Result (List Listed) ErrorKind → Result (List Listed) ErrorKind
list_with place (Ok items) = Ok (map (item_with place) items)
list_with place (Err kind) = Err kind

-- the file system of a tree, with the identity of each file
abbrev identified_functions : Tree → Functions
identified_functions tree = record (functions_of tree) {
  list_of = λ path. at_found (λ place. list_with place (listing_at tree place (tree place))) (look_up tree true path);
  meta_of = λ path. at_found (λ place. metadata_with place (node_metadata (tree place))) (look_up tree true path);
  link_meta_of = λ path. at_found (λ place. metadata_with place (node_metadata (tree place))) (look_up tree false path);
}

abbrev over : List Step → Options → List ℕ → List (List ℕ)
over steps options root = map line_of (stateless_walk (identified_functions (built only_root steps)) options root)

abbrev following : Options
following = with_follow_links true defaults

links_to_one_another : over (d (codes "/r") ∷ d (codes "/r/a") ∷ l (codes "../b") (codes "/r/a/l") ∷ d (codes "/r/b") ∷ l (codes "../a") (codes "/r/b/m") ∷ []) following (codes "/r")
    ≡ codes "0 d /r\n" ∷ codes "1 d /r/a\n" ∷ codes "2 D /r/a/l\n" ∷ codes "! 3 /r/a/l/m loop /r/a\n"
    ∷ codes "1 d /r/b\n" ∷ codes "2 D /r/b/m\n" ∷ codes "! 3 /r/b/m/l loop /r/b\n" ∷ []
unfolding whole_walk below digits
links_to_one_another = refl

-- a link whose text leads above, and which leads elsewhere
text_that_leads_above : over (d (codes "/r") ∷ l (codes "/s/t") (codes "/r/k") ∷ d (codes "/s") ∷ d (codes "/s/t") ∷ l (codes "..") (codes "/s/t/l") ∷ []) following (codes "/r")
    ≡ codes "0 d /r\n" ∷ codes "1 D /r/k\n" ∷ codes "2 D /r/k/l\n" ∷ codes "3 d /r/k/l/t\n" ∷ codes "! 4 /r/k/l/t/l loop /r/k/l\n" ∷ []
unfolding whole_walk below digits
text_that_leads_above = refl

-- a directory that is met again below a link to the one above it
met_again_below_a_link : over (d (codes "/p") ∷ d (codes "/p/a") ∷ l (codes "..") (codes "/p/a/l") ∷ []) following (codes "/p/a")
    ≡ codes "0 d /p/a\n" ∷ codes "1 D /p/a/l\n" ∷ codes "2 d /p/a/l/a\n" ∷ codes "! 3 /p/a/l/a/l loop /p/a/l\n" ∷ []
unfolding whole_walk below digits
met_again_below_a_link = refl

-- a root that is a link is no directory above itself
root_that_is_a_link : over (d (codes "/r") ∷ d (codes "/r/a") ∷ f 1 (codes "/r/a/f") ∷ l (codes "a") (codes "/r/k") ∷ []) following (codes "/r/k")
    ≡ codes "0 D /r/k\n" ∷ codes "1 f /r/k/f\n" ∷ []
unfolding whole_walk below digits
root_that_is_a_link = refl

abbrev mounted : List Step
mounted = d (codes "/r") ∷ f 1 (codes "/r/f") ∷ d (codes "/r/m") ∷ f 2 (codes "/r/m/g") ∷ d (codes "/r/m/s") ∷ f 3 (codes "/r/m/s/h") ∷ []

one_file_system : over mounted (with_same_file_system true defaults) (codes "/r") ≡ codes "0 d /r\n" ∷ codes "1 f /r/f\n" ∷ codes "1 d /r/m\n" ∷ []
unfolding whole_walk below digits
one_file_system = refl

-- the root is read on whatever file system it is
root_on_another : over mounted (with_same_file_system true defaults) (codes "/r/m")
    ≡ codes "0 d /r/m\n" ∷ codes "1 f /r/m/g\n" ∷ codes "1 d /r/m/s\n" ∷ codes "2 f /r/m/s/h\n" ∷ []
unfolding whole_walk below digits
root_on_another = refl

every_file_system : over mounted defaults (codes "/r")
    ≡ codes "0 d /r\n" ∷ codes "1 f /r/f\n" ∷ codes "1 d /r/m\n" ∷ codes "2 f /r/m/g\n" ∷ codes "2 d /r/m/s\n" ∷ codes "3 f /r/m/s/h\n" ∷ []
unfolding whole_walk below digits
every_file_system = refl
