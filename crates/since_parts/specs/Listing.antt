-- How directories were listed, and which stamps of them may be used later.
use Rattle.std.specs.Prelude.{ℕ, ◌+ℤ◌, pos, Bool, ◌&&◌, nat_lt, List, [], ◌∷◌, flat_map, Option, None, Some, Ok, Err, is_some, option_and_then, if◌then◌else◌}
use Rattle.std.specs.Int.Signed.{lt_z}
use Rattle.jwalk_model.specs.declared.metadata.Moment.{Moment}
use Rattle.jwalk_model.specs.Entry.{Entry, Item, path_of}
use Rattle.jwalk_model.specs.FileType.{is_dir}
use Rattle.jwalk_indexed_fs.specs.Stamp.{stamp_of}
use Rattle.jwalk_indexed_fs.specs.declared.stamp.Stamp.{Stamp}
use Rattle.jwalk_snapshot.specs.declared.block.Stamp as kept
use Rattle.jwalk_snapshot.specs.declared.block.Listing.{Listing}
use Rattle.jwalk_snapshot.specs.declared.block.Listing.TheVariants.{Stamped, Unstamped}
use Rattle.since_parts.specs.Choice.{depth_of}
use Rattle.since_parts.specs.Tree.{behind, counts, front_in, keeps_all, own_in}
use Rattle.since_parts.specs.declared.choice.Choice.{Choice}
use Rattle.since_parts.specs.declared.tree.Tree.{Tree}

-- whether a directory had settled before a time: more than two whole seconds lie between its last change and that
abbrev pub is_settled : Moment → Stamp → Bool
is_settled start s = lt_z (s.changed.seconds +ℤ pos 2) start.seconds

-- a stamp as a snapshot keeps it
abbrev pub stamp_kept : Stamp → kept.Stamp
stamp_kept s = record { identity = s.identity; changed = s.changed }

-- how a directory was listed that had this stamp before: it may be used if the directory had settled
abbrev pub listing_by : Moment → Option Stamp → Listing
listing_by start None = Unstamped
listing_by start (Some s) = if is_settled start s then Stamped (stamp_kept s) else Unstamped

module _ {R E : Type 0} where
  -- whether the directory of an entry was listed: if it is one that is entered, and isn't at the greatest depth
  abbrev pub is_listed : Choice → Entry R E → Bool
  is_listed choice e = is_some e.read_children && nat_lt e.depth (depth_of choice)

  -- how the directory of an entry was listed, with this path behind the root: by the stamp that the walk saw before, if no name of it is left out
  abbrev pub listing_seen : Tree → List ℕ → Entry R E → Listing
  listing_seen tree path e = if keeps_all tree path && is_listed tree.choice e then listing_by tree.start (option_and_then stamp_of e.seen) else Unstamped

  -- the same below the root, of a directory that counts
  abbrev pub listed_below : Tree → List ℕ → Entry R E → List Listing
  listed_below tree path e = if counts (own_in tree) path && is_dir e.file_type then listing_seen tree path e ∷ [] else []

  -- how the directory of an entry was listed: of the root, or of a directory that counts
  abbrev pub listed_at : Tree → Entry R E → List Listing
  listed_at tree e = if nat_lt 0 e.depth then listed_below tree (behind (front_in tree) (path_of e)) e else listing_seen tree [] e ∷ []

  abbrev pub listed_one : Tree → Item R E → List Listing
  listed_one tree (Ok e) = listed_at tree e
  listed_one tree (Err f) = []

  -- how the directories among the answers of a walk were listed, one after another
  abbrev pub listed_in : Tree → List (Item R E) → List Listing
  listed_in tree = flat_map (listed_one tree)
