-- The snapshot of what a walk finds.
use Rattle.std.specs.Prelude.{◌≡◌, ℕ, Bool, true, false, not, ◌&&◌, ◌||◌, List, [], ◌∷◌, filter, is_some, map, string_bytes}
use Rattle.std.specs.declared.alloc.Global.{Global}
use Rattle.jwalk_changes.specs.declared.entry.Kept.{Kept}
use Rattle.jwalk_changes.specs.declared.facts.Facts.{Facts}
use Rattle.jwalk_changes.specs.Facts.{is_any, which}
use Rattle.jwalk_model.specs.FileType.{is_dir}
use Rattle.jwalk_snapshot.specs.Text.{Content, Folder, IsSnapshot, text_of}
use Rattle.jwalk_snapshot.specs.declared.block.Listing.{Listing}
use Rattle.since_parts.specs.Choice.{words_of}
use Rattle.since_parts.specs.Held.{HoldsAll, seen_in}
use Rattle.since_parts.specs.declared.choice.Choice.{Choice}
use Rattle.since_parts.specs.declared.found.Found.{Found}
use Rattle.since_parts.specs.declared.held.Held.{Held}

-- whether what is known of an entry that was found is known of one that is kept
abbrev pub keeps : Facts → Facts → Bool
keeps kept found =
    (is_some kept.len || not (is_some found.len)) && ((is_some kept.modified || not (is_some found.modified)) && (is_some kept.inode || not (is_some found.inode)))

-- An entry that is kept has the path of one that was found, and no fact that counts differs.
pub record IsSame (kept : Held) (found : Kept Global) : Type 0 where
  pub path : (seen_in kept).path ≡ string_bytes found.path
  pub equal : is_any (which (seen_in kept).facts found.facts) ≡ false
  pub known : keeps (seen_in kept).facts found.facts ≡ true

-- All that was found is kept, one after another, and nothing else.
abbrev pub AreSame : List Held → List (Kept Global) → Type 0
AreSame [] [] = Unit {0}
AreSame [] (b ∷ found) = ⊥
AreSame (a ∷ kept) [] = ⊥
AreSame (a ∷ kept) (b ∷ found) = IsSame a b × AreSame kept found

abbrev pub path_in : Folder → List ℕ
path_in f = f.path

abbrev pub listing_in : Folder → Listing
listing_in f = f.listing

abbrev pub is_dir_found : Kept Global → Bool
is_dir_found found = is_dir found.facts.file_type

abbrev pub path_found : Kept Global → List ℕ
path_found found = string_bytes found.path

-- the paths of the directories among entries
abbrev pub dir_paths : List (Kept Global) → List (List ℕ)
dir_paths entries = map path_found (filter is_dir_found entries)

-- A snapshot holds just what was found. Its directories are the root and those that were found, each listed as it was.
pub record KeepsAll (found : Found) (content : Content) : Type 0 where
  pub kept : List Held
  pub holds : HoldsAll true content (map seen_in kept)
  pub same : AreSame kept found.entries.items
  pub dirs : map path_in content.folders ≡ [] ∷ dir_paths found.entries.items
  pub listings : map listing_in content.folders ≡ found.listings.items

-- This is the text of a snapshot below an absolute root, which keeps what is compared, and what was found.
pub record IsTextOf (absolute : List ℕ) (choice : Choice) (found : Found) (text : List ℕ) : Type 0 where
  pub content : Content
  pub is_one : IsSnapshot content
  pub below : content.call.absolute ≡ absolute
  pub words : content.call.words ≡ words_of choice
  pub has : text ≡ text_of content
  pub keeps : KeepsAll found content
