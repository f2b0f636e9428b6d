-- A comparison with a snapshot.
use Rattle.std.specs.Prelude.{◌≡◌, ◌⊎◌, ℕ, true, false, List, map, bytes_eq, Option, string_bytes}
use Rattle.std.specs.Arc.{arc_value}
use Rattle.std.specs.Io.KnownBytes.{Appends}
use Rattle.jwalk_ignore_rules.specs.declared.rules.texts.Texts as Texts
use Rattle.jwalk_indexed_fs.specs.declared.index.Index.{Index}
use Rattle.jwalk_snapshot.specs.Text.{Call as SavedCall, Content, IsSnapshot, text_of}
use Rattle.jwalk_snapshot_index.specs.Records.{IsIndexOf}
use Rattle.since_parts.specs.Choice.{has_rules}
use Rattle.since_parts.specs.Differences.{AreDifferences, Difference}
use Rattle.since_parts.specs.Held.{HoldsAll, seen_in}
use Rattle.since_parts.specs.Tree.{front_in, front_of, IsTree}
use Rattle.since_parts.specs.declared.found.Found.{Found}
use Rattle.since_parts.specs.declared.held.Held.{Held}
use Rattle.since_parts.specs.declared.tree.Tree.{Tree}
use Rattle.since_run.specs.Run.{root_asked, status_for, text_asked, IsChoice}
use Rattle.since_run.specs.Finds.{FindsAll, FindsQuickly}
use Rattle.since_run.specs.Yielded.{Walks}
use Rattle.since_run.specs.declared.call.Call.{Call}
use Rattle.since_run.specs.declared.compare.Told.{Told}

-- The tree below a root without the file of a call, of which a walk is to begin after the call did.
pub record IsTreeAt {T X : Type 0} (texts : Texts.Ghosts X) (call : Call T X) (root : List ℕ) (tree : Tree) : Type 0 where
  pub is : texts.IsFixed (arc_value call.texts) → IsTree (texts.functions (arc_value call.texts)) call.asked.now.file.now root tree
  pub below : string_bytes tree.root ≡ root
  pub front : front_in tree ≡ front_of root
  pub began : tree.start ≡ call.start

-- The tree that is compared with a snapshot: of the root that is asked for, or else of that one's, and what of it is compared.
pub record IsTreeFor {T X : Type 0} (texts : Texts.Ghosts X) (call : Call T X) (saved : SavedCall) (tree : Tree) : Type 0 where
  pub chosen : IsChoice call.asked.now saved.words tree.choice
  pub at : IsTreeAt texts call (root_asked call.asked.now saved.absolute) tree

-- The lines of differences between what a snapshot holds and what is found in a tree are written: of all, if all could be read. The status says whether there is one. File numbers count if the snapshot is of the same absolute root.
pub record WritesDifferences {T X : Type 0} (call : Call T X) (snapshot : Content) (before after : Option (List ℕ)) (told : Told) : Type 0 where
  pub held : List Held
  pub holds : HoldsAll (bytes_eq snapshot.call.absolute (string_bytes told.tree.absolute)) snapshot (map seen_in held)
  pub changes : List Difference
  pub differ : told.found.clean ≡ true → AreDifferences held told.found.entries.items changes
  pub written : Appends before after (text_asked call changes)
  pub tells : told.status ≡ status_for changes

-- A snapshot is compared with what is found in its tree, of which this holds.
pub record Compares {T X : Type 0} (texts : Texts.Ghosts X) (finds : Tree → Found → Type 0) (call : Call T X) (snapshot : Content) (before after : Option (List ℕ)) (told : Told) : Type 0 where
  pub tree_is : IsTreeFor texts call snapshot.call told.tree
  pub found_is : finds told.tree told.found
  pub writes : WritesDifferences call snapshot before after told

module _ {T Z X : Type 0} (walks : Walks T Z X) (disk : Z) (call : Call T X) where
  -- A snapshot is compared with what the walk finds on a disk that is chosen.
  abbrev pub ComparesAll : Content → Option (List ℕ) → Option (List ℕ) → Told → Type 0
  ComparesAll = Compares walks.texts (FindsAll walks disk call) call

  -- A snapshot is compared by names and types with what a walk finds with its records. No rules are chosen.
  pub record ComparesQuickly (snapshot : Content) (before after : Option (List ℕ)) (told : Told) : Type 0 where
    pub index : Index
    pub is_index : IsIndexOf (string_bytes told.tree.root) snapshot.folders index
    pub without : has_rules told.tree.choice ≡ false
    pub compares : Compares walks.texts (FindsQuickly walks disk call index) call snapshot before after told

  -- Bytes are the text of a snapshot, and it is compared as is asked for: quickly, or all of it.
  pub record ComparesBytes (bytes : List ℕ) (before after : Option (List ℕ)) (told : Told) : Type 0 where
    pub snapshot : Content
    pub is_one : IsSnapshot snapshot
    pub has : bytes ≡ text_of snapshot
    pub either : ((call.asked.now.quick ≡ false) × ComparesAll snapshot before after told) ⊎ ((call.asked.now.quick ≡ true) × ComparesQuickly snapshot before after told)
