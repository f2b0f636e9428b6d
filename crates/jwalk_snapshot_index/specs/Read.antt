-- The records of a file.
use Rattle.std.specs.Prelude.{◌≡◌, ℕ, List}
use Rattle.jwalk_indexed_fs.specs.declared.index.Index.{Index}
use Rattle.jwalk_snapshot.specs.Text.{text_of, Content, IsSnapshot}
use Rattle.jwalk_snapshot_index.specs.Records.{IsIndexOf}

-- Bytes are the text of this snapshot, which is of a root with this absolute path.
pub record IsSnapshotOf (bytes absolute : List ℕ) (snapshot : Content) : Type 0 where
  pub is_one : IsSnapshot snapshot
  pub has : bytes ≡ text_of snapshot
  pub rooted : snapshot.call.absolute ≡ absolute

-- Bytes are the text of a snapshot of a root with this absolute path.
abbrev pub IsOfRoot : List ℕ → List ℕ → Type 0
IsOfRoot bytes absolute = (snapshot : Content) × IsSnapshotOf bytes absolute snapshot

-- An index has the records that such a snapshot has for a walk below the root.
abbrev pub HasRecords : List ℕ → List ℕ → List ℕ → Index → Type 0
HasRecords bytes root absolute index = (snapshot : Content) × IsSnapshotOf bytes absolute snapshot × IsIndexOf root snapshot.folders index
