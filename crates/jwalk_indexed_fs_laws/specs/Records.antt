-- Records that are added one after another.
use Rattle.std.specs.Prelude.{◌≡◌, ℕ, List, Some, None}
use Rattle.std.specs.Map.{update}
use Rattle.std.specs.Str.{bytes_eq}
use Rattle.jwalk_model.specs.FileSystem.{Functions}
use Rattle.jwalk_model.specs.declared.metadata.Moment.{Moment}
use Rattle.jwalk_indexed_fs.specs.Index.{record_at, AreOf, IsRecordOf}
use Rattle.jwalk_indexed_fs.specs.declared.index.Index.{Index}
use Rattle.jwalk_indexed_fs.specs.declared.records.Record.{Record}
use Rattle.jwalk_indexed_fs.specs.declared.stamp.Stamp.{Stamp}

-- The record of a path was added to the others.
abbrev pub IsAdded : Index → List ℕ → Record → Index → Type 0
IsAdded old path kept new = (at : List ℕ) → record_at new at ≡ update bytes_eq (record_at old) path (Some kept) at

-- Records that are added one after another, beginning with none, are of what the file system returned, if each is.
pub record RecordsAddUp : Type 0 where
  pub none : (start : Moment) (fs : Functions) (index : Index) → ((path : List ℕ) → record_at index path ≡ None) → AreOf start fs index
  pub one_more : (start : Moment) (fs : Functions) (old new : Index) (path : List ℕ) (kept : Record) → AreOf start fs old → ((s : Stamp) → kept.stamp ≡ Some s → IsRecordOf start fs path kept s) → IsAdded old path kept new → AreOf start fs new
