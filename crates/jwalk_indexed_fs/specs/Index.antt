-- Records of directories, and when they may be taken for what the directories hold.
use Rattle.std.specs.Prelude.{◌≡◌, ℕ, List, Option, Some, Ok}
use Rattle.std.specs.HashMap.{get_by_text}
use Rattle.jwalk_model.specs.FileSystem.{Functions}
use Rattle.jwalk_model.specs.declared.metadata.Metadata.{Metadata}
use Rattle.jwalk_model.specs.declared.metadata.Moment.{Moment}
use Rattle.jwalk_indexed_fs.specs.Listing.{typed_answer}
use Rattle.jwalk_indexed_fs.specs.Records.{list_kept}
use Rattle.jwalk_indexed_fs.specs.Stamp.{stamp_of, IsSettled}
use Rattle.jwalk_indexed_fs.specs.declared.index.Index.{Index}
use Rattle.jwalk_indexed_fs.specs.declared.records.Record.{Record}
use Rattle.jwalk_indexed_fs.specs.declared.stamp.Stamp.{Stamp}

-- what is kept of the directory at a path
abbrev pub record_at : Index → List ℕ → Option Record
record_at index path = get_by_text index.records path

-- A directory is at this path itself, and has this stamp.
abbrev pub HasStamp : Functions → List ℕ → Stamp → Type 0
HasStamp fs path s = (found : Metadata) × (fs.link_meta_of path ≡ Ok found) × (stamp_of found ≡ Some s)

-- A record is kept for the path, and a directory with its stamp is there.
pub record IsCurrent (fs : Functions) (index : Index) (path : List ℕ) (r : Record) : Type 0 where
  pub is_kept : record_at index path ≡ Some r
  pub stamp : Stamp
  pub has_stamp : r.stamp ≡ Some stamp
  pub is_there : HasStamp fs path stamp

-- Each directory that has the stamp of its record holds the names of the record, with their types.
abbrev pub Vouches : Functions → Index → Type 0
Vouches fs index = (path : List ℕ) (r : Record) → IsCurrent fs index path r → typed_answer (fs.list_of path) ≡ Ok (list_kept r.names)

-- A record whose stamp may be used is of a directory that had this stamp, held these names, and had settled before a time.
pub record IsRecordOf (start : Moment) (fs : Functions) (path : List ℕ) (r : Record) (s : Stamp) : Type 0 where
  pub settled : IsSettled start s
  pub is_there : HasStamp fs path s
  pub held : typed_answer (fs.list_of path) ≡ Ok (list_kept r.names)

-- Each record with a stamp is of what a file system returned, by a walk that began at a time.
abbrev pub AreOf : Moment → Functions → Index → Type 0
AreOf start fs index = (path : List ℕ) (r : Record) (s : Stamp) → record_at index path ≡ Some r → r.stamp ≡ Some s → IsRecordOf start fs path r s

-- A directory that had settled, and whose stamp is the same later, holds the same names, of the same types. It is what a time of change is for, and no proof shows it of a disk.
abbrev pub StampsTell : Moment → Functions → Functions → Type 0
StampsTell start before after =
    (path : List ℕ) (s : Stamp) → IsSettled start s → HasStamp before path s → HasStamp after path s → typed_answer (after.list_of path) ≡ typed_answer (before.list_of path)

-- Records of an earlier state vouch for a later one, if stamps tell.
abbrev pub RecordsVouch : Type 0
RecordsVouch = (start : Moment) (before after : Functions) (index : Index) → StampsTell start before after → AreOf start before index → Vouches after index
