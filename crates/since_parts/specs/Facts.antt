-- What is compared of a file.
use Rattle.std.specs.Prelude.{ℕ, Bool, List, Option, Some, None, string_bytes, if◌then◌else◌}
use Rattle.std.specs.declared.alloc.Global.{Global}
use Rattle.jwalk_model.specs.declared.file_type.FileType.{FileType}
use Rattle.jwalk_model.specs.declared.metadata.Details.{Details}
use Rattle.jwalk_model.specs.declared.metadata.Metadata.{Metadata}
use Rattle.jwalk_model.specs.Metadata.{details_of, len_of}
use Rattle.jwalk_snapshot.specs.declared.name.Facts as snapshot
use Rattle.jwalk_changes.specs.declared.facts.Facts as changes
use Rattle.jwalk_changes.specs.declared.entry.Kept.{Kept}

-- what a snapshot keeps of a file by its details
abbrev pub kept_by : Metadata → Option Details → Option snapshot.Facts
kept_by m None = None
kept_by m (Some d) = Some (record { len = len_of m; modified = d.modified; inode = d.identity.inode })

-- what a snapshot keeps of a file: its length, when it was last written, and its number, if they are known
abbrev pub kept_of : Metadata → Option snapshot.Facts
kept_of m = kept_by m (details_of m)

-- what is compared of a file of which this is kept: its number only if numbers count
abbrev pub known : Bool → FileType → snapshot.Facts → changes.Facts
known numbers type f = record { file_type = type; len = Some f.len; modified = Some f.modified; inode = (if numbers then Some f.inode else None) }

-- what is compared of a file: its type alone if nothing else is kept
abbrev pub compared : Bool → FileType → Option snapshot.Facts → changes.Facts
compared numbers type None = record { file_type = type; len = None; modified = None; inode = None }
compared numbers type (Some f) = known numbers type f

-- a path behind a root, and what is compared of the file there
pub record Seen : Type 0 where
  pub path : List ℕ
  pub facts : changes.Facts

-- the same of an entry in memory
abbrev pub seen_of : Kept Global → Seen
seen_of kept = record { path = string_bytes kept.path; facts = kept.facts }
