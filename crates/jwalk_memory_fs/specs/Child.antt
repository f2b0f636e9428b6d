-- What contracts see of a child, and the metadata that a file system returns for it.
use Rattle.std.specs.Prelude.{ℕ, List, length, string_bytes}
use Rattle.jwalk_model.specs.declared.file_type.FileType.TheVariants as type
use Rattle.jwalk_model.specs.declared.metadata.Metadata.{Metadata}
use Rattle.jwalk_model.specs.Metadata.{metadata}
use Rattle.jwalk_memory_fs.specs.declared.child.Child.{Child as CodeChild}
use Rattle.jwalk_memory_fs.specs.declared.child.Child.TheVariants as code

-- A directory by its index in the table, a file by its length, or a link by its target.
pub data Child : Type 0 where
  Dir : ℕ → Child
  File : ℕ → Child
  Link : List ℕ → Child

abbrev pub child_seen : {A : Type 0} → CodeChild A → Child
child_seen (code.Dir index) = Dir index
child_seen (code.File len) = File len
child_seen (code.Link target) = Link (string_bytes target)

abbrev pub metadata_of : Child → Metadata
metadata_of (Dir index) = metadata type.Dir 0
metadata_of (File len) = metadata type.File len
metadata_of (Link target) = metadata type.Symlink (length target)
