-- What a look-up reaches, and what a file system returns for it.
use Rattle.std.specs.Prelude.{ℕ, List, length, Result, Ok, Err}
use Rattle.std.specs.declared.io.ErrorKind.{ErrorKind}
use Rattle.jwalk_model.specs.declared.file_type.FileType.TheVariants as type
use Rattle.jwalk_model.specs.declared.metadata.Metadata.{Metadata}
use Rattle.jwalk_model.specs.Metadata.{metadata}
use Rattle.jwalk_memory_fs.specs.declared.hit.Hit.{Hit as CodeHit}
use Rattle.jwalk_memory_fs.specs.declared.hit.Hit.TheVariants as code
use Rattle.jwalk_memory_fs.specs.Child.{Child, Dir, File, Link}

-- A directory by its index in the table, a file by its length, or a link by the directory that holds it and its target.
pub data Hit : Type 0 where
  on_dir : ℕ → Hit
  on_file : ℕ → Hit
  on_link : ℕ → List ℕ → Hit

abbrev pub hit_seen : CodeHit → Hit
hit_seen (code.Dir index) = on_dir index
hit_seen (code.File len) = on_file len
hit_seen (code.Link holder target) = on_link holder target.now

-- what a look-up returns
abbrev pub answer_seen : Result CodeHit ErrorKind → Result Hit ErrorKind
answer_seen (Ok hit) = Ok (hit_seen hit)
answer_seen (Err k) = Err k

-- what a look-up reaches where a child is in a directory
abbrev pub hit_of : ℕ → Child → Hit
hit_of holder (Dir index) = on_dir index
hit_of holder (File len) = on_file len
hit_of holder (Link target) = on_link holder target

abbrev pub metadata_of : Hit → Metadata
metadata_of (on_dir index) = metadata type.Dir 0
metadata_of (on_file len) = metadata type.File len
metadata_of (on_link holder target) = metadata type.Symlink (length target)
