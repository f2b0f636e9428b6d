-- What a file system knows of a path.
use Rattle.std.specs.Prelude.{ℕ, Bool, false, not, ◌&&◌, ◌||◌, ◌==◌, Option, Some, None, option_map, if◌then◌else◌}
use Rattle.jwalk_model.specs.declared.file_type.FileType.{FileType}
use Rattle.jwalk_model.specs.declared.metadata.Metadata.{Metadata}
use Rattle.jwalk_model.specs.declared.metadata.Details.{Details}
use Rattle.jwalk_model.specs.declared.metadata.Identity.{Identity}
use Rattle.jwalk_model.specs.Packed.{packed, unpacked}

-- the type
abbrev pub type_of : Metadata → FileType
type_of m = m.file_type

-- the length in bytes
abbrev pub len_of : Metadata → ℕ
len_of m = m.len

-- what else is known
abbrev pub details_of : Metadata → Option Details
details_of m = option_map unpacked m.details

-- whether it says which file it is: no file has both numbers 0
abbrev pub is_known : Identity → Bool
is_known i = not (i.device == 0) || not (i.inode == 0)

abbrev identity_in : Option Details → Option Identity
identity_in None = None
identity_in (Some d) = if is_known d.identity then Some d.identity else None

-- which file it is, where that is known
abbrev pub identity_of : Metadata → Option Identity
identity_of m = identity_in (details_of m)

-- whether two identities are that of one file
abbrev pub same_file : Identity → Identity → Bool
same_file i j = (i.device == j.device) && (i.inode == j.inode)

-- whether two files, where both are known, are on different file systems
abbrev pub is_elsewhere : Option Identity → Option Identity → Bool
is_elsewhere (Some i) (Some j) = not (i.device == j.device)
is_elsewhere _ _ = false

-- the metadata of this type and length, without details
abbrev pub metadata : FileType → ℕ → Metadata
metadata type len = record { file_type = type; len = len; details = None }

-- the metadata with these details
abbrev pub with_details : Details → Metadata → Metadata
with_details details m = record m { details = Some (packed details) }
