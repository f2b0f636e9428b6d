-- What a listing says of a name.
use Rattle.std.specs.Prelude.{Option, Some, None}
use Rattle.jwalk_model.specs.declared.metadata.Identity.{Identity}
use Rattle.jwalk_model.specs.declared.file_type.FileType.{FileType}
use Rattle.jwalk_model.specs.declared.metadata.Metadata.{Metadata}
use Rattle.jwalk_model.specs.declared.seen.Seen.{Seen}
use Rattle.jwalk_model.specs.declared.seen.Seen.TheVariants.{TypeAlone, Whole}
use Rattle.jwalk_model.specs.Metadata.{type_of, identity_of}

-- the type
abbrev pub type_seen : Seen → FileType
type_seen (TypeAlone type) = type
type_seen (Whole m) = type_of m

-- all that is known, if the listing says it
abbrev pub metadata_seen : Seen → Option Metadata
metadata_seen (TypeAlone type) = None
metadata_seen (Whole m) = Some m

-- which file it is, if the listing says it
abbrev pub identity_seen : Seen → Option Identity
identity_seen (TypeAlone type) = None
identity_seen (Whole m) = identity_of m
