-- What a listing knows of an entry.
use Rattle.std.specs.Prelude.{Option, option_and_then}
use Rattle.jwalk_model.specs.Metadata.{details_of}
use Rattle.jwalk_model.specs.declared.metadata.Details.{Details}
use Rattle.jwalk_model.specs.declared.metadata.Metadata.{Metadata}

-- the details of the metadata, if they are known
abbrev pub details_seen : Option Metadata → Option Details
details_seen = option_and_then details_of
