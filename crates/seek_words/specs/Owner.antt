-- Owners of files.
use Rattle.std.specs.Prelude.{ℕ, ◌==◌, Bool, true, false, not, ◌&&◌, Option, None, Some}
use Rattle.jwalk_model.specs.declared.metadata.Details.{Details}
use Rattle.jwalk_model.specs.declared.metadata.Metadata.{Metadata}
use Rattle.seek_words.specs.Seen.{details_seen}
use Rattle.seek_words.specs.declared.owner.IdTest.{IdTest}
use Rattle.seek_words.specs.declared.owner.IdTest.TheVariants.{Is, IsNot}
use Rattle.seek_words.specs.declared.owner.Owner.{Owner}

-- whether a number passes a test
abbrev pub passes : IdTest → ℕ → Bool
passes (Is wanted) id = id == wanted
passes (IsNot unwanted) id = not (id == unwanted)

-- whether a number passes a test, if there is one
abbrev pub passes_any : Option IdTest → ℕ → Bool
passes_any None id = true
passes_any (Some test) id = passes test id

abbrev owns : Owner → Option Details → Bool
owns owner None = false
owns owner (Some details) = passes_any owner.user details.uid && passes_any owner.group details.gid

-- whether the metadata is known, and its owner and group pass the tests
abbrev pub is_owned : Owner → Option Metadata → Bool
is_owned owner seen = owns owner (details_seen seen)

-- whether an entry has an owner that is looked for, if one is
abbrev pub has_owner : Option Owner → Option Metadata → Bool
has_owner None seen = true
has_owner (Some owner) seen = is_owned owner seen
