-- The details of an entry in columns.
use Rattle.std.specs.Prelude.{ℕ, List, ◌∷◌, ◌++◌, codes, replicate, option_and_then, Option, None, Some}
use Rattle.std.specs.Option.{option_map}
use Rattle.jwalk_model.specs.Metadata.{details_of, len_of}
use Rattle.jwalk_model.specs.declared.file_type.FileType.{FileType}
use Rattle.jwalk_model.specs.declared.file_type.FileType.TheVariants.{Dir, File, Symlink, Other}
use Rattle.jwalk_model.specs.declared.metadata.Details.{Details}
use Rattle.jwalk_model.specs.declared.metadata.Metadata.{Metadata}
use Rattle.seek_details.specs.Columns.{number_column, padded}
use Rattle.seek_details.specs.Date.{time_text}
use Rattle.seek_details.specs.Mode.{mode_text}

-- the letter of a type, where the mode isn't known
abbrev pub type_letter : FileType → ℕ
type_letter Dir = 100
type_letter File = 45
type_letter Symlink = 108
type_letter Other = 63

abbrev mode_or_type : FileType → Option Details → List ℕ
mode_or_type type None = type_letter type ∷ replicate 9 63
mode_or_type type (Some details) = mode_text details.mode

-- the type and the rights, each a question mark if it isn't known
abbrev pub mode_column : Option Metadata → List ℕ
mode_column None = replicate 10 63
mode_column (Some m) = mode_or_type m.file_type (details_of m)

-- the columns of how many names it has, of its owner and of its group
abbrev pub number_columns : Option Details → List ℕ
number_columns details =
    number_column 3 (option_map (λ d. d.links) details) ++ number_column 5 (option_map (λ d. d.uid) details)
    ++ number_column 5 (option_map (λ d. d.gid) details)

-- a space and the time at which the content was last written, or a question mark if it isn't known
abbrev pub time_column : Option Details → List ℕ
time_column None = codes " " ++ padded 32 19 (codes "?")
time_column (Some details) = codes " " ++ time_text details.modified.seconds

-- the text in front of a path: type and rights, names, owner, group, length and time, and a space
unfoldable pub details_text : Option Metadata → List ℕ
details_text seen =
    mode_column seen ++ number_columns (option_and_then details_of seen) ++ number_column 10 (option_map len_of seen)
    ++ time_column (option_and_then details_of seen) ++ codes " "
