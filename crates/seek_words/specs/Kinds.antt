-- The types of what is looked for.
use Rattle.std.specs.Prelude.{ℕ, ◌==◌, Bool, false, ◌&&◌, ◌||◌, not, bit_and, Option, None, Some}
use Rattle.jwalk_model.specs.FileType.{is_file}
use Rattle.jwalk_model.specs.declared.metadata.Details.{Details}
use Rattle.jwalk_model.specs.declared.metadata.Metadata.{Metadata}
use Rattle.seek_words.specs.Seen.{details_seen}
use Rattle.jwalk_model.specs.declared.file_type.FileType.{FileType}
use Rattle.jwalk_model.specs.declared.file_type.FileType.TheVariants.{Dir, File, Symlink, Other}
use Rattle.seek_words.specs.declared.kinds.Kinds.{Kinds}

-- whether a type is named
abbrev pub is_named : Kinds → FileType → Bool
is_named kinds File = kinds.file
is_named kinds Dir = kinds.dir
is_named kinds Symlink = kinds.link
is_named kinds Other = kinds.other

-- whether a type is named that depends on the mode
abbrev pub names_mode : Kinds → Bool
names_mode kinds = kinds.executable || (kinds.pipe || (kinds.socket || (kinds.block || kinds.char)))

-- whether no type is
abbrev pub names_none : Kinds → Bool
names_none kinds = not kinds.file && (not kinds.dir && (not kinds.link && (not kinds.other && not (names_mode kinds))))

-- whether emptiness is named, and no type of what can be empty
abbrev pub names_empty_alone : Kinds → Bool
names_empty_alone kinds = kinds.empty && (not kinds.file && (not kinds.dir && not kinds.executable))

-- whether a mode permits anyone to execute the file
abbrev pub is_executable : ℕ → Bool
is_executable mode = not (bit_and mode 73 == 0)

-- whether a mode is that of this type of file
abbrev pub has_format : ℕ → ℕ → Bool
has_format mode format = bit_and mode 61440 == format

-- whether a pipe, a socket, a block device or a character device is named, and has this mode
abbrev pub is_special : Kinds → ℕ → Bool
is_special kinds mode =
    (kinds.pipe && has_format mode 4096) || ((kinds.socket && has_format mode 49152) || ((kinds.block && has_format mode 24576) || (kinds.char && has_format mode 8192)))

-- whether a type is named that has this mode
abbrev pub has_mode : Kinds → FileType → ℕ → Bool
has_mode kinds type mode = (kinds.executable && (is_file type && is_executable mode)) || is_special kinds mode

abbrev mode_among : Kinds → FileType → Option Details → Bool
mode_among kinds type None = false
mode_among kinds type (Some details) = has_mode kinds type details.mode

-- whether the mode is known, and a type is named that has it
abbrev pub has_modes : Kinds → FileType → Option Metadata → Bool
has_modes kinds type seen = mode_among kinds type (details_seen seen)

-- whether an entry of this type is looked for: its type is named, or its mode has a named type, or no type is named, or
-- emptiness, and no type of what can be empty
abbrev pub has_kind : Kinds → FileType → Option Metadata → Bool
has_kind kinds type seen = names_none kinds || (names_empty_alone kinds || (is_named kinds type || has_modes kinds type seen))
