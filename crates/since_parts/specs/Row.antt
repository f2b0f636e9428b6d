-- The rows of what a snapshot holds.
use Rattle.std.specs.Prelude.{ℕ, ℤ, pos, true, ◌+ℤ◌, ◌*ℤ◌, List, [], ◌∷◌, ◌++◌, flat_map, Option, Some, None, decimal}
use Rattle.std.specs.Fmt.{signed_decimal}
use Rattle.jwalk_model.specs.Paths.{join}
use Rattle.jwalk_model.specs.declared.file_type.FileType.{FileType}
use Rattle.jwalk_model.specs.declared.metadata.Moment.{Moment}
use Rattle.jwalk_snapshot.specs.Text.{Entry, Folder, letter}
use Rattle.jwalk_snapshot.specs.declared.name.Facts.{Facts}
use Rattle.program_parts.specs.declared.paths.Style.{Style}
use Rattle.since_parts.specs.Line.{path_text}

-- the letter of a type: d, f, l, and o for all else
abbrev pub letter_of : FileType → ℕ
letter_of type = letter type true

-- the nanoseconds since 1970
abbrev pub nanoseconds_of : Moment → ℤ
nanoseconds_of m = m.seconds *ℤ pos 1000000000 +ℤ pos m.nanoseconds

-- a number behind a tab
abbrev pub number_column : ℕ → List ℕ
number_column n = 9 ∷ decimal n

-- a time behind a tab
abbrev pub time_column : Moment → List ℕ
time_column m = 9 ∷ signed_decimal (nanoseconds_of m)

-- length, time and number, each behind a tab. They are empty where they aren't known
abbrev pub facts_columns : Option Facts → List ℕ
facts_columns None = 9 ∷ 9 ∷ 9 ∷ []
facts_columns (Some f) = number_column f.len ++ time_column f.modified ++ number_column f.inode

-- the row of a name in a directory with this path: its path behind the root, its type, and what is known of it
abbrev pub row_of : Style → List ℕ → Entry → List ℕ
row_of style folder e = path_text style (join folder e.name) ++ 9 ∷ letter_of e.file_type ∷ facts_columns e.facts ++ style.separator ∷ []

-- the rows of the names in a directory
abbrev pub rows_in : Style → Folder → List ℕ
rows_in style f = flat_map (row_of style f.path) f.names

-- the rows of the names in all directories
abbrev pub rows_of : Style → List Folder → List ℕ
rows_of style = flat_map (rows_in style)
