-- The ignore files that a search reads.
use Rattle.std.specs.Prelude.{ℕ, ◌||◌, List, [], ◌∷◌, ◌++◌, flat_map, Option, Some, None, Result, Ok, Err, if◌then◌else◌}
use Rattle.std.specs.declared.io.ErrorKind.{ErrorKind}
use Rattle.jwalk_ignore.specs.Rules.Line.{without_mark}
use Rattle.jwalk_ignore.specs.Rules.Texts.{Texts}
use Rattle.program_parts.specs.Values.{texts_of}
use Rattle.seek_words.specs.declared.asked.Asked.{Asked}
use Rattle.user_excludes.specs.Home.{Home}

-- where the user's own files are, if their excludes are asked for
abbrev pub home_asked : Home → Asked → Option Home
home_asked home asked = if asked.no_ignore || asked.no_vcs || asked.no_global then None else Some home

-- the lines of a file, none where it can't be read
abbrev pub lines_found : Result (List ℕ) ErrorKind → List ℕ
lines_found (Ok bytes) = without_mark bytes ++ 10 ∷ []
lines_found (Err k) = []

abbrev pub lines_at : Texts → List ℕ → List ℕ
lines_at texts path = lines_found (texts.bytes_of path)

-- the lines of the files that decide last
abbrev pub lines_asked : Texts → Asked → List ℕ
lines_asked texts asked = flat_map (lines_at texts) (texts_of asked.ignore_files.items)
