-- Absolute paths.
use Rattle.std.specs.Prelude.{ℕ, List, [], ◌++◌, if◌then◌else◌}
use Rattle.jwalk_model.specs.Paths.{join, starts_with_slash}
use Rattle.program_parts.specs.Paths.{without_here}

-- the text in front of a path: nothing if it is absolute
abbrev pub front_before : List ℕ → List ℕ → List ℕ
front_before front path = if starts_with_slash path then [] else front

-- the absolute path of a name in a folder
abbrev pub absolute_path : List ℕ → List ℕ → List ℕ → List ℕ
absolute_path front folder name = let path = join (without_here folder) name in front_before front path ++ path
