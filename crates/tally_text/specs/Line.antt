-- Lines of a size and a path.
use Rattle.std.specs.Prelude.{ℕ, List, ◌∷◌, ◌++◌}
use Rattle.program_parts.specs.declared.paths.Style.{Style}
use Rattle.program_parts.specs.Paths.{line_of as path_line}
use Rattle.tally_text.specs.declared.scale.Scale.{Scale}
use Rattle.tally_text.specs.Scale.{size_text}

-- the line of a name in a folder: the size, a tab, and the path with what ends it
abbrev pub line_of : Scale → Style → ℕ → List ℕ → List ℕ → List ℕ
line_of scale style bytes folder name = size_text scale bytes ++ 9 ∷ path_line style folder name
