-- The written form of a path.
use Rattle.std.specs.Prelude.{ℕ, List, [], ◌∷◌, ◌++◌, take, drop, bytes_eq, codes, if◌then◌else◌}
use Rattle.jwalk_model.specs.Paths.{join, dot}
use Rattle.program_parts.specs.Masked.{masked}
use Rattle.program_parts.specs.declared.paths.Style.{Style}

-- the path of a folder without the `.` or the `./` that it begins with
abbrev pub without_here : List ℕ → List ℕ
without_here folder =
    if bytes_eq folder dot then [] else if bytes_eq (take 2 folder) (codes "./") then drop 2 folder else folder

-- the written form of the path of a folder: without the folder that the program runs in, if that is the root and wasn't
-- named
abbrev pub shown_folder : Style → List ℕ → List ℕ
shown_folder style folder = if style.here then without_here folder else folder

-- the written form of a text: with a question mark for each control character, if it is for a terminal
abbrev pub shown_text : Style → List ℕ → List ℕ
shown_text style text = if style.to_terminal then masked text else text

-- the line of a path: the path, and the separator
abbrev pub text_line : Style → List ℕ → List ℕ
text_line style path = shown_text style path ++ style.separator ∷ []

-- the line of a name in a folder: the path, and the separator
abbrev pub line_of : Style → List ℕ → List ℕ → List ℕ
line_of style folder name = join (shown_text style (shown_folder style folder)) (shown_text style name) ++ style.separator ∷ []
