-- The lines of differences.
use Rattle.std.specs.Prelude.{ℕ, Bool, true, ◌==◌, List, [], ◌∷◌, ◌++◌, flat_map, codes, string_bytes, if◌then◌else◌}
use Rattle.jwalk_changes.specs.declared.change.Change.TheVariants.{Added, Removed, Changed}
use Rattle.jwalk_changes.specs.declared.facts.Which.{Which}
use Rattle.program_parts.specs.declared.paths.Style.{Style}
use Rattle.program_parts.specs.Paths.{shown_text}
use Rattle.since_parts.specs.Differences.{Difference}
use Rattle.since_parts.specs.Held.{seen_in}

-- what a line begins with: + for what was added, - for what was removed, ~ for what changed
abbrev pub sign : Difference → ℕ
sign (Added found) = 43
sign (Removed old) = 45
sign (Changed old found which) = 126

-- the path that it is about
abbrev pub path_in : Difference → List ℕ
path_in (Added found) = string_bytes found.now.path
path_in (Removed old) = (seen_in old).path
path_in (Changed old found which) = string_bytes found.now.path

-- `./` in front of a path that begins with `-`, in lines that end with a zero byte
abbrev pub front : Style → List ℕ → List ℕ
front style [] = []
front style (c ∷ cs) = if c == 45 then (if style.separator == 0 then codes "./" else []) else []

-- a path as it is written
abbrev pub path_text : Style → List ℕ → List ℕ
path_text style path = front style path ++ shown_text style path

-- a word behind a tab, or nothing
abbrev pub word_if : Bool → List ℕ → List ℕ
word_if differs word = if differs then 9 ∷ word else []

-- the words for what differs
abbrev pub which_text : Which → List ℕ
which_text w =
    word_if w.file_type (codes "type") ++ word_if w.len (codes "length") ++ word_if w.modified (codes "time") ++ word_if w.inode (codes "number")

-- the same of a change, if that is asked for
abbrev pub told_of : Bool → Difference → List ℕ
told_of true (Changed old found which) = which_text which
told_of _ _ = []

-- the line of a difference: its sign, a space, the path, what differs, and what ends a line
abbrev pub line_of : Style → Bool → Difference → List ℕ
line_of style long change =
    sign change ∷ 32 ∷ path_text style (path_in change) ++ told_of long change ++ style.separator ∷ []

-- the lines of differences
abbrev pub lines_of : Style → Bool → List Difference → List ℕ
lines_of style long = flat_map (line_of style long)
