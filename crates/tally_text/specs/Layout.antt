-- Rows of a table.
use Rattle.std.specs.Prelude.{ℕ, zero, suc, ◌*◌, ◌-◌, ◌/◌, ◌^◌, ◌==◌, min, List, [], ◌∷◌, ◌++◌, length, codes, if◌then◌else◌}
use Rattle.program_parts.specs.Masked.{masked}
use Rattle.tally_text.specs.declared.layout.Layout.{Layout}
use Rattle.tally_text.specs.Scale.{size_text}

-- a text, repeated
abbrev pub repeated : ℕ → List ℕ → List ℕ
repeated zero text = []
repeated (suc n) text = repeated n text ++ text

-- the number of marks of a size in a bar: its share of the total, rounded down; a product beyond 128 bits counts as the
-- greatest number of 128 bits
abbrev pub marks_of : Layout → ℕ → ℕ
marks_of layout bytes =
    if layout.total == 0 then 0 else min (min (bytes * layout.bar) (2 ^ 128 - 1) / layout.total) layout.bar

-- the bar of a size, and two spaces; nothing if there are no bars
abbrev pub bar_text : Layout → ℕ → List ℕ
bar_text layout bytes =
    if layout.bar == 0 then [] else repeated (marks_of layout bytes) (codes "#") ++ repeated (layout.bar - marks_of layout bytes) (codes ".") ++ repeated 2 (codes " ")

-- a size at the end of its column
abbrev pub size_column : Layout → ℕ → List ℕ
size_column layout bytes =
    repeated (layout.column - length (size_text layout.scale bytes)) (codes " ") ++ size_text layout.scale bytes

-- the written form of a name, with a question mark for each control character if it is for a terminal
abbrev pub shown_name : Layout → List ℕ → List ℕ
shown_name layout name = if layout.to_terminal then masked name else name

-- the text in front of a name: the size, two spaces and the bar
abbrev pub front_text : Layout → ℕ → List ℕ
front_text layout bytes = size_column layout bytes ++ repeated 2 (codes " ") ++ bar_text layout bytes

-- two spaces for each level, a name, and a line feed
abbrev pub label_text : Layout → ℕ → List ℕ → List ℕ
label_text layout levels name = repeated levels (codes "  ") ++ shown_name layout name ++ 10 ∷ []

-- the row of a size and of a name
abbrev pub row_text : Layout → ℕ → ℕ → List ℕ → List ℕ
row_text layout levels bytes name = front_text layout bytes ++ label_text layout levels name
