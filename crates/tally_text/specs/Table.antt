-- A table: the rows of a tree, and its total.
use Rattle.std.specs.Prelude.{ℕ, ◌*◌, ◌+◌, ◌-◌, ◌^◌, ◌==◌, Bool, max, min, List, [], ◌∷◌, ◌++◌, length, map, codes, decimal, string_bytes, Option, None, Some, if◌then◌else◌}
use Rattle.std.specs.List.{concat}
use Rattle.std.specs.Str.{chars}
use Rattle.tally_text.specs.Layout.{row_text}
use Rattle.tally_text.specs.Scale.{size_text}
use Rattle.tally_text.specs.declared.layout.Layout.{Layout}
use Rattle.tally_text.specs.declared.node.Node.{Node}
use Rattle.tally_text.specs.declared.node.Node.TheOpen.{Node-F}
use Rattle.tally_text.specs.declared.node.Node.TheViews.{out-Node}
use Rattle.tally_text.specs.declared.node.Node.TheFolds.{fold-Node}
use Rattle.tally_text.specs.declared.rest.Rest.{Rest}
use Rattle.tally_text.specs.declared.scale.Scale.{Scale}

-- the row of a node, at the level of its depth below the root's entries
abbrev pub own_row : Layout → Node → List ℕ
own_row layout node =
    row_text layout ((out-Node node).depth - 1) (out-Node node).numbers.bytes (string_bytes (out-Node node).name)

-- what is said of the entries of a directory beyond its largest ones
abbrev pub rest_name : Rest → List ℕ
rest_name rest = codes "(" ++ decimal rest.count ++ codes " more)"

-- the row of these entries, if there are any
abbrev pub rest_row : Layout → ℕ → Rest → List ℕ
rest_row layout levels rest =
    if rest.count == 0 then [] else row_text layout levels rest.bytes (rest_name rest)

-- one node: its row, and the rows of its children, each with those below it
abbrev pub rows_step : Layout → Node-F (List ℕ) → List ℕ
rows_step layout n =
    row_text layout (n.depth - 1) n.numbers.bytes (string_bytes n.name) ++ (concat n.children.items ++ rest_row layout n.depth n.rest)

-- the rows of a node and of everything below it
abbrev pub rows_of : Layout → Node → List ℕ
rows_of layout = fold-Node (List ℕ) (rows_step layout)

-- the rows of everything below a node
abbrev pub below_text : Layout → Node → List ℕ
below_text layout node =
    concat (map (rows_of layout) (out-Node node).children.items) ++ rest_row layout (out-Node node).depth (out-Node node).rest

-- the greatest of these numbers
abbrev pub most_of : List ℕ → ℕ
most_of [] = 0
most_of (n ∷ ns) = max n (most_of ns)

-- the columns of a name with the spaces before it: two for each level, and one for each character, as far as 64 bits go
abbrev pub columns_in : ℕ → List ℕ → ℕ
columns_in levels name = min (length (chars name) + min (levels * 2) (2 ^ 64 - 1)) (2 ^ 64 - 1)

-- the columns of the name of a node
abbrev pub columns_of : Node → ℕ
columns_of node = columns_in ((out-Node node).depth - 1) (string_bytes (out-Node node).name)

-- the columns of what is said of the entries beyond the largest ones, if there are any
abbrev pub rest_columns : ℕ → Rest → ℕ
rest_columns levels rest = if rest.count == 0 then 0 else columns_in levels (rest_name rest)

-- one node: the most columns of its rows and of those below it
abbrev pub longest_step : Node-F ℕ → ℕ
longest_step n = max (max (columns_in (n.depth - 1) (string_bytes n.name)) (rest_columns n.depth n.rest)) (most_of n.children.items)

-- the most columns of a row in a tree
abbrev pub longest_of : Node → ℕ
longest_of = fold-Node ℕ longest_step

-- the columns of a size: those of the root's size, at least eight
abbrev pub column_for : Scale → Node → ℕ
column_for scale root = max (length (size_text scale (out-Node root).numbers.bytes)) 8

-- the columns that are left for bars in a row of this width
abbrev pub bar_for : Scale → Option ℕ → Node → ℕ
bar_for scale None root = 0
bar_for scale (Some width) root = width - longest_of root - column_for scale root - 4

-- the layout of a table
abbrev pub layout_for : Scale → Option ℕ → Bool → Node → Layout
layout_for scale width to_terminal root =
    record {
      scale = scale;
      column = column_for scale root;
      bar = bar_for scale width root;
      total = (out-Node root).numbers.bytes;
      to_terminal = to_terminal;
    }

-- the table of a tree: the rows of everything below the root, and then the total
abbrev pub table_text : Layout → Node → List ℕ
table_text layout root = below_text layout root ++ own_row layout root
