-- The equations of what is written for a node.
use Rattle.std.proofs.Common.{◌≡◌, ◌∙◌, ℕ, ◌++◌, List, ◌∷◌, append_assoc, max, map, ap, sym}
use Rattle.std.specs.List.{concat}
use Rattle.tally_text.specs.Table.{own_row, rows_step, rows_of, below_text, columns_of, longest_step, longest_of, most_of, rest_columns}
use Rattle.tally_text.specs.declared.layout.Layout.{Layout}
use Rattle.tally_text.specs.declared.node.Node.{Node}
use Rattle.tally_text.specs.declared.node.Node.TheViews.{out-Node}
use Rattle.tally_text.specs.declared.node.Node.TheFolds.{fold_out-Node}

pub rows_out : (layout : Layout) (node : Node) → rows_of layout node ≡ own_row layout node ++ below_text layout node
rows_out layout = fold_out-Node (List ℕ) (rows_step layout)

pub longest_out : (node : Node) → longest_of node ≡ max (max (columns_of node) (rest_columns (out-Node node).depth (out-Node node).rest)) (most_of (map longest_of (out-Node node).children.items))
longest_out = fold_out-Node ℕ longest_step

-- the rows of one child more
pub one_more : (layout : Layout) (child : Node) (rest : List Node) (before between after all : List ℕ) → between ≡ before ++ own_row layout child → after ≡ between ++ below_text layout child
    → before ++ concat (map (rows_of layout) (child ∷ rest)) ≡ all → after ++ concat (map (rows_of layout) rest) ≡ all
one_more layout child rest before between after all own below known =
    let left = concat (map (rows_of layout) rest) in
    let one : after ≡ before ++ rows_of layout child
    = below ∙ ap (λ l. l ++ below_text layout child) own ∙ append_assoc before (own_row layout child) (below_text layout child) ∙ ap (λ l. before ++ l) (sym (rows_out layout child)) in
    ap (λ l. l ++ left) one ∙ append_assoc before (rows_of layout child) left ∙ known
