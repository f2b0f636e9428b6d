-- The data of nodes.
use Rattle.std.proofs.Common.{◌≡◌, ◌∙◌, ℕ, ◌^◌, Bool, true, false, nat_lt, ◌||◌, List, [], ◌∷◌, map, refl, ap, ap₂, subst, sym, append_assoc, ◌++◌}
use Rattle.std.proofs.lemmas.List.{map-append}
use Rattle.std.specs.Prelude.{decimal, if◌then◌else◌}
use Rattle.serde_json.specs.Data.{Data, number, string, unsigned}
use Rattle.serde_json.specs.View.{items_of, items_view, view}
use Rattle.serde_json.specs.declared.value.Value.{Value}
use Rattle.serde_json.specs.Written.{has_float, items_have_float}
use Rattle.tally_text.specs.Document.{data_step, data_of, data_with, number_data}
use Rattle.tally_text.specs.declared.node.Node.{Node}
use Rattle.tally_text.specs.declared.node.Node.TheViews.{out-Node}
use Rattle.tally_text.specs.declared.node.Node.TheFolds.{fold-roll-Node, fold_out-Node, ind-Node}

pub data_out : (node : Node) → data_of node ≡ data_with (out-Node node) (items_of (map data_of (out-Node node).children.items))
data_out = fold_out-Node Data data_step

abbrev HasNoFloat : Node → Type 0
HasNoFloat node = has_float (data_of node) ≡ false

children_have_none : (nodes : List ((node : Node) × HasNoFloat node)) → items_have_float (items_of (map data_of (map (λ e. e.0) nodes))) ≡ false
children_have_none [] = refl
children_have_none (e ∷ nodes) = ap₂ (λ a b. a || b) e.1 (children_have_none nodes)

or_none : {a b : Bool} → a ≡ false → b ≡ false → (a || b) ≡ false
or_none {a} {b} left right = ap₂ (λ x y. x || y) left right

in_number : (n : ℕ) (few : Bool) → has_float (if few then number (unsigned n) else string (decimal n)) ≡ false
in_number n true = refl
in_number n false = refl

of_number : (n : ℕ) → has_float (number_data n) ≡ false
of_number n = in_number n (nat_lt n (2 ^ 64))

no_float : (node : Node) → HasNoFloat node
no_float = ind-Node HasNoFloat (λ x y is.
    let inner = subst (λ z. items_have_float (items_of (map data_of z.children.items)) ≡ false) is (children_have_none y.children.items) in
    let n = x.numbers in
    let all : (has_float (number_data n.bytes) || (items_have_float (items_of (map data_of x.children.items)) || (has_float (number_data n.dirs) || (has_float (number_data n.errors)
    || (has_float (number_data n.file_bytes) || (has_float (number_data n.files) || (has_float (number_data n.links) || (false || (has_float (number_data n.others) || false))))))))) ≡ false
    = or_none (of_number n.bytes) (or_none inner (or_none (of_number n.dirs) (or_none (of_number n.errors) (or_none (of_number n.file_bytes) (or_none (of_number n.files)
    (or_none (of_number n.links) (or_none refl (or_none (of_number n.others) refl)))))))) in
    ap has_float (fold-roll-Node Data data_step x) ∙ all)

-- no number in the data of trees is a float
pub none_has_float : (trees : List Node) → items_have_float (items_of (map data_of trees)) ≡ false
none_has_float [] = refl
none_has_float (tree ∷ trees) = ap₂ (λ a b. a || b) (no_float tree) (none_has_float trees)

-- one value more
pub one_value : (node : Node) (rest : List Node) (value : Value) (before after children : List Value) (all : List Data) → after ≡ before ++ value ∷ []
    → view value ≡ data_with (out-Node node) (items_view children) → map view children ≡ map data_of (out-Node node).children.items → map view before ++ map data_of (node ∷ rest) ≡ all
    → map view after ++ map data_of rest ≡ all
one_value node rest value before after children all pushed made below known =
    let is : view value ≡ data_of node = made ∙ ap (λ ds. data_with (out-Node node) (items_of ds)) below ∙ sym (data_out node) in
    ap (λ l. map view l ++ map data_of rest) pushed ∙ ap (λ l. l ++ map data_of rest) (map-append view before (value ∷ []))
    ∙ append_assoc (map view before) (view value ∷ []) (map data_of rest) ∙ ap (λ d. map view before ++ d ∷ map data_of rest) is ∙ known
