-- Trees of results, made of lines in which children come before their parents.
use Rattle.std.specs.Prelude.{◌≡◌, ℕ, ◌<◌, ◌≤◌, ◌^◌, ◌-◌, All, List, [], ◌∷◌, ◌++◌, length, drop, take, string_bytes, sum_by, min, Option, None, Some}
use Rattle.std.specs.List.Sorted.{IsPermutation, IsSortedByKey, IsStableByKey}
use Rattle.std.specs.Ordering.{nat_cmp}
use Rattle.tally_text.specs.declared.node.Node.{Node, out-Node}
use Rattle.tally_text.specs.declared.nodes.Nodes.{Nodes}
use Rattle.tally_text.specs.declared.numbers.Numbers.{Numbers}
use Rattle.tally_text.specs.declared.rest.Rest.{Rest}

-- the trees
abbrev pub trees_of : Nodes → List Node
trees_of nodes = nodes.trees.items

-- the greatest number of entries of a directory
abbrev pub largest_of : Nodes → Option ℕ
largest_of nodes = nodes.largest

-- the number of directories above a node
abbrev pub depth_of : Node → ℕ
depth_of node = (out-Node node).depth

-- the size of a node
abbrev pub bytes_of : Node → ℕ
bytes_of node = (out-Node node).numbers.bytes

-- From this place on all trees are deeper. The one before it isn't.
pub record IsFirstDeeper (trees : List Node) (depth first : ℕ) : Type 0 where
  pub within : first ≤ length trees
  pub deeper : All (λ tree. depth < depth_of tree) (drop first trees)
  pub ends : (front : List Node) (last : Node) → take first trees ≡ front ++ last ∷ [] → depth_of last ≤ depth

-- The new list has the nodes of the old one by size, the largest first. Nodes of equal size keep their order.
pub record AreBySize (old new : List Node) : Type 0 where
  pub same : IsPermutation old new
  pub sorted : IsSortedByKey bytes_of (λ a b. nat_cmp b a) new
  pub stable : IsStableByKey bytes_of (λ a b. nat_cmp b a) old new

-- the number of these nodes that are kept
abbrev pub kept_of : Option ℕ → List Node → ℕ
kept_of None nodes = length nodes
kept_of (Some largest) nodes = min largest (length nodes)

-- the number of nodes, and the sum of their sizes as far as 128 bits go
abbrev pub rest_of : List Node → Rest
rest_of nodes = record { count = length nodes; bytes = min (sum_by bytes_of nodes) (2 ^ 128 - 1) }

-- The children of a node are these nodes by size. Only the largest are kept if a number is given.
pub record HasChildren (largest : Option ℕ) (below : List Node) (node : Node) : Type 0 where
  pub sorted : List Node
  pub by_size : AreBySize below sorted
  pub children : (out-Node node).children.items ≡ take (kept_of largest sorted) sorted
  pub rest : (out-Node node).rest ≡ rest_of (drop (kept_of largest sorted) sorted)

-- A node is appended to the trees. The deeper ones at their end become its children.
pub record IsPushed (largest : Option ℕ) (depth : ℕ) (name : List ℕ) (numbers : Numbers) (old all : List Node) : Type 0 where
  pub first : ℕ
  pub node : Node
  pub is_first : IsFirstDeeper old depth first
  pub trees : all ≡ take first old ++ node ∷ []
  pub depth_is : depth_of node ≡ depth
  pub name_is : string_bytes (out-Node node).name ≡ name
  pub numbers_are : (out-Node node).numbers ≡ numbers
  pub has : HasChildren largest (drop first old) node

-- An entry is left out, and the deeper trees at the end with it.
pub record IsLeftOut (depth : ℕ) (old all : List Node) : Type 0 where
  pub first : ℕ
  pub is_first : IsFirstDeeper old depth first
  pub trees : all ≡ take first old
