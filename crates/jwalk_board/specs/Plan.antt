-- The readings of a tree of specifications, a parent before its children.
use Rattle.std.specs.Prelude.{ℕ, zero, suc, ◌+◌, ◌<◌, List, [], ◌∷◌, ◌++◌, length, map, All}
use Rattle.jwalk_order.specs.Addressed.{Addressed}

-- What a fixed plan returns for each specification.
pub record PlanTree (S R : Type 0) : Type 0 where
  pub reading : S → R
  pub children : S → List S
  pub height : S → ℕ

-- The children of a specification have smaller heights than it.
abbrev pub Falls : {S R : Type 0} → PlanTree S R → Type 0
Falls {S} t = (s : S) → All (λ c. t.height c < t.height s) (t.children s)

-- the trees of specifications at the children of an address, from an index on
abbrev pub forest : {S : Type 0} → (List ℕ → S → List (Addressed S)) → List ℕ → ℕ → List S → List (Addressed S)
forest subtree a i [] = []
forest subtree a i (s ∷ specs) = subtree (a ++ i ∷ []) s ++ forest subtree a (i + 1) specs

-- what is at addresses, without them
abbrev pub values : {V : Type 0} → List (Addressed V) → List V
values = map (λ x. x.value)

module _ {S R : Type 0} (t : PlanTree S R) where
  -- a specification at its address
  abbrev pub node : List ℕ → S → Addressed S
  node a s = record { at = a; value = s; child_count = length (t.children s) }

  -- its reading there
  abbrev pub read : Addressed S → Addressed R
  read x = record { at = x.at; value = t.reading x.value; child_count = x.child_count }

  -- a specification of less than this height, followed by all that lies below it
  abbrev pub subtree_within : ℕ → List ℕ → S → List (Addressed S)
  subtree_within zero a s = []
  subtree_within (suc n) a s = node a s ∷ forest (subtree_within n) a 0 (t.children s)

  abbrev pub subtree : List ℕ → S → List (Addressed S)
  subtree a s = subtree_within (suc (t.height s)) a s

  -- the specifications that lie at and below the roots
  abbrev pub specs_in_preorder : List S → List (Addressed S)
  specs_in_preorder roots = forest subtree [] 0 roots

  -- their readings
  abbrev pub readings_in_preorder : List S → List (Addressed R)
  readings_in_preorder roots = map read (specs_in_preorder roots)
