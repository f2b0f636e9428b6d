-- Siblings as one entry of a queue, which is at the address of the first of them.
use Rattle.std.specs.Prelude.{ℕ, ◌+◌, ◌-◌, ◌<◌, ◌^◌, List, [], ◌∷◌, ◌++◌, length, slice_index, take}
use Rattle.jwalk_order.specs.Addressed.{Addressed, numbered}

abbrev pub parent_address : List ℕ → List ℕ
parent_address a = take (length a - 1) a

abbrev pub last_index : List ℕ → ℕ
last_index a = slice_index a (length a - 1)

module _ {X V : Type 0} (values : X → List V) where
  -- the values of an entry, each at its own address
  abbrev pub siblings : Addressed X → List (Addressed V)
  siblings x = numbered (parent_address x.at) (last_index x.at) (values x.value)

  -- those of all entries
  abbrev pub all_siblings : List (Addressed X) → List (Addressed V)
  all_siblings [] = []
  all_siblings (x ∷ xs) = siblings x ++ all_siblings xs

  -- There is a value, and the indices of all fit.
  pub record AreSiblings (x : Addressed X) : Type 0 where
    pub below : 0 < length x.at
    pub some : 0 < length (values x.value)
    pub fit : last_index x.at + length (values x.value) < 2 ^ 64
