-- How an address and a stack of counts give a frontier.
use Rattle.std.specs.Prelude.{◌≡◌, ℕ, ◌+◌, ◌<◌, ◌^◌, List, [], ◌∷◌, ◌++◌, length, slice_index}
use Rattle.jwalk_order.specs.Frontier.{children_from}

-- The siblings behind each index of an address, those of the deepest first. The counts say how many each has.
abbrev pub siblings : List ℕ → List ℕ → List ℕ → List (List ℕ)
siblings parent [] counts = []
siblings parent (i ∷ indices) [] = []
siblings parent (i ∷ indices) (count ∷ counts) =
    siblings (parent ++ i ∷ []) indices counts ++ children_from (i + 1) parent count

-- the address itself, and then those siblings
abbrev pub frontier_of : List ℕ → List ℕ → List (List ℕ)
frontier_of [] counts = []
frontier_of (i ∷ indices) counts = (i ∷ indices) ∷ siblings [] (i ∷ indices) counts

-- Each index has a count, and the indices of all siblings fit.
pub record IsPaired (indices counts : List ℕ) : Type 0 where
  pub same : length indices ≡ length counts
  pub room : (k : ℕ) → k < length indices → slice_index indices k + slice_index counts k + 1 < 2 ^ 64
