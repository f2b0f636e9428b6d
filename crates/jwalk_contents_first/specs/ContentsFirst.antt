-- The items of a list by their depths, each entry behind what is below it (`walkdir`'s `contents_first`).
use Rattle.std.specs.Prelude.{◌≡◌, ◌==◌, ℕ, zero, suc, Bool, true, false, nat_lt, List, [], ◌∷◌, ◌++◌, length, Ok, Err, if◌then◌else◌, IsPermutation}
use Rattle.std.specs.List.{filter}
use Rattle.jwalk_model.specs.Error as value
use Rattle.jwalk_model.specs.Error.{Failure}
use Rattle.jwalk_model.specs.Entry.{Entry, Item}
use Rattle.jwalk_job.specs.Error.{depth_of}

-- whether an error of a walk is one with which the walk ends: memory ran out, or it reports on a crew
abbrev pub ends_walk : Failure → Bool
ends_walk (value.io depth path kind) = false
ends_walk (value.unnamed depth directory kind) = false
ends_walk (value.looped depth ancestor child) = false
ends_walk value.busy = true
ends_walk value.memory = true
ends_walk value.lost = true

module _ {R E : Type 0} where
  -- the depth of an item
  abbrev pub depth_at : Item R E → ℕ
  depth_at (Ok e) = e.depth
  depth_at (Err f) = depth_of f

  -- what is below an entry at this depth of the items that come behind it: those up to the first that isn't deeper
  abbrev pub below : ℕ → List (Item R E) → List (Item R E)
  below depth [] = []
  below depth (x ∷ l) = if nat_lt depth (depth_at x) then x ∷ below depth l else []

  -- the items behind those
  abbrev pub beyond : ℕ → List (Item R E) → List (Item R E)
  beyond depth [] = []
  beyond depth (x ∷ l) = if nat_lt depth (depth_at x) then beyond depth l else x ∷ l

  -- of the first items, as many as the number says, each entry behind what is below it
  abbrev pub each_behind : ℕ → List (Item R E) → List (Item R E)
  each_behind zero l = []
  each_behind (suc n) [] = []
  each_behind (suc n) (Err f ∷ l) = Err f ∷ each_behind n l
  each_behind (suc n) (Ok e ∷ l) = each_behind n (below e.depth l) ++ (Ok e ∷ each_behind n (beyond e.depth l))

  -- the items, each entry behind what is below it
  abbrev pub contents_first : List (Item R E) → List (Item R E)
  contents_first l = each_behind (length l) l

  -- whether an item is at this depth
  abbrev pub is_at : ℕ → Item R E → Bool
  is_at depth x = depth_at x == depth

-- The items are the same, each as often.
abbrev pub SameItems : Type 0 → Type 0 → Type 0
SameItems R E = (l : List (Item R E)) → IsPermutation l (contents_first l)

-- The items at each depth keep their order: so do those that lie beside each other in one directory.
abbrev pub DepthsKeepOrder : Type 0 → Type 0 → Type 0
DepthsKeepOrder R E = (depth : ℕ) (l : List (Item R E)) → filter (is_at depth) (contents_first l) ≡ filter (is_at depth) l

-- What is below an entry comes right before it, each entry behind what is below it.
abbrev pub ContentsComeBefore : Type 0 → Type 0 → Type 0
ContentsComeBefore R E = (ahead : List (Item R E)) (e : Entry R E) (behind : List (Item R E))
    → (first last : List (Item R E)) × (contents_first (ahead ++ (Ok e ∷ behind)) ≡ first ++ (contents_first (below e.depth behind) ++ (Ok e ∷ last)))
