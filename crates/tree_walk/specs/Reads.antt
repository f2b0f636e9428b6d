-- Readings on a board.
use Rattle.std.specs.Prelude.{◌≡◌, ◌≤◌, ℕ, List, ◌++◌, length, map, All}
use Rattle.std.specs.List.Sorted.{IsPermutation}
use Rattle.jwalk_board.specs.Board.{Board}
use Rattle.jwalk_board.specs.Plan.{PlanTree}
use Rattle.jwalk_order.specs.Addressed.{Addressed}
use Rattle.tree_walk.specs.declared.read.Read.{Read}
use Rattle.tree_walk.specs.ToGive as board
use Rattle.tree_walk.specs.ToGive.{ToGive}

module _ {T R : Type 0} where
  -- which specification a reading is of
  abbrev pub spec_of : Read T R → T
  spec_of q = q.of

  -- what a board still has to give, while its takers hold these
  abbrev pub to_give : Board T (Read T R) → List (Addressed T) → ToGive (Read T R) T
  to_give = board.to_give (λ s. s) spec_of

  module _ (is_reading : T → R → List T → Type 0) where
    -- It is a reading of its specification, and comes with that one's children.
    abbrev pub IsSound : Read T R × List T → Type 0
    IsSound made = is_reading made.0.of made.0.reading made.1

    -- Some readings are made, at most this many, and what is to be read stays the same.
    pub record ReadsSome (width : ℕ) (old new : ToGive (Read T R) T) : Type 0 where
      pub readings : List (Read T R × List T)
      pub few : length readings ≤ width
      pub sound : All IsSound readings
      pub same : new.to_read ≡ old.to_read
      pub join : IsPermutation (readings ++ old.made) new.made

-- It is the reading of its specification in a fixed plan's tree, with the children there.
pub record IsAsGiven {T R S Q : Type 0} (spec_value : T → S) (reading_value : R → Q) (t : PlanTree S Q) (of : T) (reading : R) (children : List T) : Type 0 where
  pub same_reading : reading_value reading ≡ t.reading (spec_value of)
  pub same_children : map spec_value children ≡ t.children (spec_value of)
