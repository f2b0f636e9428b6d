-- What a rehearsal makes of a run of moves.
use Rattle.std.specs.Prelude.{◌≡◌, ℕ, ◌+◌, ◌≤◌, false, List, [], ◌∷◌, ◌++◌, length, map, take, drop, All, Contains, slice_get, Option, Some, Result, OnOk}
use Rattle.std.specs.List.{filter}
use Rattle.std.specs.Option.{option_map}
use Rattle.jwalk_order.specs.Frontier.{roots as root_addresses}
use Rattle.jwalk_order.specs.Addresses.{times}
use Rattle.jwalk_board.specs.Board.{Board, on_board, IsWhole}
use Rattle.jwalk_order.specs.Addressed.{Addressed, addresses_of, child_addresses}
use Rattle.jwalk_board.specs.Plan.{PlanTree, node, read, subtree, specs_in_preorder, readings_in_preorder}
use Rattle.jwalk_board.specs.Run.{Run, move, is_queued, in_hands}
use Rattle.jwalk_board.specs.declared.board.moves.Move.{Move}

-- what was handed out and taken, and the board
pub record Rehearsed (S R : Type 0) : Type 0 where
  pub handed_out : List (Addressed R)
  pub taken : List (List ℕ)
  pub board : Board S R

-- What follows, where these are all readings in preorder.
pub record IsInOrder {S R : Type 0} (all : List (Addressed R)) (m : Rehearsed S R) : Type 0 where
  pub count : ℕ
  -- What was handed out is a beginning of them.
  pub beginning : m.handed_out ≡ take count all
  -- No address was taken twice.
  pub once : (a : List ℕ) → times a m.taken ≤ 1
  -- It is all of them once nothing is left.
  pub whole : m.board.queued ≡ [] → m.board.in_hand ≡ [] → m.board.ready ≡ [] → m.handed_out ≡ all

-- a rehearsal under way, with what each worker holds
pub record Stage (S R : Type 0) : Type 0 where
  pub hands : List (Option (Addressed S))
  pub made : Rehearsed S R

-- the subtrees of these specifications, one after another
abbrev pub trees : {S R : Type 0} → PlanTree S R → List (Addressed S) → List (Addressed S)
trees t [] = []
trees t (x ∷ xs) = subtree t x.at x.value ++ trees t xs

module _ {S R : Type 0} (t : PlanTree S R) (roots : List S) where
  -- It is what the run leaves.
  pub record MatchesRun (r : Run) (m : Rehearsed S R) : Type 0 where
    pub handed_out : m.handed_out ≡ take r.handed_out (readings_in_preorder t roots)
    pub taken : m.taken ≡ r.taken
    -- The board has the run's addresses: those that are queued, in hand, and finished but not handed out.
    pub queued : (a : List ℕ) → times a (addresses_of m.board.queued) ≡ times a (filter (is_queued r) (addresses_of (specs_in_preorder t roots)))
    pub in_hand : (a : List ℕ) → times a m.board.in_hand ≡ times a (in_hands r.hands)
    pub ready : (a : List ℕ) → times a (addresses_of m.board.ready) + times a (take r.handed_out (addresses_of (specs_in_preorder t roots))) ≡ times a r.finished
    pub running : m.board.stopped ≡ false
    -- It has the plan's specifications, readings and counts.
    pub specs : All (λ x. Contains (specs_in_preorder t roots) (node t x.at x.value)) m.board.queued
    pub readings : All (Contains (readings_in_preorder t roots)) m.board.ready

  -- It is where the run is. What is finished has its specifications, and what is left to be handed out is the subtrees
  -- of the frontier.
  pub record Follows (r : Run) (st : Stage S R) : Type 0 where
    pub whole : IsWhole st.made.board
    pub running : st.made.board.stopped ≡ false
    pub taken : st.made.taken ≡ r.taken
    pub hands : map (option_map (λ x. x.at)) st.hands ≡ r.hands
    pub held_specs : (k : ℕ) (x : Addressed S) → slice_get st.hands k ≡ Some (Some x) → Contains (specs_in_preorder t roots) (node t x.at x.value)
    pub in_hand : (a : List ℕ) → times a st.made.board.in_hand ≡ times a (in_hands r.hands)
    pub specs : All (λ x. Contains (specs_in_preorder t roots) (node t x.at x.value)) st.made.board.queued
    pub readings : All (λ y. (x : Addressed S) × Contains (specs_in_preorder t roots) x × (y ≡ read t x)) st.made.board.ready
    pub done : List (Addressed S)
    pub done_there : All (Contains (specs_in_preorder t roots)) done
    pub done_are : addresses_of done ≡ r.finished
    pub each : (a : List ℕ) → times a (on_board st.made.board) + times a (take r.handed_out (addresses_of (specs_in_preorder t roots))) ≡ times a (root_addresses (length roots)) + times a (child_addresses done)
    pub finished : (a : List ℕ) → times a (addresses_of st.made.board.ready) + times a (take r.handed_out (addresses_of (specs_in_preorder t roots))) ≡ times a r.finished
    pub taken_are : (a : List ℕ) → times a r.taken ≡ times a st.made.board.in_hand + times a r.finished
    pub handed_out : st.made.handed_out ≡ map (read t) (take r.handed_out (specs_in_preorder t roots))
    pub left : List (Addressed S)
    pub left_are : drop r.handed_out (specs_in_preorder t roots) ≡ trees t left
    pub left_frontier : addresses_of left ≡ st.made.board.frontier

  -- A move led from one stage to another, if it was made: where a run is at the first, the run with this move is at the second.
  abbrev pub PlaysMove : {F : Type 0} → Move → Stage S R → Result (Unit {0}) F → Stage S R → Type 0
  PlaysMove next old result new = (r : Run) → Follows r old → OnOk result (Follows (move (addresses_of (specs_in_preorder t roots)) r next) new)
