-- Where the readings of a walk come from, and which specification is at an address.
use Rattle.std.specs.Prelude.{◌≡◌, ℕ, List, [], ◌∷◌, map, length, All, Option, Some, None, slice_get, IfOk, MatchResult}
use Rattle.jwalk_order.specs.Addressed.{Addressed}
use Rattle.jwalk_board.specs.Board.{Board}
use Rattle.jwalk_board.specs.declared.board.plan.Plan as Plan
use Rattle.tree_crew.specs.Message.{Message}

-- The plan that reads for a walk, and the specifications that the walk begins with.
pub record Origin (T J : Type 0) : Type 0 where
  pub plan : J
  pub roots : List T

module _ {X : Type 0} (below : X → List X) where
  -- what is reached from something by the indexes of children
  abbrev pub reached : Option X → List ℕ → Option X
  reached x [] = x
  reached None (i ∷ a) = None
  reached (Some x) (i ∷ a) = reached (slice_get (below x) i) a

  -- what is at an address, below these roots
  abbrev pub at_address : List X → List ℕ → Option X
  at_address roots [] = None
  at_address roots (i ∷ a) = reached (slice_get roots i) a

module _ {J A T U : Type 0} (p : Plan.Ghosts J A T U) where
  -- These specifications count as those, over all that the plan is fixed over.
  abbrev pub CountAlike : J → List T → List T → Type 0
  CountAlike plan these those = (given : p.Given) → p.IsFixed plan given → map (p.spec_value given) these ≡ map (p.spec_value given) those

  -- the specification at an address of the walk, as it counts over what is given
  abbrev pub spec_at : Origin T J → p.Given → List ℕ → Option p.SpecValue
  spec_at origin given = at_address (p.tree origin.plan given).children (map (p.spec_value given) origin.roots)

  -- Over all that the plan is fixed over, this is the specification at an address of the walk.
  abbrev pub IsAt : Origin T J → List ℕ → T → Type 0
  IsAt origin a s = (given : p.Given) → p.IsFixed origin.plan given → spec_at origin given a ≡ Some (p.spec_value given s)

  -- The reading of a specification by a plan, which came with this many children.
  pub record IsReadingWith (plan : J) (of : T) (count : ℕ) (reading : U) : Type 0 where
    pub children : List T
    pub made : p.IsReading plan of reading children
    pub count_is : count ≡ length children

  -- The message is of the walk's own plan, and of the specification at its address. Its number of children is that of those that its reading came with.
  pub record IsMessageOf (origin : Origin T J) (item : Addressed (Message T U J)) : Type 0 where
    pub plan : item.value.plan ≡ origin.plan
    pub at : IsAt origin item.at item.value.of
    pub reading : IfOk item.value.outcome (IsReadingWith origin.plan item.value.of item.child_count)

  -- All that is queued, and all that is ready, is the walk's own.
  pub record IsBoardOf (origin : Origin T J) (b : Board T (Message T U J)) : Type 0 where
    pub queued : All (λ x. IsAt origin x.at x.value) b.queued
    pub ready : All (IsMessageOf origin) b.ready

  -- What a worker made of the specification at an address of the walk, by the walk's own plan, and the specifications below it.
  pub record IsMadeAt (origin : Origin T J) (a : List ℕ) (message : Message T U J) (children : List T) : Type 0 where
    pub plan : message.plan ≡ origin.plan
    pub at : IsAt origin a message.of
    pub reading : MatchResult message.outcome (λ read. p.IsReading origin.plan message.of read children) (λ _. children ≡ [])
