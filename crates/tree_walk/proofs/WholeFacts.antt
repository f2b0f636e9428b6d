-- The preorder of a tree, as a walk over a board gives it.
use Rattle.std.proofs.Common.{◌≡◌, ℕ, List, ◌∷◌, ◌++◌, map, sym, ap, ap₂, ◌∙◌}
use Rattle.std.specs.Prelude.{All, Option}
use Rattle.std.proofs.lemmas.List.{map-append}
use Rattle.std.proofs.lemmas.List.Elements.{All-append, All-weaker, All-head, All-tail}
use Rattle.std.proofs.lemmas.List.Sorted.{All-permutation}
use Rattle.jwalk_board.specs.Board.{Board}
use Rattle.jwalk_board.specs.Plan.{PlanTree, Falls}
use Rattle.jwalk_board.proofs.PreorderValues.{below, below-first}
use Rattle.tree_walk.specs.declared.read.Read.{Read}
use Rattle.tree_walk.specs.Reads.{IsSound, IsAsGiven}
use Rattle.tree_walk.specs.BoardWalk.{left_on, GivesFirst}

module _ {T R S Q : Type 0} (spec_value : T → S) (reading_value : R → Q) (t : PlanTree S Q) (is_reading : T → R → List T → Type 0) (given : (s : T) (r : R) (cs : List T) → is_reading s r cs → IsAsGiven spec_value reading_value t s r cs) where
  abbrev AsGiven : Read T R × List T → Type 0
  AsGiven = IsSound (IsAsGiven spec_value reading_value t)

  module _ (width : ℕ) (old new : Option (Board T (Read T R))) (o : R) (g : GivesFirst is_reading width old o new) (early : All AsGiven (left_on old).made) where
    all_given : All AsGiven ((g.read, g.children) ∷ (left_on new).made)
    all_given = All-permutation AsGiven (g.fresh ++ (left_on old).made) ((g.read, g.children) ∷ (left_on new).made) g.leaves (All-append AsGiven g.fresh (left_on old).made (All-weaker (IsSound is_reading) AsGiven (λ m s. given m.0.of m.0.reading m.1 s) g.fresh g.sound) early)

    pub stays_given : All AsGiven (left_on new).made
    stays_given = All-tail AsGiven (g.read, g.children) (left_on new).made all_given

    -- What is given is the first reading of what is left, and the others are left after it.
    pub first_given : Falls t → map t.reading (below t (map spec_value (left_on old).to_read)) ≡ reading_value o ∷ map t.reading (below t (map spec_value (left_on new).to_read))
    first_given falls =
        let mine = All-head AsGiven (g.read, g.children) (left_on new).made all_given in
        let was : map spec_value (left_on old).to_read ≡ spec_value g.read.of ∷ map spec_value g.rest = ap (map spec_value) g.took in
        let now : map spec_value (left_on new).to_read ≡ t.children (spec_value g.read.of) ++ map spec_value g.rest = ap (map spec_value) g.left ∙ map-append spec_value g.children g.rest ∙ ap (λ l. l ++ map spec_value g.rest) mine.same_children in
        ap (λ l. map t.reading (below t l)) was
        ∙ ap (map t.reading) (below-first t falls (spec_value g.read.of) (map spec_value g.rest))
        ∙ ap₂ (λ x l. x ∷ map t.reading (below t l)) (sym mine.same_reading ∙ ap reading_value g.of) (sym now)
