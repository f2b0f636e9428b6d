use Rattle.std.proofs.Common.{rules, ◌≡◌, ◌≢◌, ◌∙◌, [], sym, inr}
use Rattle.std.proofs.lemmas.Bool.{false≢true}
use Rattle.jwalk_board.proofs.Skips.{skipped}
use Rattle.jwalk_board.proofs.board.Board.skip_next.Goals as goal

pub invariant_of-self : goal.invariant_of-self
invariant_of-self g c =
    let some : c.self.inside.matcher ≢ [] = λ empty. false≢true (sym c.if-not-is_none.true ∙ c.is_none.ensures.1 empty) in
    (skipped _ c.self.invariant some _ c.looking_for-next.ensures _ _ _ _ c.remove_within.ensures c.remove_within-then-not-is_none.ensures c.remove_within-then-not-is_none-2.ensures c.go_on.ensures).whole

pub returns-then-not-is_none : goal.returns-then-not-is_none
returns-then-not-is_none g c =
    let some : c.self.inside.matcher ≢ [] = λ empty. false≢true (sym c.if-not-is_none.true ∙ c.is_none.ensures.1 empty) in
    rw (← c.self.view_is)
    (inr (skipped _ c.self.invariant some _ c.looking_for-next.ensures _ _ _ _ c.remove_within.ensures c.remove_within-then-not-is_none.ensures c.remove_within-then-not-is_none-2.ensures c.go_on.ensures).skips)
