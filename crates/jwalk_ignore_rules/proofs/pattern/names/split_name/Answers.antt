use Rattle.std.proofs.Common.{◌≡◌, ℕ, List, length, true, false, ap, ◌∙◌}
use Rattle.std.specs.Bool.{◌==◌}
use Rattle.jwalk_ignore_rules.proofs.PiecesFacts.{first_name}
use Rattle.jwalk_ignore_rules.proofs.pattern.names.split_name.Goals as goal

pub returns-then-not-is_empty-clause-names : goal.returns-then-not-is_empty-clause-names
returns-then-not-is_empty-clause-names c =
    c.loop-rest.invariant.same
    ∙ first_name c.loop-rest.rest.now c.split_piece.result.0.now c.split_piece.result.1.now
    (λ none. let clash : false ≡ true = c.if-not-is_empty.ensures ∙ ap (λ (xs : List ℕ). length xs == 0) none in cc)
    c.split_piece.ensures.piece c.split_piece.ensures.behind
