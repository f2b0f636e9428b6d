use Rattle.std.proofs.Common.{◌≡◌, ◌++◌, map, List, ap, sym, refl, ◌∙◌, append_assoc, option_to_list}
use Rattle.std.specs.List.{filter_map}
use Rattle.jwalk_ignore_rules.specs.Pattern.{Pattern, pattern_in, pattern_value}
use Rattle.jwalk_ignore_rules.specs.Rules.Line.{lines_of, pattern_of_line}
use Rattle.jwalk_ignore_rules.proofs.PiecesFacts.{first_line}
use Rattle.jwalk_ignore_rules.proofs.rules.Rules.parse.Goals as goal

pub lines-preserved : goal.lines-preserved
lines-preserved g c =
    let old : List Pattern = map pattern_value c.lines.patterns.items.items in
    let others : List Pattern = filter_map pattern_of_line (lines_of c.split_piece.result.1.now) in
    let found : option_to_list _ ≡ option_to_list (pattern_of_line c.split_piece.result.0.now) = ap option_to_list (c.in_ok-pattern.ensures ∙ ap pattern_in c.text_of.ensures) in
    c.lines.invariant
    ∙ ap (λ (ys : List Pattern). old ++ ys) (first_line pattern_of_line refl c.lines.rest.now c.split_piece.result.0.now c.split_piece.result.1.now c.split_piece.ensures.piece c.split_piece.ensures.behind)
    ∙ sym (append_assoc old (option_to_list (pattern_of_line c.split_piece.result.0.now)) others)
    ∙ ap (λ (ys : List Pattern). ys ++ others) (ap (λ (ys : List Pattern). old ++ ys) (sym found) ∙ sym c.in_ok-push_some.ensures)
