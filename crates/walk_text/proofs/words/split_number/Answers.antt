use Rattle.std.proofs.Common.{◌∷◌, map, string_bytes, sym, ap, ◌∙◌, arith}
use Rattle.std.proofs.lemmas.List.{length-map}
use Rattle.walk_text.proofs.Texts.{on_none}
use Rattle.walk_text.proofs.WordFacts.{no_first_word, no_number}
use Rattle.walk_text.proofs.words.split_number.Goals as goal

pub returns-in_err-word-clause-none : goal.returns-in_err-word-clause-none
returns-in_err-word-clause-none g c =
    let words = c.args.words.now in
    on_none _ (no_first_word (map string_bytes words) (omega (arith, c.in_err-word.ensures.cases, length-map words string_bytes)))

pub returns-in_err-number-clause-none : goal.returns-in_err-number-clause-none
returns-in_err-number-clause-none g c =
    let others = map string_bytes c.in_ok-word.others.now in
    let is = ap (map string_bytes) c.in_ok-word.ensures.cases.0 ∙ ap (λ word. word ∷ others) (sym c.as_str.ensures.value) in
    on_none _ (no_number (map string_bytes c.args.words.now) c.as_str.result.now others is c.in_err-number.ensures)

pub returns-clause-some : goal.returns-clause-some
returns-clause-some g c =
    let others = map string_bytes c.in_ok-word.others.now in
    let is = ap (map string_bytes) c.in_ok-word.ensures.cases.0 ∙ ap (λ word. word ∷ others) (sym c.as_str.ensures.value) in
    (c.as_str.result.now, is, c.in_ok-number.ensures.0, sym c.in_ok-number.ensures.1)
