use Rattle.std.proofs.Common.{List, ℕ, ◌∷◌, map, string_bytes, sym, ap, ◌∙◌, arith, subst}
use Rattle.std.proofs.lemmas.List.{length-map}
use Rattle.walk_text.specs.declared.asked.Choice.{Choice}
use Rattle.walk_text.specs.Words.{Begin}
use Rattle.walk_text.proofs.Texts.{on_none}
use Rattle.walk_text.proofs.WordFacts.{fewer_behind, no_option}
use Rattle.walk_text.proofs.words.split_option.Goals as goal

pub returns-in_err-name-clause-none : goal.returns-in_err-name-clause-none
returns-in_err-name-clause-none g c =
    let words = c.args.words.now in
    let none : (choice : Choice) (others : List (List ℕ)) → ¬ (Begin (map string_bytes words) choice others) = λ choice others begin. absurd (omega (arith, fewer_behind (map string_bytes words) choice others begin, c.in_err-name.ensures.cases, length-map words string_bytes)) in
    on_none _ none

pub returns-in-Some-clause-some : goal.returns-in-Some-clause-some
returns-in-Some-clause-some g c =
    let behind = map string_bytes c.in_ok-name.behind.now in
    let is = ap (map string_bytes) c.in_ok-name.ensures.cases.0 ∙ ap (λ name. name ∷ behind) (sym c.as_str-name.ensures.value) in
    subst (λ words. Begin words c.in-Some.choice behind) (sym is) (c.in-Some.ensures.some behind)

pub returns-in_err-number-clause-none : goal.returns-in_err-number-clause-none
returns-in_err-number-clause-none g c =
    let behind = map string_bytes c.in_ok-name.behind.now in
    let is = ap (map string_bytes) c.in_ok-name.ensures.cases.0 ∙ ap (λ name. name ∷ behind) (sym c.as_str-name.ensures.value) in
    on_none _ (no_option (map string_bytes c.args.words.now) c.as_str-name.result.now behind is c.in_default.ensures.none (λ n others begin choice. absurd (c.in_err-number.ensures.none n others begin)))

pub returns-in_err-numbered_option-clause-none : goal.returns-in_err-numbered_option-clause-none
returns-in_err-numbered_option-clause-none g c =
    let behind = map string_bytes c.in_ok-name.behind.now in
    let is = ap (map string_bytes) c.in_ok-name.ensures.cases.0 ∙ ap (λ name. name ∷ behind) (sym c.as_str-name.ensures.value) in
    on_none _ (no_option (map string_bytes c.args.words.now) c.as_str-name.result.now behind is c.in_default.ensures.none (λ n others. c.in_err-numbered_option.ensures.none n behind others))

pub returns-clause-some : goal.returns-clause-some
returns-clause-some g c =
    let behind = map string_bytes c.in_ok-name.behind.now in
    let others = map string_bytes c.in_ok-number.others.now in
    let is = ap (map string_bytes) c.in_ok-name.ensures.cases.0 ∙ ap (λ name. name ∷ behind) (sym c.as_str-name.ensures.value) in
    subst (λ words. Begin words c.in_ok-numbered_option.field-0 others) (sym is) (c.in_ok-numbered_option.ensures.some behind others c.in_ok-number.ensures.some)
