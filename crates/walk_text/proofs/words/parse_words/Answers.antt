use Rattle.std.proofs.Common.{[], ◌∷◌, ◌++◌, map, string_bytes, arith, ap, sym, ◌∙◌}
use Rattle.std.proofs.lemmas.List.{length-map, map-append}
use Rattle.walk_text.proofs.Texts.{on_none}
use Rattle.walk_text.proofs.WordFacts.{no_root, bad_options, asks_one}
use Rattle.walk_text.proofs.words.parse_words.Goals as goal

pub returns-in_err-root-clause-none : goal.returns-in_err-root-clause-none
returns-in_err-root-clause-none g c =
    let words = c.args.words.now in
    on_none _ (no_root (map string_bytes words) (omega (arith, c.in_err-root.ensures.cases, length-map words string_bytes)))

pub returns-in_err-asked-clause-none : goal.returns-in_err-asked-clause-none
returns-in_err-asked-clause-none g c =
    let options = c.in_ok-root.options.now in
    let last = c.in_ok-root.root.now in
    let is = ap (map string_bytes) c.in_ok-root.ensures.cases.0 ∙ map-append string_bytes options (last ∷ []) in
    on_none _ (bad_options (map string_bytes c.args.words.now) (map string_bytes options) (string_bytes last) is c.in_err-asked.ensures.none)

pub returns-clause-some : goal.returns-clause-some
returns-clause-some g c =
    let options = c.in_ok-root.options.now in
    let last = c.in_ok-root.root.now in
    let is = ap (map string_bytes) c.in_ok-root.ensures.cases.0 ∙ (map-append string_bytes options (last ∷ []) ∙ ap (λ l. map string_bytes options ++ l ∷ []) (sym c.as_str.ensures.value)) in
    (map string_bytes options, is, c.in_ok-asked.ensures.some)

pub returns-clause-only : goal.returns-clause-only
returns-clause-only g c = λ asked root ask.
    let options = c.in_ok-root.options.now in
    let last = c.in_ok-root.root.now in
    let is = ap (map string_bytes) c.in_ok-root.ensures.cases.0 ∙ map-append string_bytes options (last ∷ []) in
    let one = asks_one (map string_bytes c.args.words.now) (map string_bytes options) (string_bytes last) is c.in_ok-asked.asked c.in_ok-asked.ensures.only asked root ask in
    (one.0, one.1 ∙ sym c.as_str.ensures.value)
