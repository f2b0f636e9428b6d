use Rattle.std.proofs.Common.{◌≡◌, ◌∙◌, map, ap}
use Rattle.std.proofs.lemmas.Result.{IfOk-weaker}
use Rattle.serde_json.specs.Data.{array}
use Rattle.serde_json.specs.View.{items_of, view}
use Rattle.serde_json.specs.Written.{compact_text, has_float}
use Rattle.tally_text.specs.Document.{data_of}
use Rattle.tally_text.proofs.DocumentFacts.{none_has_float}
use Rattle.tally_text.proofs.document.document.Goals as goal

pub returns : goal.returns
returns c =
    let seen : view c.array_of.result ≡ array (items_of (map data_of c.args.trees.now)) = c.array_of.ensures ∙ ap (λ ds. array (items_of ds)) c.in_ok-values.ensures in
    IfOk-weaker c.to_string.result _ _ (λ text is. is (ap has_float seen ∙ none_has_float c.args.trees.now) ∙ ap compact_text seen) c.to_string.ensures.text
