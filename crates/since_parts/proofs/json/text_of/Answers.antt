use Rattle.std.proofs.Common.{◌≡◌, ◌∙◌, ap}
use Rattle.std.proofs.lemmas.Result.{IfOk-weaker}
use Rattle.serde_json.specs.Data.{object}
use Rattle.serde_json.specs.View.{view}
use Rattle.serde_json.specs.Written.{compact_text, has_float}
use Rattle.since_parts.specs.Json.{members_of}
use Rattle.since_parts.proofs.JsonFacts.{none_has_float}
use Rattle.since_parts.proofs.json.text_of.Goals as goal

pub returns : goal.returns
returns c =
    let seen : view c.object_of.result ≡ object (members_of c.args.long c.args.change.now) = c.object_of.ensures ∙ ap object c.in_ok-members.ensures in
    IfOk-weaker c.to_string.result _ _ (λ text is. is (ap has_float seen ∙ none_has_float c.args.long c.args.change.now) ∙ ap compact_text seen) c.to_string.ensures.text
