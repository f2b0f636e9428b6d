use Rattle.std.proofs.Common.{◌∙◌, ap}
use Rattle.serde_json.specs.Data.{array}
use Rattle.serde_json.specs.View.{items_of}
use Rattle.since_parts.proofs.json.differs_of.Goals as goal

pub returns : goal.returns
returns c = c.array_of.ensures ∙ ap (λ ds. array (items_of ds)) c.in_ok-words.ensures
