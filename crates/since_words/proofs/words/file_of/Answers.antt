use Rattle.std.proofs.Common.{◌∙◌, ℕ, List, [], Option, unwrap_or, option_map, ap, sym}
use Rattle.since_words.specs.Asks.{text_in}
use Rattle.since_words.proofs.words.file_of.Goals as goal

pub returns-in-Some : goal.returns-in-Some
returns-in-Some c = ap (λ (o : Option (List ℕ)). unwrap_or o []) (ap (option_map text_in) (sym c.in-Some.is) ∙ c.value_of.ensures)

pub returns-in-None : goal.returns-in-None
returns-in-None c = ap (λ (o : Option (List ℕ)). unwrap_or o []) (ap (option_map text_in) (sym c.in-None.is) ∙ c.value_of.ensures)
