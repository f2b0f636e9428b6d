use Rattle.std.proofs.Common.{◌∷◌, ap}
use Rattle.walk_text.proofs.WordFacts.{no_numbered_option}
use Rattle.walk_text.proofs.words.numbered_option.Goals as goal

pub returns-in_default-clause-none : goal.returns-in_default-clause-none
returns-in_default-clause-none c = no_numbered_option c.args.name.now c.in_default.not-text c.in_default.not-text-2 c.in_default.not-text-3 c.in_default.not-text-4

pub returns-in-text-clause-some : goal.returns-in-text-clause-some
returns-in-text-clause-some c = λ words others number. (words, ap (λ name. name ∷ words) c.in-text.is, number)

pub returns-in-text-2-clause-some : goal.returns-in-text-2-clause-some
returns-in-text-2-clause-some c = λ words others number. (words, ap (λ name. name ∷ words) c.in-text-2.is, number)

pub returns-in-text-3-clause-some : goal.returns-in-text-3-clause-some
returns-in-text-3-clause-some c = λ words others number. (words, ap (λ name. name ∷ words) c.in-text-3.is, number)

pub returns-in-text-4-clause-some : goal.returns-in-text-4-clause-some
returns-in-text-4-clause-some c = λ words others number. (words, ap (λ name. name ∷ words) c.in-text-4.is, number)
