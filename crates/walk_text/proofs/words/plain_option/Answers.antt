use Rattle.walk_text.proofs.WordFacts.{no_plain_option}
use Rattle.walk_text.proofs.words.plain_option.Goals as goal

pub returns-in_default-clause-none : goal.returns-in_default-clause-none
returns-in_default-clause-none c = no_plain_option c.args.name.now c.in_default.not-text c.in_default.not-text-2 c.in_default.not-text-3 c.in_default.not-text-4 c.in_default.not-text-5
