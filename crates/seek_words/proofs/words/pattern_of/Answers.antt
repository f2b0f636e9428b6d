use Rattle.std.proofs.Common.{◌∙◌, codes}
use Rattle.clap.specs.Words.{found_of}
use Rattle.clap.proofs.WalkLemmas.{first_value-rows}
use Rattle.seek_words.proofs.AsksFacts.{value_some, value_none}
use Rattle.seek_words.proofs.words.pattern_of.Goals as goal

pub returns-in-Some : goal.returns-in-Some
returns-in-Some c = value_some c.in-Some.pattern c.get_str.result _ c.in-Some.is (c.get_str.ensures ∙ first_value-rows (found_of c.args.found.now) (codes "pattern"))

pub returns-in-None : goal.returns-in-None
returns-in-None c = value_none c.get_str.result _ c.in-None.is (c.get_str.ensures ∙ first_value-rows (found_of c.args.found.now) (codes "pattern"))
