use Rattle.std.proofs.Common.{arith}
use Rattle.jwalk_snapshot.proofs.NumberFacts.{split_field}
use Rattle.jwalk_snapshot.proofs.numbers.word_at.Goals as goal

pub returns : goal.returns
returns c = split_field 32 c.args.text.now c.split_once.result c.split_once.ensures.cases (omega arith)
