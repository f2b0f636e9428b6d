use Rattle.std.proofs.Common.{rules}
use Rattle.seek_words.proofs.words.results_of.Goals as goal

pub returns-then-is_one_result : goal.returns-then-is_one_result
returns-then-is_one_result c = record {
  one = c.is_one_result.result;
  is_one = c.is_one_result.ensures;
  alone = search rules;
  named = search rules;
}

pub returns : goal.returns
returns c = record {
  one = c.is_one_result.result;
  is_one = c.is_one_result.ensures;
  alone = search rules;
  named = search rules;
}
