use Rattle.seek_words.proofs.words.case_of.Goals as goal

pub returns : goal.returns
returns c = record {
  ignores = c.last_named-ignores.result.0;
  keeps = c.last_named-ignores.result.1;
  named = c.last_named-ignores.ensures;
  chosen = c.chosen_case.ensures;
}
