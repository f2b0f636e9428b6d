use Rattle.jwalk_ignore.proofs.callback.rules_reader.RulesReader.add_listed.Goals as goal

pub returns-clause-depth : goal.returns-clause-depth
returns-clause-depth g c = λ depth one before. c.add_rules.ensures.depth depth (c.in_ok-add_item.ensures.depth depth one before)
