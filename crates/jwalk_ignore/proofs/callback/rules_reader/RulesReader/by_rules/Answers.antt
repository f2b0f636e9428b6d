use Rattle.jwalk_ignore.proofs.callback.rules_reader.RulesReader.by_rules.Goals as goal

pub returns-in-None-clause-value : goal.returns-in-None-clause-value
returns-in-None-clause-value g c = λ fixed. rw c.in-None.is (c.at_root.ensures.value fixed)

pub returns-in-Some-clause-value : goal.returns-in-Some-clause-value
returns-in-Some-clause-value g c = λ fixed. rw c.in-Some.is (c.in_directory.ensures.value fixed)

pub returns-in-None-clause-root : goal.returns-in-None-clause-root
returns-in-None-clause-root g c = λ at. c.at_root.ensures.errors

pub returns-in-Some-clause-root : goal.returns-in-Some-clause-root
returns-in-Some-clause-root g c = λ at. absurd (let is = c.in-Some.is in cc)
