use Rattle.jwalk_ignore.proofs.callback.rules_reader.RulesReader.drop_ignored.Goals as goal

pub returns-clause-value : goal.returns-clause-value
returns-clause-value g c = λ fixed. rw (c.take.ensures.value, c.replace-items.ensures.value) at (c.in_ok-made.ensures.value fixed)

pub returns-clause-depth : goal.returns-clause-depth
returns-clause-depth g c = λ depth list. c.in_ok-made.ensures.depth depth (rw c.replace-items.ensures.value list)

pub returns-clause-root : goal.returns-clause-root
returns-clause-root g c = λ root. rw c.replace-items.ensures.value at (c.in_ok-made.ensures.root root)
