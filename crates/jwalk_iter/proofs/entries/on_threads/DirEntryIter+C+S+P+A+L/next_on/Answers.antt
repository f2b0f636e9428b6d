use Rattle.jwalk_iter.proofs.AnswerFacts.{answers_refusal}
use Rattle.jwalk_iter.proofs.entries.on_threads.DirEntryIter+C+S+P+A+L.next_on.Goals as goal

pub returns-then-self : goal.returns-then-self
returns-then-self g c = answers_refusal _ c.args.self.now c.memory.result c.memory.ensures c.if-self.true

pub returns : goal.returns
returns g c = c.answer.ensures c.args.self.now c.if-self.false c.next_kept_on-came.ensures
