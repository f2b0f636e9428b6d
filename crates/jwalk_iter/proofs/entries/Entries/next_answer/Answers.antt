use Rattle.jwalk_iter.proofs.AnswerFacts.{answers_refusal}
use Rattle.jwalk_iter.proofs.entries.Entries.next_answer.Goals as goal

pub returns-then-self : goal.returns-then-self
returns-then-self g c = answers_refusal g.B.Readings c.args.self.now c.memory.result c.memory.ensures c.if-self.true

pub returns : goal.returns
returns g c = c.answer.ensures c.args.self.now c.if-self.false c.next_kept-came.ensures
