use Rattle.std.proofs.Common.{rules}
use Rattle.jwalk_readings.proofs.ResultFacts.{goes_on}
use Rattle.jwalk_iter.proofs.entries.EntriesIterator.next.Goals as goal

pub returns-clause-goes : goal.returns-clause-goes
returns-clause-goes g c =
    let lawful : g.B.Readings.can_read (g.B.Readings.base c.next_answer.new.self.reads) = rw c.next_answer.ensures.base c.requires in
    record {
      on = λ f. goes_on c.next_answer.result _ lawful c.next_answer.ensures.lighter;
      keeps = search rules;
      rests = λ f. search rules;
    }
