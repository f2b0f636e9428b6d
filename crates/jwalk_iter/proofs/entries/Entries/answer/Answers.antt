use Rattle.std.proofs.Common.{◌≡◌, ◌∙◌, Ok, sym, subst}
use Rattle.std.specs.Prelude.{IfSome}
use Rattle.jwalk_job.specs.Entry.{item}
use Rattle.jwalk_iter.specs.Skip.{skip_behind}
use Rattle.jwalk_iter.specs.Entries.{GoesOn, source_of}
use Rattle.jwalk_readings.proofs.KnownFacts.{told_refused}
use Rattle.jwalk_iter.proofs.PassFacts.{stays_on}
use Rattle.jwalk_iter.proofs.AnswerFacts.{answers_reads, answers_stopped}
use Rattle.jwalk_iter.proofs.entries.Entries.answer.Goals as goal
use Rattle.jwalk_iter.proofs.entries.Entries.answer.Goals.{in-Ok, in-Err}

pub returns-in-Some : goal.returns-in-Some
returns-in-Some g c = λ start began goes.
    let skip = c.behind-self.result in
    let behind : IfSome c.match-came.answer (λ x. skip ≡ skip_behind (item x)) = rw c.in-Some.is c.behind-self.ensures in
    elim c.match-came.branch [
      | in-Ok w ↦
          let came : GoesOn g.B.Readings start (Ok c.match-came.answer) c.match-came.self = rw (w.self-is, w.answer-is) (rw w.in-Ok.is at goes) in
          answers_reads g.B.Readings start c.match-came.self skip began came.stays c.match-came.answer behind came.reads came.ahead
      | in-Err w ↦
          let came = rw w.in-Err.is at goes in
          let stopped = w.stop.ensures in
          rw (w.self-is, w.answer-is)
          (answers_stopped g.B.Readings start w.stop.new.self skip began (stays_on g.B.Readings start c.args.self.now w.stop.new.self came.stays stopped.stays) w.error_of.result (rw w.answer-is at behind)
          (subst (source_of g.B.Readings start).tells (sym w.error_of.ensures) came.tells)
          (told_refused _ w.in-Err.missed _ w.error_of.ensures came.comes) stopped.items stopped.unread stopped.read_ahead came.stopped)
    ]

pub returns-in_default : goal.returns-in_default
returns-in_default g c = λ start began goes. elim c.match-came.branch [
  | in-Ok w ↦
      let came : GoesOn g.B.Readings start (Ok c.match-came.answer) c.match-came.self = rw (w.self-is, w.answer-is) (rw w.in-Ok.is at goes) in
      answers_reads g.B.Readings start c.match-came.self c.match-came.self.skip began came.stays c.match-came.answer (rw c.in_default.is tt) came.reads came.ahead
  | in-Err w ↦ let no = sym c.in_default.is ∙ w.answer-is in absurd cc
]
