use Rattle.std.proofs.Common.{arith, sym, ap, length, ◌∙◌, ◌+◌}
use Rattle.walk_text.proofs.TextLineFacts.{taken}
use Rattle.walk_text.proofs.lines.NumberedLinesIterator.next.Goals as goal

pub returns-clause-steps : goal.returns-clause-steps
returns-clause-steps c = taken (c.args.self.now.passed + 1) c.args.self.now.left.now c.split_line.result.0.now c.split_line.result.1.now (sym c.is_empty.ensures ∙ c.if-is_empty.false) c.split_line.ensures.line c.split_line.ensures.rest

pub returns-clause-goes : goal.returns-clause-goes
returns-clause-goes c =
    let step = taken (c.args.self.now.passed + 1) c.args.self.now.left.now c.split_line.result.0.now c.split_line.result.1.now (sym c.is_empty.ensures ∙ c.if-is_empty.false) c.split_line.ensures.line c.split_line.ensures.rest in
    record { on = λ _. (tt, tt, omega (arith, ap length step)); keeps = tt; rests = λ _. tt }
