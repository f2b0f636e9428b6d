use Rattle.jwalk_snapshot.proofs.NumberFacts.{number_if_ok, number_if_err}
use Rattle.jwalk_snapshot.proofs.numbers.number_in.Goals as goal

pub returns-in-Ok : goal.returns-in-Ok
returns-in-Ok c = rw (c.then_some.ensures, c.is_text_of.ensures) (number_if_ok c.args.word.now c.in-Ok.number c.parse.result c.in-Ok.is c.parse.ensures.value.0)

pub returns-in-Err : goal.returns-in-Err
returns-in-Err c = number_if_err c.args.word.now c.in-Err.field-0 c.parse.result c.in-Err.is c.parse.ensures.value.0
