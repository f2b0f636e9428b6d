use Rattle.std.proofs.Common.{◌∙◌, Some, ap, sym}
use Rattle.user_excludes.proofs.TextFacts.{is_text, none_of}
use Rattle.user_excludes.proofs.repository.text_of.Goals as goal

pub returns-in-Ok : goal.returns-in-Ok
returns-in-Ok c = ap Some c.in-Ok.ensures.cases.0 ∙ sym (is_text c.args.bytes.now c.in-Ok.ensures.cases.1)

pub returns-in-Err : goal.returns-in-Err
returns-in-Err c = sym (none_of c.args.bytes.now c.in-Err.ensures.cases.0)
