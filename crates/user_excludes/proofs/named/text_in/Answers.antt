use Rattle.std.proofs.Common.{◌∙◌, Ok, ap, sym}
use Rattle.user_excludes.specs.Named.{text_in, BadLine}
use Rattle.user_excludes.proofs.TextFacts.{is_value, no_value}
use Rattle.user_excludes.proofs.UnreadFacts.{fails_with}
use Rattle.user_excludes.proofs.named.text_in.Goals as goal

pub returns-in-Ok : goal.returns-in-Ok
returns-in-Ok c = is_value c.args.file.now c.args.line c.args.value.now c.in-Ok.ensures.cases.1 ∙ ap Ok (sym c.in-Ok.ensures.cases.0)

pub returns-in-Err : goal.returns-in-Err
returns-in-Err c =
    fails_with c.bad_line.result (BadLine c.args.file.now c.args.line) (text_in c.args.file.now c.args.line c.args.value.now) c.bad_line.ensures
    (no_value c.args.file.now c.args.line c.args.value.now c.in-Err.ensures.cases.0)
