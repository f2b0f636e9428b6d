use Rattle.std.proofs.Common.{true}
use Rattle.std.proofs.lemmas.Result.{IfOk-weaker}
use Rattle.seek_words.proofs.CommandFacts.{one_named}
use Rattle.seek_words.proofs.command.also_named.Goals as goal

pub returns-clause-rule : goal.returns-clause-rule
returns-clause-rule c = IfOk-weaker c.visible_alias.result _ _ (λ it adds. one_named c.args.arg it c.args.name true adds) c.visible_alias.ensures
