use Rattle.std.proofs.Common.{rules}
use Rattle.std.proofs.lemmas.List.{take_rest}
use Rattle.jwalk_ignore_rules.proofs.NamesFacts.{names_end, one_name}
use Rattle.jwalk_ignore_rules.proofs.pattern.names.split_end.Goals as goal

pub returns-in-Some-clause-names : goal.returns-in-Some-clause-names
returns-in-Some-clause-names c = rw take_rest (names_end c.args.path.now c.in-Some.end (search rules) (search rules) (search rules))

pub returns-in-None-clause-names : goal.returns-in-None-clause-names
returns-in-None-clause-names c = one_name c.args.path.now (search rules)
