use Rattle.std.proofs.Common.{map}
use Rattle.jwalk.specs.jwalk_job.Entry.{item}
use Rattle.jwalk.proofs.GivenFacts.{adds_none}
use Rattle.jwalk_ignore.proofs.callback.rules_reader.RulesReader.add_above.Goals as goal

pub returns-then-not-is_read_above-clause-errors : goal.returns-then-not-is_read_above-clause-errors
returns-then-not-is_read_above-clause-errors g c = adds_none (map item c.args.made.now.list.items)
