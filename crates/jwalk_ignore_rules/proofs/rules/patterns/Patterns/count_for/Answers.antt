use Rattle.std.proofs.Common.{map}
use Rattle.jwalk_ignore_rules.specs.Pattern.{pattern_value}
use Rattle.jwalk_ignore_rules.specs.Pattern.Names.{names_of}
use Rattle.jwalk_ignore_rules.proofs.IndexFacts.{others_alone, others_from}
use Rattle.jwalk_ignore_rules.proofs.rules.patterns.Patterns.count_for.Goals as goal

pub returns-in-Some : goal.returns-in-Some
returns-in-Some g c =
    others_from c.args.self.now.last_names (map pattern_value c.args.self.now.items.items) c.args.self.now.indexed c.args.path.now
    (names_of c.in-Some.field-0-0.now) c.in-Some.name.now c.count.result c.in-Some.ensures c.count.ensures

pub returns-in-None : goal.returns-in-None
returns-in-None g c = others_alone c.args.self.now.last_names (map pattern_value c.args.self.now.items.items) c.args.self.now.indexed c.args.path.now c.in-None.ensures
