use Rattle.std.proofs.Common.{sym, subst}
use Rattle.jwalk_ignore_rules.specs.Pattern.{pattern_value}
use Rattle.jwalk_ignore_rules.specs.Rules.{Says, rules_value}
use Rattle.jwalk_ignore_rules.proofs.LastMatchFacts.{last_match, says_up_to}
use Rattle.jwalk_ignore_rules.proofs.RulesFacts.{says_last}
use Rattle.jwalk_ignore_rules.proofs.rules.Rules.decision.Goals as goal

pub returns-in-Some : goal.returns-in-Some
returns-in-Some g c =
    let patterns = rules_value c.args.self.now in
    let found = pattern_value c.in-Some.pattern.now in
    subst (λ d. Says patterns c.args.path.now c.args.is_dir d) (sym c.decision.ensures)
    (says_last patterns c.args.path.now c.args.is_dir found.keeps (last_match patterns c.args.path.now c.args.is_dir found (c.in-Some.ensures (c.count_for-count.ensures c.args.is_dir))))

pub returns-in-None : goal.returns-in-None
returns-in-None g c =
    let patterns = rules_value c.args.self.now in
    says_up_to patterns c.args.path.now c.args.is_dir c.count_for-count.result (c.in-None.ensures (c.count_for-count.ensures c.args.is_dir)) c.last_decision.result
    (subst (λ ps. Says ps c.args.path.now c.args.is_dir c.last_decision.result) c.first.ensures c.last_decision.ensures)
