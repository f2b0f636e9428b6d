use Rattle.std.proofs.Common.{◌≡◌, ◌∙◌, ap, true, rules, false}
use Rattle.std.proofs.lemmas.Result.{IfOk-weaker}
use Rattle.clap.specs.Simple.{app_of_fields}
use Rattle.clap.specs.Words.{App, app_of, rule_of}
use Rattle.seek_words.specs.Command.{named_app, pattern_rule}
use Rattle.program_parts.proofs.RuleFacts.{one_added}
use Rattle.seek_words.proofs.command.named.Goals as goal

pub returns : goal.returns
returns c =
    let local : c.help-pattern.result.global ≡ false = search rules in
    let pattern : rule_of c.help-pattern.result ≡ pattern_rule = search rules in
    let named : app_of c.about.result ≡ named_app
    = ap app_of_fields c.about.ensures ∙ ap app_of_fields c.version.ensures
    ∙ ap (λ (a : App). record a { top = record a.top { has_version = true } }) (ap app_of_fields c.args_override_self.ensures
    ∙ ap (λ (a : App). record a { top = record a.top { args_override_self = true } }) c.new-2.ensures.app) in
    IfOk-weaker c.arg-2.result _ _
    (λ all adds. one_added adds c.root_option.ensures.local c.root_option.ensures.rule (one_added c.in_ok-arg.ensures local pattern named))
    c.arg-2.ensures
