use Rattle.std.proofs.Common.{◌∙◌, ap}
use Rattle.std.proofs.lemmas.Result.{IfOk-weaker}
use Rattle.program_parts.specs.Rules.{with_rules}
use Rattle.program_parts.proofs.RuleFacts.{all_added}
use Rattle.since_words.specs.Command.{choice_rules, option_rules, place_rules}
use Rattle.since_words.proofs.command.command.Goals as goal

pub returns : goal.returns
returns c =
    IfOk-weaker c.args-4.result _ _
    (λ all adds. all_added _ _ _ c.in_ok-choice.ensures adds
    ∙ ap (λ app. with_rules app choice_rules) (all_added _ _ _ c.in_ok-options.ensures c.in_ok-args-2.ensures
    ∙ ap (λ app. with_rules app option_rules) (all_added _ _ _ c.in_ok-places.ensures c.in_ok-args.ensures
    ∙ ap (λ app. with_rules app place_rules) c.named.ensures)))
    c.args-4.ensures
