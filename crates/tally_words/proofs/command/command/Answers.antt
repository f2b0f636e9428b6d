use Rattle.std.proofs.Common.{◌∙◌, ap}
use Rattle.std.proofs.lemmas.Result.{IfOk-weaker}
use Rattle.program_parts.specs.Rules.{with_rules}
use Rattle.program_parts.proofs.RuleFacts.{all_added}
use Rattle.tally_words.specs.Command.{counted_rules, form_rules, shown_rules, unit_rules, walked_rules}
use Rattle.tally_words.proofs.command.command.Goals as goal

pub returns : goal.returns
returns c =
    IfOk-weaker c.args-6.result _ _
    (λ all adds. all_added _ _ _ c.in_ok-walked.ensures adds
    ∙ ap (λ app. with_rules app walked_rules) (all_added _ _ _ c.in_ok-counted.ensures c.in_ok-args-4.ensures
    ∙ ap (λ app. with_rules app counted_rules) (all_added _ _ _ c.in_ok-units.ensures c.in_ok-args-3.ensures
    ∙ ap (λ app. with_rules app unit_rules) (all_added _ _ _ c.in_ok-form.ensures c.in_ok-args-2.ensures
    ∙ ap (λ app. with_rules app form_rules) (all_added _ _ _ c.in_ok-shown.ensures c.in_ok-args.ensures
    ∙ ap (λ app. with_rules app shown_rules) c.in_ok-named.ensures)))))
    c.args-6.ensures
