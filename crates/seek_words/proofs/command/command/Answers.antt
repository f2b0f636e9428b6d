use Rattle.std.proofs.Common.{◌∙◌, ap}
use Rattle.std.proofs.lemmas.Result.{IfOk-weaker}
use Rattle.clap.specs.Words.{App}
use Rattle.seek_words.specs.Command.{pattern_rules, case_rules, walk_rules, ignore_rules, reach_rules, filter_rules, time_rules, print_rules, undo_rules}
use Rattle.program_parts.specs.Rules.{with_rules}
use Rattle.program_parts.proofs.RuleFacts.{all_added}
use Rattle.seek_words.proofs.command.command.Goals as goal

pub returns : goal.returns
returns c =
    let filters = c.in_ok-filtered.ensures in
    IfOk-weaker c.args-10.result _ _
    (λ all adds. record {
      kinds = filters.kinds;
      names = filters.names;
      rules = all_added _ _ _ c.in_ok-undoing.ensures adds
          ∙ ap (λ (app : App). with_rules app undo_rules) (all_added _ _ _ c.in_ok-printed.ensures c.in_ok-args-8.ensures
          ∙ ap (λ (app : App). with_rules app print_rules) (all_added _ _ _ c.in_ok-timed.ensures c.in_ok-args-7.ensures
          ∙ ap (λ (app : App). with_rules app time_rules) (all_added _ _ _ filters.rules c.in_ok-args-6.ensures
          ∙ ap (λ (app : App). with_rules app (filter_rules filters.kinds)) (all_added _ _ _ c.in_ok-reached.ensures c.in_ok-args-5.ensures
          ∙ ap (λ (app : App). with_rules app reach_rules) (all_added _ _ _ c.in_ok-ignored.ensures c.in_ok-args-4.ensures
          ∙ ap (λ (app : App). with_rules app ignore_rules) (all_added _ _ _ c.in_ok-walked.ensures c.in_ok-args-3.ensures
          ∙ ap (λ (app : App). with_rules app walk_rules) (all_added _ _ _ c.in_ok-cases.ensures c.in_ok-args-2.ensures
          ∙ ap (λ (app : App). with_rules app case_rules) (all_added _ _ _ c.in_ok-patterns.ensures c.in_ok-args.ensures
          ∙ ap (λ (app : App). with_rules app pattern_rules) c.in_ok-named.ensures))))))));
    })
    c.args-10.ensures
