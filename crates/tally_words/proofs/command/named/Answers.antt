use Rattle.std.proofs.Common.{◌≡◌, ◌∙◌, ap, true}
use Rattle.std.proofs.lemmas.Result.{IfOk-weaker}
use Rattle.clap.specs.Simple.{app_of_fields}
use Rattle.clap.specs.Words.{App, app_of}
use Rattle.program_parts.proofs.RuleFacts.{one_added}
use Rattle.tally_words.specs.Command.{named_app}
use Rattle.tally_words.proofs.command.named.Goals as goal

pub returns : goal.returns
returns c =
    let named : app_of c.disable_help_flag.result ≡ named_app
    = ap app_of_fields c.disable_help_flag.ensures
    ∙ ap (λ (a : App). record a { top = record a.top { disable_help_flag = true } })
    (ap app_of_fields c.about.ensures ∙ ap app_of_fields c.version.ensures
    ∙ ap (λ (a : App). record a { top = record a.top { has_version = true } }) c.new.ensures.app) in
    IfOk-weaker c.arg.result _ _ (λ all adds. one_added adds c.root_option.ensures.local c.root_option.ensures.rule named) c.arg.ensures
