-- Arguments of a command, added one after another.
use Rattle.std.proofs.Common.{◌≡◌, ◌∙◌, false, List, [], ◌∷◌, map, ap, ap₂, sym}
use Rattle.std.specs.Prelude.{All}
use Rattle.std.proofs.lemmas.List.Elements.{All-head, All-tail}
use Rattle.clap.specs.Simple.{with_rule}
use Rattle.clap.specs.Words.{AddsArg, AddsInTurn, App, Rule, app_of, rule_of}
use Rattle.clap.specs.declared.builder.arg.Arg.{Arg}
use Rattle.clap.specs.declared.builder.command.Command.{Command}
use Rattle.program_parts.specs.Rules.{HaveRules, with_rules}

-- one more argument
pub one_added : {old new : Command} {arg : Arg} {app : App} {rule : Rule} → AddsArg old arg new → arg.global ≡ false → rule_of arg ≡ rule → app_of old ≡ app → app_of new ≡ with_rule app rule
one_added adds local ruled is = adds.shape local ∙ ap₂ with_rule is ruled

-- several, one after another
in_turn : (args : List Arg) (old new : Command) → All (λ arg. arg.global ≡ false) args → AddsInTurn AddsArg old args new
    → app_of new ≡ with_rules (app_of old) (map rule_of args)
in_turn [] old new local adds = ap app_of (sym adds)
in_turn (arg ∷ args) old new local adds =
    in_turn args adds.0 new (All-tail (λ it. it.global ≡ false) arg args local) adds.2 ∙ ap (λ app. with_rules app (map rule_of args)) (adds.1.shape (All-head (λ it. it.global ≡ false) arg args local))

-- several more arguments
pub all_added : {rules : List Rule} (args : List Arg) (old new : Command) → HaveRules args rules → AddsInTurn AddsArg old args new → app_of new ≡ with_rules (app_of old) rules
all_added args old new have adds = in_turn args old new have.local adds ∙ ap (with_rules (app_of old)) have.ruled
