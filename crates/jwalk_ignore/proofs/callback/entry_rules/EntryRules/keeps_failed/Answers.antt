use Rattle.std.proofs.Common.{◌∙◌, false, ap, sym}
use Rattle.std.specs.Prelude.{◌||◌}
use Rattle.std.specs.Option.{option_copied}
use Rattle.std.proofs.lemmas.Result.{IfOk-weaker}
use Rattle.jwalk_ignore.specs.Rules.Chain.{place_in}
use Rattle.jwalk_ignore.specs.Callback.IgnoreFiles.{keeps_failed, keeps_name}
use Rattle.jwalk_ignore.proofs.callback.entry_rules.EntryRules.keeps_failed.Goals as goal

pub returns-clause-kept : goal.returns-clause-kept
returns-clause-kept g c = λ settings directory chain decide.
    let place = place_in chain directory in
    let name = c.in-Some.name.now in
    let first = c.in_ok-keeps_name.ensures in
    IfOk-weaker c.keeps_name-2.result _ _
    (λ kept is. is ∙ sym (ap (λ name. keeps_failed settings directory chain place (option_copied name)) c.in-Some.is
    ∙ ap (λ yes. yes || keeps_name settings directory chain place name false) (sym (first.kept settings directory chain decide) ∙ c.if-branch.false)))
    (c.keeps_name-2.ensures.kept settings directory chain (first.same settings directory chain decide))
