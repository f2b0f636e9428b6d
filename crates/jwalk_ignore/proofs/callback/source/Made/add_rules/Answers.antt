use Rattle.std.proofs.Common.{◌≡◌, ◌∙◌, ap}
use Rattle.std.proofs.lemmas.Result.{on_ok_weaker}
use Rattle.jwalk.specs.jwalk_model.Paths.{join}
use Rattle.jwalk_ignore.specs.Callback.IgnoreFiles.{path_of, rules_found, with_found}
use Rattle.jwalk_ignore.specs.Callback.Sources.{made_value, source_value}
use Rattle.jwalk_ignore.proofs.callback.source.Made.add_rules.Goals as goal

pub returns-clause-value : goal.returns-clause-value
returns-clause-value g c = λ fixed.
    let texts = g.T.Texts.functions c.args.texts.now in
    let source = source_value c.args.source in
    let place : c.as_str.result.now ≡ path_of source = c.as_str.ensures.value ∙ c.in_ok-path.ensures ∙ ap (join c.args.source.folder.now) c.file_of.ensures in
    on_ok_weaker c.add_found.result
    (λ is. is ∙ ap (λ path. with_found source (rules_found texts source.kind source.may_miss path) (made_value c.args.self.now)) place)
    (c.add_found.ensures.value (rules_found texts source.kind source.may_miss c.as_str.result.now) (c.rules_at-found.ensures fixed))
