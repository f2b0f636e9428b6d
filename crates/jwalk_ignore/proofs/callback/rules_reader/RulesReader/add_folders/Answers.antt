use Rattle.std.proofs.Common.{◌∙◌, map, reverse, ap}
use Rattle.std.specs.Prelude.{fold}
use Rattle.std.proofs.lemmas.Result.{on_ok_weaker}
use Rattle.jwalk_ignore.specs.Callback.Settings.{settings_value}
use Rattle.jwalk_ignore.specs.Rules.Folder.{folder_value}
use Rattle.jwalk_ignore.specs.Callback.IgnoreFiles.{with_folder}
use Rattle.jwalk_ignore.specs.Callback.Sources.{made_value}
use Rattle.jwalk_ignore.proofs.ReaderFacts.{map_reverse}
use Rattle.jwalk_ignore.proofs.callback.rules_reader.RulesReader.add_folders.Goals as goal

pub returns-clause-value : goal.returns-clause-value
returns-clause-value g c = λ fixed.
    let found = ap (map folder_value) c.reverse.ensures.items ∙ map_reverse folder_value c.in_ok-folders.folders.items ∙ ap reverse (c.in_ok-folders.ensures fixed) in
    on_ok_weaker c.add_each.result
    (λ is. is ∙ ap (fold (with_folder (settings_value c.args.self.now.settings) (g.T.Texts.functions c.args.self.now.texts)) (made_value c.args.made.now)) found)
    (c.add_each.ensures.value fixed)
