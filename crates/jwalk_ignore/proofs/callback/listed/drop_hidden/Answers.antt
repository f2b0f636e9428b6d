use Rattle.std.proofs.Common.{◌≡◌, ◌∙◌, map, ap, sym, refl, rules}
use Rattle.std.specs.List.{filter}
use Rattle.std.proofs.lemmas.Fn.{filter_same}
use Rattle.jwalk.specs.jwalk_job.Entry.{item}
use Rattle.jwalk_ignore.specs.Callback.Settings.{settings_value}
use Rattle.jwalk_ignore.specs.Callback.IgnoreFiles.{is_shown}
use Rattle.jwalk_ignore.proofs.ListFacts.{filter_by}
use Rattle.jwalk_ignore.proofs.callback.listed.drop_hidden.Goals as goal

pub returns : goal.returns
returns g c =
    let kept : c.retain.new.self.items ≡ filter (λ x. is_shown (settings_value c.args.settings.now) c.args.directory.now (item x)) c.args.list.now.items =
    filter_same _ _ _ (λ x b f' k. search rules) _ _ c.retain.ensures.filtered in
    ap (map item) kept ∙ sym (filter_by item (is_shown (settings_value c.args.settings.now) c.args.directory.now) (λ x. is_shown (settings_value c.args.settings.now) c.args.directory.now (item x)) (λ x. refl) c.args.list.now.items)
