use Rattle.std.proofs.Common.{◌∙◌, map, ap, refl, sym}
use Rattle.std.specs.Prelude.{not}
use Rattle.jwalk.specs.jwalk_job.Entry.{item}
use Rattle.jwalk_ignore.specs.Rules.Chain.{place_in}
use Rattle.jwalk_ignore.specs.Rules.ChainViews.{chain_value}
use Rattle.jwalk_ignore.specs.Callback.IgnoreFiles.{is_kept}
use Rattle.jwalk_ignore.specs.Callback.Settings.{settings_value}
use Rattle.jwalk_ignore.proofs.ReaderFacts.{all_kept, none_given}
use Rattle.jwalk_ignore.proofs.callback.rules_reader.kept_by.Goals as goal

pub returns-then-not-has_rules : goal.returns-then-not-has_rules
returns-then-not-has_rules g c =
    let settings = c.args.settings.now in
    let directory = c.args.directory.now in
    let chain = chain_value c.args.chain.now in
    sym (all_kept (settings_value settings) directory chain (place_in chain directory) (none_given settings.given (c.is_none.ensures ∙ ap not c.if-is_none.true))
    (sym c.has_rules.ensures ∙ c.if-not-has_rules.true) (map item c.args.list.items))

pub returns : goal.returns
returns g c =
    let settings = settings_value c.args.settings.now in
    let directory = c.args.directory.now in
    let chain = chain_value c.args.chain.now in
    c.kept.ensures (is_kept settings directory chain (place_in chain directory)) (record { settings = settings; directory = directory; chain = chain; decide = c.in_ok-rules.ensures; by = refl })
