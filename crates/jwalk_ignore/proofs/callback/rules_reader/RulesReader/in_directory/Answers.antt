use Rattle.std.proofs.Common.{map}
use Rattle.jwalk.specs.jwalk_job.Entry.{item}
use Rattle.jwalk_ignore.specs.Callback.Settings.{settings_value}
use Rattle.jwalk_ignore.specs.Rules.ChainViews.{chain_value}
use Rattle.jwalk_ignore.specs.Callback.IgnoreFiles.{is_shown}
use Rattle.jwalk_ignore.proofs.ReaderFacts.{left_at, left_from}
use Rattle.jwalk_ignore.proofs.callback.rules_reader.RulesReader.in_directory.Goals as goal

pub returns-clause-value : goal.returns-clause-value
returns-clause-value g c = λ fixed.
    left_from (settings_value c.args.self.now.settings) (g.T.Texts.functions c.args.self.now.texts) c.args.directory.now (chain_value c.args.chain) (map item c.args.list.items)
    _ _ _ (c.in_ok-chain.ensures.value fixed) c.drop_hidden.ensures c.in_ok-list.ensures

pub returns-clause-depth : goal.returns-clause-depth
returns-clause-depth g c = λ depth all.
    left_at depth (is_shown (settings_value c.args.self.now.settings) c.args.directory.now) _ (map item c.in_ok-chain.field-0.list.items) _ _ c.drop_hidden.ensures c.in_ok-list.ensures (c.in_ok-chain.ensures.depth depth all)
