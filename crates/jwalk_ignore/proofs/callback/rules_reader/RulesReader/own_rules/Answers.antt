use Rattle.std.proofs.Common.{◌≡◌, ◌∙◌, map, ap}
use Rattle.jwalk.specs.jwalk_job.Entry.{item}
use Rattle.jwalk_ignore.specs.Callback.Settings.{settings_value}
use Rattle.jwalk_ignore.specs.Rules.ChainViews.{chain_value}
use Rattle.jwalk_ignore.specs.Rules.Chain.{entered}
use Rattle.jwalk_ignore.specs.Callback.IgnoreFiles.{git_in}
use Rattle.jwalk_ignore.specs.Rules.Git.{is_repository}
use Rattle.jwalk_ignore.proofs.ReaderFacts.{own_from}
use Rattle.jwalk_ignore.proofs.callback.rules_reader.RulesReader.own_rules.Goals as goal

pub returns-clause-value : goal.returns-clause-value
returns-clause-value g c = λ fixed.
    let texts = g.T.Texts.functions c.args.self.now.texts in
    let directory = c.args.directory.now in
    let chain = chain_value c.args.chain in
    let git = c.in_ok-git.git in
    let list = map item c.args.list.items in
    let git_is : git ≡ git_in texts directory list = c.in_ok-git.ensures fixed ∙ ap (λ l. git_in texts directory (map item l)) c.deref.ensures.value in
    let inside : chain_value c.in_ok-chain.chain ≡ entered (is_repository git) chain = c.in_ok-chain.ensures ∙ ap (λ b. entered b chain) c.is_repository.ensures in
    c.in_ok-add_all.ensures.value fixed
    ∙ own_from (settings_value c.args.self.now.settings) texts directory chain list git (chain_value c.in_ok-chain.chain) c.in_repository.result c.place_len.result
    (map item c.in_ok-with_capacity.field-0.items) git_is inside c.in_repository.ensures c.place_len.ensures (ap (map item) c.in_ok-with_capacity.ensures.items)

pub returns-clause-depth : goal.returns-clause-depth
returns-clause-depth g c = λ depth all. c.in_ok-add_all.ensures.depth depth all (rw c.in_ok-with_capacity.ensures.items tt)
