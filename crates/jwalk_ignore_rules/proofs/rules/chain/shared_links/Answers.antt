use Rattle.std.proofs.Common.{◌++◌, ap, ◌∙◌}
use Rattle.jwalk_ignore_rules.specs.Rules.ChainViews.{links_value}
use Rattle.jwalk_ignore_rules.proofs.ChainFacts.{clones_of}
use Rattle.jwalk_ignore_rules.proofs.rules.chain.shared_links.Goals as goal

pub returns : goal.returns
returns g c =
    let added = c.in_ok-extend_with_clones.ensures.items in
    ap links_value (added.1 ∙ ap (λ l. l ++ added.0) c.in_ok-all.ensures.items) ∙ clones_of c.args.links.now added.0 added.2
