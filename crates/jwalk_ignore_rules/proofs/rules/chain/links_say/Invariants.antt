use Rattle.std.proofs.Common.{◌≡◌, length}
use Rattle.jwalk_ignore_rules.specs.Rules.Chain.{links_say}
use Rattle.jwalk_ignore_rules.specs.Rules.ChainViews.{links_value}
use Rattle.jwalk_ignore_rules.proofs.rules.chain.links_say.Given as goal

-- the links that are left say what all do
abbrev pub invariant-links : goal.invariant-links
invariant-links g l = links_say (links_value l.links) l.path l.is_dir ≡ links_say (links_value l.rest) l.path l.is_dir

abbrev pub decreases-links : goal.decreases-links
decreases-links g l = length l.rest
