use Rattle.since_parts.proofs.TreeFacts.{strip_is}
use Rattle.since_parts.proofs.tree.strip.Goals as goal

pub returns : goal.returns
returns c = strip_is c.args.front.now c.args.path.now c.strip_prefix.result c.strip_prefix.ensures.cases
