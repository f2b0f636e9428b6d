use Rattle.jwalk_ignore_laws.proofs.WayFacts.{walks_begin_so}
use Rattle.jwalk_ignore_laws.proofs.starts.walks_begin_so.Goals as goal

pub returns : goal.returns
returns c = walks_begin_so
