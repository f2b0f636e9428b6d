use Rattle.seek_words.proofs.EmptyFacts.{has_items}
use Rattle.seek_words.proofs.empty.NotedSink.take_seen.Goals as goal

pub returns : goal.returns
returns c = λ first before took. has_items first.has_items before _
