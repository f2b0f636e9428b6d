use Rattle.std.proofs.Common.{length}
use Rattle.since_parts.proofs.choice.+are_texts.Given as goal

abbrev pub decreases-are_texts : goal.decreases-are_texts
decreases-are_texts l = length l.words.now
