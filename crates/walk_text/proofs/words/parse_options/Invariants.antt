use Rattle.std.proofs.Common.{map, string_bytes, length}
use Rattle.walk_text.proofs.WordFacts.{AsksAlike}
use Rattle.walk_text.specs.Asked.{nothing}
use Rattle.walk_text.proofs.words.parse_options.Given as goal

abbrev pub invariant-loop-left : goal.invariant-loop-left
invariant-loop-left g l = AsksAlike nothing (map string_bytes l.fn.words) l.asked (map string_bytes l.left)

abbrev pub decreases-loop-left : goal.decreases-loop-left
decreases-loop-left g l = length l.left
