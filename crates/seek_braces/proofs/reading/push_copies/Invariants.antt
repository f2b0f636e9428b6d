use Rattle.std.proofs.Common.{◌≡◌}
use Rattle.seek_braces.specs.Reading.{bytes_of}
use Rattle.seek_braces.proofs.ListFacts.{copied_to}
use Rattle.seek_braces.proofs.reading.push_copies.Given as goal

-- the texts, and the copies so far
abbrev pub invariant-loop-at : goal.invariant-loop-at
invariant-loop-at l = bytes_of l.texts.items ≡ copied_to l.width l.cut (bytes_of l.fn.texts.items) l.at
