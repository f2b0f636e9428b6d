use Rattle.std.proofs.Common.{◌≡◌, ◌++◌, length, map, string_bytes}
use Rattle.seek_words.specs.Joined.{joined, joined_options}
use Rattle.seek_words.proofs.joined.joined_words.Given as goal

-- the words so far, and those that are left
abbrev pub invariant-loop-rest : goal.invariant-loop-rest
invariant-loop-rest l = map string_bytes l.all.items ++ joined_options (map string_bytes l.rest) ≡ joined (map string_bytes l.words)

-- fewer are left each time
abbrev pub decreases-loop-rest : goal.decreases-loop-rest
decreases-loop-rest l = length l.rest
