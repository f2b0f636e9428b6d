use Rattle.std.proofs.Common.{◌≡◌, ◌++◌, map, string_bytes, take}
use Rattle.seek_words.proofs.joined.push_all.Given as goal

-- the words so far are behind those that were there
abbrev pub invariant-loop-word : goal.invariant-loop-word
invariant-loop-word l = map string_bytes l.all.items ≡ map string_bytes l.fn.all.items ++ map string_bytes (take l.word-index l.words)
