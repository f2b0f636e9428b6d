use Rattle.std.proofs.Common.{◌≡◌, ◌++◌, map, flat_map, string_bytes, take}
use Rattle.jwalk_snapshot.specs.Text.{ended, text_in}
use Rattle.jwalk_snapshot.proofs.head.push_words.Given as goal

abbrev pub invariant-loop-word : goal.invariant-loop-word
invariant-loop-word l = string_bytes l.out ≡ string_bytes l.fn.out ++ flat_map ended (map text_in (take l.word-index l.words))
