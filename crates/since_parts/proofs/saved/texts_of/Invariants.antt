use Rattle.std.proofs.Common.{◌≡◌, map, string_bytes, take}
use Rattle.jwalk_snapshot.specs.Text.{text_in}
use Rattle.since_parts.proofs.saved.texts_of.Given as goal

abbrev pub invariant-loop-word : goal.invariant-loop-word
invariant-loop-word l = map text_in l.texts.items ≡ map string_bytes (take l.word-index l.words)
