use Rattle.std.proofs.Common.{◌≡◌, map, drop}
use Rattle.std.specs.List.{list_all}
use Rattle.jwalk_snapshot.specs.Text.{text_in, is_text}
use Rattle.jwalk_snapshot.proofs.head.are_words.Given as goal

abbrev pub invariant-loop-word : goal.invariant-loop-word
invariant-loop-word l = list_all is_text (map text_in (drop l.word-index l.words)) ≡ list_all is_text (map text_in l.words)
