use Rattle.std.proofs.Common.{◌≡◌, ◌-◌, map}
use denote.Text.{Utf8}
use denote.Shadow.{shadow}
use Rattle.jwalk_snapshot.specs.Reading.{field_at, list_at}
use Rattle.jwalk_snapshot.specs.Text.{text_in}
use Rattle.jwalk_snapshot.proofs.ListFacts.{with_front}
use Rattle.jwalk_snapshot.proofs.head.words_at.Given as goal

abbrev pub invariant-loop : goal.invariant-loop
invariant-loop l = shadow (Utf8 l.rest) × (with_front (field_at 0) (map text_in l.words.items) (list_at (field_at 0) (l.count - l.counter) l.rest) ≡ list_at (field_at 0) l.count l.text)
