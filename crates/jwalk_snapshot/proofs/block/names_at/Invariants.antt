use Rattle.std.proofs.Common.{◌≡◌, ◌-◌, map}
use denote.Text.{Utf8}
use denote.Shadow.{shadow}
use Rattle.jwalk_snapshot.specs.Reading.{entry_at, list_at}
use Rattle.jwalk_snapshot.specs.Text.{entry_of}
use Rattle.jwalk_snapshot.proofs.ListFacts.{with_front}
use Rattle.jwalk_snapshot.proofs.block.names_at.Given as goal

abbrev pub invariant-loop : goal.invariant-loop
invariant-loop l = shadow (Utf8 l.rest) × (with_front entry_at (map entry_of l.names.items) (list_at entry_at (l.count - l.counter) l.rest) ≡ list_at entry_at l.count l.text)
