use Rattle.std.proofs.Common.{◌≡◌, ◌-◌, map}
use denote.Text.{Utf8}
use denote.Shadow.{shadow}
use Rattle.jwalk_snapshot.specs.Reading.{folder_at, list_at}
use Rattle.jwalk_snapshot.specs.Text.{folder_of}
use Rattle.jwalk_snapshot.proofs.ListFacts.{with_front}
use Rattle.jwalk_snapshot.proofs.snapshot.each_at.Given as goal

abbrev pub invariant-loop : goal.invariant-loop
invariant-loop l = shadow (Utf8 l.rest) × (with_front folder_at (map folder_of l.blocks.items) (list_at folder_at (l.count - l.counter) l.rest) ≡ list_at folder_at l.count l.text)
