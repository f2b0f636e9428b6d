use Rattle.std.proofs.Common.{◌≡◌, ◌++◌, length, map, string_bytes}
use Rattle.std.specs.List.{All}
use Rattle.std.specs.Str.{IsUtf8}
use Rattle.seek_braces.specs.Reading.{bytes_of, forward}
use Rattle.seek_braces.proofs.reading.Reading.finish.Given as goal

-- the texts so far, and those that are left
abbrev pub invariant-loop-text : goal.invariant-loop-text
invariant-loop-text l = record {
  same : map string_bytes l.texts.items ++ forward (bytes_of l.reversed.items) ≡ forward (bytes_of l.fn.self.texts.items);
  are : All IsUtf8 (forward (bytes_of l.reversed.items));
}

abbrev pub decreases-loop-text : goal.decreases-loop-text
decreases-loop-text l = length l.reversed.items
