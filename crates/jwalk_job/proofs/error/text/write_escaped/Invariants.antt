use Rattle.std.proofs.Common.{◌≡◌, ◌≤◌, ℕ, List, ◌++◌, flat_map, encode_utf8_all}
use Rattle.std.specs.Fmt.{HasWritten, IsPlainFormatter}
use Rattle.std.specs.Char.Escape.{escape_ascii}
use Rattle.jwalk_job.specs.Error.{escaped}
use Rattle.jwalk_job.proofs.EscapeFacts.{left_of}
use Rattle.jwalk_job.proofs.error.text.write_escaped.Given as goal

-- what was written, and then what is left, is the whole
abbrev pub invariant-loop-byte : goal.invariant-loop-byte
invariant-loop-byte g l =
    IsPlainFormatter l.fn.f
    → (done : List ℕ) × HasWritten g.W.Write.write_str_gives l.fn.f done l.f
    × (done ++ encode_utf8_all (left_of l.byte-iterator) ≡ escaped l.fn.name)
