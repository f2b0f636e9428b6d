use Rattle.std.proofs.Common.{◌≡◌, ◌++◌, IsUtf8, chars, string_bytes}
use Rattle.std.specs.Str.Iter.{chars_rest}
use Rattle.program_parts.specs.Masked.{masked, shown_chars}
use Rattle.program_parts.proofs.masked.masked.Given as goal

abbrev pub invariant-loop-next : goal.invariant-loop-next
invariant-loop-next g l =
    IsUtf8 (chars_rest l.next-iterator) × (string_bytes l.shown ++ shown_chars (chars (chars_rest l.next-iterator)) ≡ masked l.fn.text)
