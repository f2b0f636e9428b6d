use Rattle.std.proofs.Common.{◌≡◌, IsUtf8, chars}
use Rattle.std.specs.List.{fold}
use Rattle.std.specs.Str.Iter.{chars_rest}
use Rattle.seek_words.specs.Case.{all_read, then_read}
use Rattle.seek_words.proofs.case.has_upper_case.Given as goal

-- the facts so far and the characters that are left give those of the pattern
abbrev pub invariant-loop-next : goal.invariant-loop-next
invariant-loop-next l =
    IsUtf8 (chars_rest l.next-iterator) × (fold then_read l.read (chars (chars_rest l.next-iterator)) ≡ all_read l.fn.glob l.fn.fixed l.fn.pattern)
