-- The facts of a pattern after some of its characters.
use Rattle.std.proofs.Common.{◌≡◌, ℕ, Bool, List, length, chars, ap}
use Rattle.std.proofs.StrCases.{chars_of_empty}
use Rattle.std.specs.List.{fold}
use Rattle.seek_words.specs.declared.case.Read.{Read}
use Rattle.seek_words.specs.Case.{then_read}

-- once no character is left, they are those of the whole pattern
pub none_left : (read all : Read) (text : List ℕ) → length text ≡ 0 → fold then_read read (chars text) ≡ all → read.upper ≡ all.upper
none_left read all text none known = ap (λ (r : Read). r.upper) (rw (chars_of_empty text none) at known)
