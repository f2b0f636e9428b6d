-- Texts that are written without control characters, once no character is left.
use Rattle.std.proofs.Common.{◌≡◌, ◌∙◌, ◌++◌, ℕ, List, length, chars, append-nil, sym}
use Rattle.std.proofs.StrCases.{chars_of_empty}
use Rattle.program_parts.specs.Masked.{shown_chars}

pub all_shown : (shown text all : List ℕ) → length text ≡ 0 → shown ++ shown_chars (chars text) ≡ all → shown ≡ all
all_shown shown text all none known = sym (append-nil shown) ∙ (rw (chars_of_empty text none) at known)
