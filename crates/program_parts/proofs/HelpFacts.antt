-- Texts that begin with some bytes.
use Rattle.std.proofs.Common.{◌≡◌, ◌≤◌, ◌<◌, ◌-◌, ◌∙◌, ℕ, Bool, true, false, List, [], ◌∷◌, ◌++◌, length, take, drop, slice_index_or, ap, sym, arith, refl}
use Rattle.std.specs.Prelude.{if◌then◌else◌}
use Rattle.std.proofs.lemmas.List.{append_assoc, take_all}
use Rattle.program_parts.specs.Help.{are_dots, indent_from, undotted_behind}

-- a line that ends at once has no other explanations
pub none_further : (column found : ℕ) (rest : List ℕ) → length rest < 2 → indent_from column found rest ≡ found
none_further column found [] short = refl
none_further column found (c ∷ []) short = refl
none_further column found (c ∷ d ∷ cs) short = absurd (omega (arith, short))

-- three dots behind an option are three spaces
dots_replaced : (last : ℕ) (rest : List ℕ) → 3 ≤ length rest → are_dots last (slice_index_or rest 0 0) (slice_index_or rest 1 0) (slice_index_or rest 2 0) ≡ true
    → 32 ∷ 32 ∷ 32 ∷ undotted_behind 32 (drop 3 rest) ≡ undotted_behind last rest
dots_replaced last [] long is = absurd (omega (arith, long))
dots_replaced last (a ∷ []) long is = absurd (omega (arith, long))
dots_replaced last (a ∷ b ∷ []) long is = absurd (omega (arith, long))
dots_replaced last (a ∷ b ∷ c ∷ cs) long is = sym (ap (λ (dots : Bool). if dots then 32 ∷ 32 ∷ 32 ∷ undotted_behind 32 cs else a ∷ undotted_behind a (b ∷ c ∷ cs)) is)

-- and others stay
other_kept : (last : ℕ) (rest : List ℕ) → 3 ≤ length rest → are_dots last (slice_index_or rest 0 0) (slice_index_or rest 1 0) (slice_index_or rest 2 0) ≡ false
    → slice_index_or rest 0 0 ∷ undotted_behind (slice_index_or rest 0 0) (drop 1 rest) ≡ undotted_behind last rest
other_kept last [] long is = absurd (omega (arith, long))
other_kept last (a ∷ []) long is = absurd (omega (arith, long))
other_kept last (a ∷ b ∷ []) long is = absurd (omega (arith, long))
other_kept last (a ∷ b ∷ c ∷ cs) long is = sym (ap (λ (dots : Bool). if dots then 32 ∷ 32 ∷ 32 ∷ undotted_behind 32 cs else a ∷ undotted_behind a (b ∷ c ∷ cs)) is)

-- what is behind the first bytes, to the end
tail_of : (n : ℕ) (rest : List ℕ) → length (drop n rest) ≤ length rest - n → take (length rest - n) (drop n rest) ≡ drop n rest
tail_of n rest most = take_all (length rest - n) (drop n rest) most

-- what was written, and the text from its first bytes on
pub written_on : (old new front text : List ℕ) (f : List ℕ → List ℕ) (n : ℕ) (rest : List ℕ) → length (drop n rest) ≤ length rest - n
    → new ≡ old ++ front → front ++ f (drop n rest) ≡ text → new ++ f (take (length rest - n) (drop n rest)) ≡ old ++ text
written_on old new front text f n rest most is whole =
    ap (λ tail. new ++ f tail) (tail_of n rest most) ∙ ap (λ out. out ++ f (drop n rest)) is ∙ append_assoc old front (f (drop n rest)) ∙ ap (λ more. old ++ more) whole

pub dots_pushed : (old new : List ℕ) (last : ℕ) (rest : List ℕ) → length (drop 3 rest) ≤ length rest - 3 → new ≡ old ++ 32 ∷ 32 ∷ 32 ∷ [] → 3 ≤ length rest
    → are_dots last (slice_index_or rest 0 0) (slice_index_or rest 1 0) (slice_index_or rest 2 0) ≡ true → new ++ undotted_behind 32 (take (length rest - 3) (drop 3 rest)) ≡ old ++ undotted_behind last rest
dots_pushed old new last rest most is long dots =
    written_on old new (32 ∷ 32 ∷ 32 ∷ []) (undotted_behind last rest) (undotted_behind 32) 3 rest most is (dots_replaced last rest long dots)

pub other_pushed : (old new : List ℕ) (last : ℕ) (rest : List ℕ) → length (drop 1 rest) ≤ length rest - 1 → new ≡ old ++ slice_index_or rest 0 0 ∷ [] → 3 ≤ length rest
    → are_dots last (slice_index_or rest 0 0) (slice_index_or rest 1 0) (slice_index_or rest 2 0) ≡ false → new ++ undotted_behind (slice_index_or rest 0 0) (take (length rest - 1) (drop 1 rest)) ≡ old ++ undotted_behind last rest
other_pushed old new last rest most is long dots =
    written_on old new (slice_index_or rest 0 0 ∷ []) (undotted_behind last rest) (undotted_behind (slice_index_or rest 0 0)) 1 rest most is (other_kept last rest long dots)
