-- Lengths of time.
use Rattle.std.proofs.Common.{◌≡◌, ◌∙◌, ◌≤◌, ℕ, zero, suc, ◌-◌, ◌==◌, Bool, Option, None, Some, List, length, ap, sym, refl, arith}
use Rattle.std.specs.Prelude.{if◌then◌else◌}
use Rattle.std.proofs.lemmas.List.Sums.{prefix_len-le-length}
use Rattle.std.specs.Char.{is_ascii_alphabetic, is_ascii_whitespace}
use Rattle.seek_words.specs.Length.{after_length, first_length, lengths_in, letter_count, space_count, together}

-- a text has at most its length of letters
pub letters_most : (text : List ℕ) → letter_count text ≤ length text
letters_most text = prefix_len-le-length is_ascii_alphabetic text

-- and of white space
pub spaces_most : (text : List ℕ) → space_count text ≤ length text
spaces_most text = prefix_len-le-length is_ascii_whitespace text

-- no length is read if none may be
pub lengths_none : (most : ℕ) (text : List ℕ) → most ≡ 0 → None ≡ lengths_in most text
unfolding lengths_in
lengths_none zero text none = refl
lengths_none (suc most) text none = absurd (omega (arith, none))

-- the first length and the others
lengths_more : (most : ℕ) (text : List ℕ) → (most ≡ 0 → ⊥)
    → together (first_length text) (if length (after_length text) == 0 then Some 0 else lengths_in (most - 1) (after_length text)) ≡ lengths_in most text
unfolding lengths_in
lengths_more zero text some = absurd (some refl)
lengths_more (suc most) text some =
    let less : suc most - 1 ≡ most = omega arith in
    ap (λ (n : ℕ). together (first_length text) (if length (after_length text) == 0 then Some 0 else lengths_in n (after_length text))) less

-- the first length and the others, by the text that is left
pub lengths_by : (most : ℕ) (text rest : List ℕ) (last : Bool) (first : Option ℕ) → (most ≡ 0 → ⊥) → rest ≡ after_length text → (length rest == 0) ≡ last
    → first ≡ first_length text → together first (if last then Some 0 else lengths_in (most - 1) rest) ≡ lengths_in most text
lengths_by most text rest last first some left ends begins =
    ap (λ (f : Option ℕ). together f (if last then Some 0 else lengths_in (most - 1) rest)) begins
    ∙ ap (λ (b : Bool). together (first_length text) (if b then Some 0 else lengths_in (most - 1) rest)) (sym ends)
    ∙ ap (λ (r : List ℕ). together (first_length text) (if length r == 0 then Some 0 else lengths_in (most - 1) r)) left
    ∙ lengths_more most text some

-- if the first length can't be read, no sum is
pub lengths_unknown : (most : ℕ) (text : List ℕ) → (most ≡ 0 → ⊥) → None ≡ first_length text → None ≡ lengths_in most text
lengths_unknown most text some none = lengths_by most text (after_length text) _ None some refl refl none
