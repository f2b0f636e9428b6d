-- The first line and the others.
use Rattle.std.proofs.Common.{◌≡◌, ◌≢◌, ◌+◌, ◌==◌, ℕ, suc, Bool, true, false, List, [], ◌∷◌, length, ap, refl, ◌∙◌, arith}
use Rattle.std.specs.List.{before_first, after_first, position_or_len, enumerate_from}
use Rattle.walk_text.specs.TextLines.{is_line_feed, onto_first, text_lines, numbered_from}

-- a text whose first byte ends a line
ended : (c : ℕ) (cs : List ℕ) → is_line_feed c ≡ true → text_lines (c ∷ cs) ≡ before_first is_line_feed (c ∷ cs) ∷ text_lines (after_first is_line_feed (c ∷ cs))
ended c cs e = simp e

-- a text whose first byte doesn't
going_on : (c : ℕ) (cs : List ℕ) → is_line_feed c ≡ false → onto_first c (text_lines cs) ≡ (c ∷ before_first is_line_feed cs) ∷ text_lines (after_first is_line_feed cs) → text_lines (c ∷ cs) ≡ before_first is_line_feed (c ∷ cs) ∷ text_lines (after_first is_line_feed (c ∷ cs))
going_on c cs e others =
    let n : ℕ = position_or_len is_line_feed cs in
    let one : 1 + n ≡ suc n = omega arith in
    let two : suc n + 1 ≡ suc (n + 1) = omega arith in
    simp (e, one, two) others

-- a byte that ends no line is put in front of the first line
onto : (c : ℕ) (cs line : List ℕ) (others : List (List ℕ)) → text_lines cs ≡ line ∷ others → onto_first c (text_lines cs) ≡ (c ∷ line) ∷ others
onto c cs line others is = ap (onto_first c) is

-- the first line of a text with a first byte
by_first_byte : (b : Bool) (c : ℕ) (cs : List ℕ) → is_line_feed c ≡ b → text_lines (c ∷ cs) ≡ before_first is_line_feed (c ∷ cs) ∷ text_lines (after_first is_line_feed (c ∷ cs))
by_first_byte true c cs e = ended c cs e
by_first_byte false c [] e = going_on c [] e refl
by_first_byte false c (d ∷ cs) e = going_on c (d ∷ cs) e (onto c (d ∷ cs) _ _ (by_first_byte (is_line_feed d) d cs refl))

-- a text that isn't empty is its first line and the lines after that
pub first_line : (text : List ℕ) → text ≢ [] → text_lines text ≡ before_first is_line_feed text ∷ text_lines (after_first is_line_feed text)
first_line [] some = absurd (some refl)
first_line (c ∷ cs) some = by_first_byte (is_line_feed c) c cs refl

-- the first of the numbered lines, and the others
pub taken : (n : ℕ) (text line rest : List ℕ) → (length text == 0) ≡ false → line ≡ before_first is_line_feed text → rest ≡ after_first is_line_feed text → numbered_from n text ≡ (n, line) ∷ numbered_from (n + 1) rest
taken n [] line rest some line_is rest_is = cc
taken n (c ∷ cs) line rest some line_is rest_is = ap (enumerate_from n) (first_line (c ∷ cs) (λ e. cc)) ∙ cc
