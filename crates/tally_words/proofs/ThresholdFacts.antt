-- Numbers, digit by digit.
use Rattle.std.proofs.Common.{◌≡◌, ◌∙◌, ◌≤◌, ◌<◌, ◌+◌, ◌^◌, ℕ, Bool, true, false, List, [], ◌∷◌, ◌++◌, Option, Some, None, nat_lt, take, drop, length, ap, sym, refl, subst, arith}
use Rattle.std.specs.Prelude.{if◌then◌else◌}
use Rattle.std.specs.Char.{is_ascii_digit}
use Rattle.std.specs.List.{fold}
use Rattle.std.proofs.Math.ListN.{get_or}
use Rattle.std.proofs.lemmas.Bool.{le-ltb, ltb-false}
use Rattle.std.proofs.lemmas.List.Sums.{prefix_len-le-length}
use Rattle.std.proofs.lemmas.List.{take-append-drop, take_more}
use Rattle.tally_words.specs.Threshold.{digit_count, in_64_bits, number_of, with_digit}

fold_more : (number digit : ℕ) (digits : List ℕ) → fold with_digit number (digits ++ digit ∷ []) ≡ with_digit (fold with_digit number digits) digit
fold_more number digit [] = refl
fold_more number digit (d ∷ digits) = fold_more (with_digit number d) digit digits

-- the number with one more digit
pub one_more : (digits : List ℕ) (i d : ℕ) → i < length digits → number_of (take (i + 1) digits) ≡ with_digit (number_of (take i digits)) (get_or digits i d)
one_more digits i d below = ap number_of (take_more digits i d below) ∙ fold_more 0 (get_or digits i d) (take i digits)

fold_grows : (number : ℕ) (digits : List ℕ) → number ≤ fold with_digit number digits
fold_grows number [] = omega arith
fold_grows number (d ∷ digits) = let more : with_digit number d ≤ fold with_digit (with_digit number d) digits = fold_grows (with_digit number d) digits in omega (arith, more)

fold_parts : (number : ℕ) (xs ys : List ℕ) → fold with_digit number (xs ++ ys) ≡ fold with_digit (fold with_digit number xs) ys
fold_parts number [] ys = refl
fold_parts number (x ∷ xs) ys = fold_parts (with_digit number x) xs ys

-- more digits don't make a number less
pub grows : (digits : List ℕ) (i : ℕ) → number_of (take i digits) ≤ number_of digits
grows digits i =
    subst (λ l. number_of (take i digits) ≤ number_of l) (take-append-drop i digits)
    (subst (λ n. number_of (take i digits) ≤ n) (sym (fold_parts 0 (take i digits) (drop i digits))) (fold_grows (number_of (take i digits)) (drop i digits)))

chosen : (n m : ℕ) (b : Bool) → (if b then Some n else None) ≡ Some m → n ≡ m
chosen n m true is = cc is
chosen n m false is = absurd (cc)

-- a number of at most 64 bits is itself
pub same_number : (n m : ℕ) → in_64_bits n ≡ Some m → n ≡ m
same_number n m is = chosen n m (nat_lt n (2 ^ 64)) is

too_great : (n : ℕ) (b : Bool) → nat_lt n (2 ^ 64) ≡ b → (if b then Some n else None) ≡ None → 2 ^ 64 ≤ n
too_great n true is none = absurd (cc)
too_great n false is none = ltb-false n (2 ^ 64) is

not_less : (n : ℕ) (b : Bool) → nat_lt n (2 ^ 64) ≡ b → 2 ^ 64 ≤ n → (if b then Some n else None) ≡ None
not_less n true is most = let no : false ≡ true = sym (le-ltb n (2 ^ 64) most) ∙ is in absurd (cc)
not_less n false is most = refl

-- no number is below one that has more than 64 bits
pub none_above : (m n : ℕ) → m ≤ n → in_64_bits m ≡ None → in_64_bits n ≡ None
none_above m n most none =
    let least : 2 ^ 64 ≤ m = too_great m (nat_lt m (2 ^ 64)) refl none in not_less n (nat_lt n (2 ^ 64)) refl (omega (arith, least, most))

-- one more digit, if the number then has at most 64 bits
pub read_on : (digits : List ℕ) (i d number : ℕ) (next : Option ℕ) → i < length digits → in_64_bits (number_of (take i digits)) ≡ Some number
    → next ≡ in_64_bits (with_digit number (get_or digits i d)) → next ≡ in_64_bits (number_of (take (i + 1) digits))
read_on digits i d number next below before read =
    read ∙ ap (λ n. in_64_bits (with_digit n (get_or digits i d))) (sym (same_number (number_of (take i digits)) number before)) ∙ ap in_64_bits (sym (one_more digits i d below))

-- otherwise all digits give none
pub read_none : (digits : List ℕ) (i d number : ℕ) → i < length digits → in_64_bits (number_of (take i digits)) ≡ Some number
    → None ≡ in_64_bits (with_digit number (get_or digits i d)) → None ≡ in_64_bits (number_of digits)
read_none digits i d number below before read =
    sym (none_above (number_of (take (i + 1) digits)) (number_of digits) (grows digits (i + 1)) (sym (read_on digits i d number None below before read)))

-- a text has at most its length of digits
pub digits_most : (text : List ℕ) → digit_count text ≤ length text
digits_most text = prefix_len-le-length is_ascii_digit text
