-- A field or a number that is read is the one that was written, and what was written is read again.
use Rattle.std.proofs.Common.{◌≡◌, ◌≢◌, ℕ, zero, suc, ◌+◌, ◌^◌, ◌<◌, ◌≤◌, Bool, true, false, cond, eqb, ltb, not, ◌&&◌, List, [], ◌∷◌, ◌++◌, length, get_or, Option, Some, None, Result, Ok, Err, ℤ, pos, negsuc, refl, sym, ap, subst, ◌∙◌, arith, decimal}
use Rattle.std.specs.Prelude.{option_map, FitsSigned}
use Rattle.std.specs.Bool.{then_some}
use Rattle.std.specs.List.{list_all}
use Rattle.std.specs.Int.{w64}
use Rattle.std.specs.Fmt.{signed_decimal}
use Rattle.std.specs.Str.{bytes_eq}
use Rattle.std.specs.Str.Parse.{AllDigits, digits_value, ParsesUnsigned, ParsesSigned}
use Rattle.std.proofs.lemmas.Bool.{eqb-true, eq-eqb, ne_eqb, ltb-true, lt-ltb, not-true, not_from_false, and_parts, and_from, false≢true}
use Rattle.std.proofs.lemmas.Option.{cond_some, same_Some}
use Rattle.std.proofs.lemmas.Slice.Eq.{bytes_eq-Decides}
use Rattle.std.proofs.lemmas.Str.Parse.{IsNumeralModel, numerals_by_value, tells_digits, digit_at}
use Rattle.std.proofs.lemmas.Str.Pattern.{IsSplitOnceResult, split_parts}
use Rattle.std.proofs.lemmas.Fmt.{parse-decimal, parse-signed_decimal, digits_decimal, digits_value-decimal, decimal_nonempty}
use Rattle.jwalk_snapshot.specs.Reading.{◌>>=◌, field_at, number_in, signed_in, below_zero, from_zero}
use denote.Ref.{Bor}
use lib.Signed.{mag}

-- a step that gave a value
pub bind_some : {A B : Type 0} (o : Option A) (f : A → Option B) (y : B) → (o >>= f) ≡ Some y → (x : A) × (o ≡ Some x) × (f x ≡ Some y)
bind_some (Some x) f y e = (x, refl, e)
bind_some None f y e = absurd cc

mapped_some : {A B : Type 0} (f : A → B) (o : Option A) (y : B) → option_map f o ≡ Some y → (x : A) × (o ≡ Some x) × (f x ≡ y)
mapped_some f (Some x) y e = (x, refl, same_Some (f x) y e)
mapped_some f None y e = absurd cc

-- ---- fields

-- no byte is the one that ends it
abbrev pub Lacks : ℕ → List ℕ → Type 0
Lacks end bytes = list_all (λ b. not (eqb b end)) bytes ≡ true

abbrev some_field : List ℕ → List ℕ → Option (List ℕ × List ℕ)
some_field x rest = Some (x, rest)

abbrev put_front : ℕ → List ℕ × List ℕ → List ℕ × List ℕ
put_front b f = (b ∷ f.0, f.1)

pub field_takes : (end : ℕ) (bytes x rest : List ℕ) → field_at end bytes ≡ Some (x, rest) → (bytes ≡ x ++ end ∷ rest) × Lacks end x
unfolding field_at
field_takes end [] x rest e = absurd cc
field_takes end (b ∷ bs) x rest e =
    elim (eqb b end) as (λ t. eqb b end ≡ t → cond t (some_field [] bs) (option_map (put_front b) (field_at end bs)) ≡ some_field x rest → (b ∷ bs ≡ x ++ end ∷ rest) × Lacks end x) [
      | true ↦ λ p q.
          subst (λ (f : List ℕ × List ℕ). (b ∷ bs ≡ f.0 ++ end ∷ f.1) × Lacks end f.0) (same_Some ([], bs) (x, rest) q) (ap (λ (n : ℕ). n ∷ bs) (eqb-true b end p), refl)
      | false ↦ λ p q.
          let m = mapped_some (put_front b) (field_at end bs) (x, rest) q in
          let ih = field_takes end bs m.0.0 m.0.1 m.1 in
          subst (λ (f : List ℕ × List ℕ). (b ∷ bs ≡ f.0 ++ end ∷ f.1) × Lacks end f.0) m.2 (ap (λ (l : List ℕ). b ∷ l) ih.0, and_from (not (eqb b end)) (list_all (λ c. not (eqb c end)) m.0.0) (not_from_false (eqb b end) p) ih.1)
    ] refl e

pub field_again : (end : ℕ) (x rest : List ℕ) → Lacks end x → field_at end (x ++ end ∷ rest) ≡ Some (x, rest)
unfolding field_at
field_again end [] rest h = rw (eq-eqb end end refl) refl
field_again end (b ∷ bs) rest h =
    let parts = and_parts (not (eqb b end)) (list_all (λ c. not (eqb c end)) bs) h in
    rw (not-true (eqb b end) parts.0, field_again end bs rest parts.1) refl

field_none : (end : ℕ) (bytes : List ℕ) → ((i : ℕ) → i < length bytes → get_or bytes i 0 ≢ end) → field_at end bytes ≡ None
unfolding field_at
field_none end [] h = refl
field_none end (b ∷ bs) h = rw (ne_eqb b end (h 0 (omega arith)), field_none end bs (λ i l. h (suc i) (omega arith))) refl

pub Lacks-from : (end : ℕ) (bytes : List ℕ) → ((i : ℕ) → i < length bytes → get_or bytes i 0 ≢ end) → Lacks end bytes
Lacks-from end [] h = refl
Lacks-from end (b ∷ bs) h = and_from (not (eqb b end)) (list_all (λ c. not (eqb c end)) bs) (not_from_false (eqb b end) (ne_eqb b end (h 0 (omega arith)))) (Lacks-from end bs (λ i l. h (suc i) (omega arith)))

-- what `split_once` returns
pub split_field : (end : ℕ) (bytes : List ℕ) (r : Option (Bor (List ℕ) × Bor (List ℕ))) → IsSplitOnceResult end bytes r → end < 128 → option_map (λ x. (x.0.now, x.1.now)) r ≡ field_at end bytes
split_field end bytes None h low = sym (field_none end bytes (split_parts end bytes None h low))
split_field end bytes (Some x) h low =
    let p = split_parts end bytes (Some x) h low in
    sym (ap (field_at end) p.0 ∙ field_again end x.0.now x.1.now (Lacks-from end x.0.now p.1))

-- ---- numbers

pub own : IsNumeralModel (AllDigits 10) (digits_value 10)
own = numerals_by_value (AllDigits 10) tells_digits

pub number_again : (n : ℕ) → n < 2 ^ 64 → number_in (decimal n) ≡ Some n
unfolding number_in
number_again n lt = rw (digits_value-decimal own n lt, lt-ltb n (2 ^ 64) lt, (bytes_eq-Decides (decimal n) (decimal n)).1 refl) refl

pub number_takes : (word : List ℕ) (n : ℕ) → number_in word ≡ Some n → (word ≡ decimal n) × (n < 2 ^ 64)
unfolding number_in
number_takes word n e =
    let v = digits_value 10 word in
    let g = cond_some (ltb v (2 ^ 64) && bytes_eq (decimal v) word) v n e in
    let p = and_parts (ltb v (2 ^ 64)) (bytes_eq (decimal v) word) g.0 in
    let same : decimal v ≡ word = (bytes_eq-Decides (decimal v) word).0 p.1 in
    (sym same ∙ ap decimal g.1, subst (λ (k : ℕ). k < 2 ^ 64) g.1 (ltb-true v (2 ^ 64) p.0))

number_none : {E : Type 0} (word : List ℕ) (r : Result ℕ E) → ParsesUnsigned 64 10 word r → ((n : ℕ) → r ≡ Ok n → decimal n ≡ word → ⊥) → number_in word ≡ None
number_none word r h other =
    elim (number_in word) as (λ o. number_in word ≡ o → number_in word ≡ None) [
      | Some n ↦ λ e. let t = number_takes word n e in absurd (other n (parse-decimal 64 n word r t.1 t.1 t.0 h) (sym t.0))
      | None ↦ λ e. e
    ] refl

same_ok : {E A : Type 0} (r : Result A E) (x y : A) → r ≡ Ok x → r ≡ Ok y → x ≡ y
same_ok r x y p q = cc

pub number_if_ok : {E : Type 0} (word : List ℕ) (n : ℕ) (r : Result ℕ E) → r ≡ Ok n → ParsesUnsigned 64 10 word r → then_some (bytes_eq (decimal n) word) n ≡ number_in word
number_if_ok {E} word n r is h =
    let at = subst (λ (q : Result ℕ E). ParsesUnsigned 64 10 word q) is h in
    elim (bytes_eq (decimal n) word) as (λ t. bytes_eq (decimal n) word ≡ t → then_some t n ≡ number_in word) [
      | true ↦ λ p.
          let same : decimal n ≡ word = (bytes_eq-Decides (decimal n) word).0 p in
          let below : n < 2 ^ 64 = subst (λ (k : ℕ). k < 2 ^ 64) (sym at.1) at.0.1 in
          sym (number_again n below) ∙ ap number_in same
      | false ↦ λ p.
          sym (number_none word r h (λ m e d. false≢true (sym p ∙ (bytes_eq-Decides (decimal n) word).1 (ap decimal (same_ok r n m is e) ∙ d))))
    ] refl

pub number_if_err : {E : Type 0} (word : List ℕ) (e : E) (r : Result ℕ E) → r ≡ Err e → ParsesUnsigned 64 10 word r → None ≡ number_in word
number_if_err word e r is h = sym (number_none word r h (λ n p d. absurd cc))

-- ---- numbers with a sign

below_takes : (o : Option ℕ) (z : ℤ) → below_zero o ≡ Some z → (n : ℕ) × (o ≡ Some (suc n)) × (negsuc n ≡ z) × (n < 2 ^ 63)
below_takes None z e = absurd cc
below_takes (Some zero) z e = absurd cc
below_takes (Some (suc n)) z e = let g = cond_some (ltb n (2 ^ 63)) (negsuc n) z e in (n, refl, g.1, ltb-true n (2 ^ 63) g.0)

from_takes : (o : Option ℕ) (z : ℤ) → from_zero o ≡ Some z → (n : ℕ) × (o ≡ Some n) × (pos n ≡ z) × (n < 2 ^ 63)
from_takes None z e = absurd cc
from_takes (Some n) z e = let g = cond_some (ltb n (2 ^ 63)) (pos n) z e in (n, refl, g.1, ltb-true n (2 ^ 63) g.0)

pub signed_takes : (word : List ℕ) (z : ℤ) → signed_in word ≡ Some z → (word ≡ signed_decimal z) × (mag z < 2 ^ 63)
unfolding signed_in
signed_takes [] z e = absurd cc
signed_takes (b ∷ bs) z e =
    elim (eqb b 45) as (λ t. eqb b 45 ≡ t → cond t (below_zero (number_in bs)) (from_zero (number_in (b ∷ bs))) ≡ Some z → (b ∷ bs ≡ signed_decimal z) × (mag z < 2 ^ 63)) [
      | true ↦ λ p q.
          let t = below_takes (number_in bs) z q in
          let digits : bs ≡ decimal (suc t.0) = (number_takes bs (suc t.0) t.1).0 in
          subst (λ (y : ℤ). (b ∷ bs ≡ signed_decimal y) × (mag y < 2 ^ 63)) t.2 (ap (λ (l : List ℕ). b ∷ l) digits ∙ ap (λ (c : ℕ). c ∷ decimal (suc t.0)) (eqb-true b 45 p), t.3)
      | false ↦ λ p q.
          let t = from_takes (number_in (b ∷ bs)) z q in
          subst (λ (y : ℤ). (b ∷ bs ≡ signed_decimal y) × (mag y < 2 ^ 63)) t.2 ((number_takes (b ∷ bs) t.0 t.1).0, t.3)
    ] refl e

without_sign : (word : List ℕ) → 0 < length word → get_or word 0 0 ≢ 45 → signed_in word ≡ from_zero (number_in word)
unfolding signed_in
without_sign [] some ne = absurd (omega arith)
without_sign (b ∷ bs) some ne = rw (ne_eqb b 45 ne) refl

pub signed_again : (z : ℤ) → mag z < 2 ^ 63 → signed_in (signed_decimal z) ≡ Some z
unfolding signed_in
signed_again (pos n) lt =
    let below : n < 2 ^ 64 = omega arith in
    let some : 0 < length (decimal n) = decimal_nonempty n below in
    let first = digit_at (decimal n) 0 (digits_decimal own n below) some in
    without_sign (decimal n) some (λ e. absurd (omega (arith, first.0, first.1, e))) ∙ rw (number_again n below, lt-ltb n (2 ^ 63) lt) refl
signed_again (negsuc n) lt =
    let below : suc n < 2 ^ 64 = omega arith in
    rw (number_again (suc n) below, lt-ltb n (2 ^ 63) lt) refl

signed_none : {E : Type 0} (word : List ℕ) (r : Result ℤ E) → ParsesSigned w64 10 word r → ((z : ℤ) → r ≡ Ok z → signed_decimal z ≡ word → ⊥) → signed_in word ≡ None
signed_none word r h other =
    elim (signed_in word) as (λ o. signed_in word ≡ o → signed_in word ≡ None) [
      | Some z ↦ λ e. let t = signed_takes word z e in absurd (other z (parse-signed_decimal w64 z word r (record { sfits = t.1 }) t.1 t.0 h) (sym t.0))
      | None ↦ λ e. e
    ] refl

pub signed_if_ok : {E : Type 0} (word : List ℕ) (z : ℤ) (r : Result ℤ E) → r ≡ Ok z → ParsesSigned w64 10 word r → then_some (bytes_eq (signed_decimal z) word) z ≡ signed_in word
signed_if_ok {E} word z r is h =
    let at = subst (λ (q : Result ℤ E). ParsesSigned w64 10 word q) is h in
    elim (bytes_eq (signed_decimal z) word) as (λ t. bytes_eq (signed_decimal z) word ≡ t → then_some t z ≡ signed_in word) [
      | true ↦ λ p.
          let same : signed_decimal z ≡ word = (bytes_eq-Decides (signed_decimal z) word).0 p in
          let fits : FitsSigned w64 z = subst (λ (y : ℤ). FitsSigned w64 y) (sym at.1) at.0.1 in
          sym (signed_again z fits.sfits) ∙ ap signed_in same
      | false ↦ λ p.
          sym (signed_none word r h (λ y e d. false≢true (sym p ∙ (bytes_eq-Decides (signed_decimal z) word).1 (ap signed_decimal (same_ok r z y is e) ∙ d))))
    ] refl

pub signed_fits : {E : Type 0} (word : List ℕ) (z : ℤ) (r : Result ℤ E) → r ≡ Ok z → ParsesSigned w64 10 word r → FitsSigned w64 z
signed_fits {E} word z r is h =
    let at = subst (λ (q : Result ℤ E). ParsesSigned w64 10 word q) is h in
    subst (λ (y : ℤ). FitsSigned w64 y) (sym at.1) at.0.1

pub signed_if_err : {E : Type 0} (word : List ℕ) (e : E) (r : Result ℤ E) → r ≡ Err e → ParsesSigned w64 10 word r → None ≡ signed_in word
signed_if_err word e r is h = sym (signed_none word r h (λ z p d. absurd cc))
