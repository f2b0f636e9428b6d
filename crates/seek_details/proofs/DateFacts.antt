-- Years and months that begin on 1 March.
use Rattle.std.proofs.Common.{◌≡◌, ◌∙◌, ◌≤◌, ◌<◌, ◌+◌, ℕ, ℤ, pos, negsuc, ◌^◌, nat_lt, length, ap, sym, arith}
use Rattle.std.specs.Int.{int_div_euclid}
use Rattle.std.specs.List.{range_with_len}
use Rattle.std.proofs.Math.ListN.{get_or}
use Rattle.std.proofs.lemmas.Bool.{le-ltb, lt-ltb}
use Rattle.std.proofs.lemmas.Int.{ints}
use Rattle.std.proofs.lemmas.List.FromFn.{get_or-range_with_len, length-range_with_len}
use Rattle.std.proofs.lemmas.List.Sums.{position_or_len_is}
use Rattle.seek_details.specs.Date.{IsWithin, civil_text, clock_at, date_and_clock, date_text, day_at, day_of, march_days, month_days, month_of, part_of, time_text, year_of}

number_at : (count k : ℕ) → k < count → get_or (range_with_len 0 count) k 0 ≡ k
number_at count k below =
    let same : 0 + k ≡ k = omega arith in get_or-range_with_len 0 count k 0 below ∙ same

-- the part that ends after a day, if those before it don't
part_found : (days : ℕ → ℕ) (count day part : ℕ) → part < count → ((k : ℕ) → k < part → days (k + 1) ≤ day) → day < days (part + 1) → part ≡ part_of days count day
unfolding part_of
part_found days count day part below before here =
    let most : part ≤ length (range_with_len 0 count) = omega (arith, below, length-range_with_len 0 count) in
    sym (position_or_len_is (λ p. nat_lt day (days (p + 1))) (range_with_len 0 count) part 0 most
    (λ k less.
    let in_range : k < count = omega (arith, less, below) in
    ap (λ p. nat_lt day (days (p + 1))) (number_at count k in_range) ∙ le-ltb day (days (k + 1)) (before k less))
    (λ less. ap (λ p. nat_lt day (days (p + 1))) (number_at count part below) ∙ lt-ltb day (days (part + 1)) here))

-- years end in their order
years_grow : (k n : ℕ) → k + 1 ≤ n → march_days (k + 1) ≤ march_days n
years_grow k n below = omega arith

-- months end in their order
months_grow : (k n : ℕ) → k + 1 ≤ n → month_days (k + 1) ≤ month_days n
months_grow k n below = omega arith

-- the year that a day is in
pub year_found : (day year : ℕ) → year < 400 → march_days year ≤ day → day < march_days (year + 1) → year ≡ part_of march_days 400 day
year_found day year below starts ends =
    part_found march_days 400 day year below (λ k less. let grows : march_days (k + 1) ≤ march_days year = years_grow k year (omega (arith, less)) in omega (arith, grows, starts)) ends

-- the month that a day is in
pub month_found : (day month : ℕ) → month < 12 → month_days month ≤ day → day < month_days (month + 1) → month ≡ part_of month_days 12 day
month_found day month below starts ends =
    part_found month_days 12 day month below (λ k less. let grows : month_days (k + 1) ≤ month_days month = months_grow k month (omega (arith, less)) in omega (arith, grows, starts)) ends

-- a quotient of few days is small
pub few_cycles : (z cycle : ℤ) → cycle ≡ int_div_euclid z (pos 146097) → IsWithin (2 ^ 48) z → IsWithin (2 ^ 31) cycle
few_cycles (pos n) cycle is within = rw is (omega (arith, ints))
few_cycles (negsuc n) cycle is within = rw is (omega (arith, ints))

-- the text of a day's year, month and day
pub date_shown : (day d year : ℤ) (month n : ℕ) → d ≡ day → year ≡ year_of d → month ≡ month_of d → n ≡ day_of d → civil_text year month n ≡ date_text day
unfolding date_text
date_shown day d year month n same is_year is_month is_day =
    ap (λ y. civil_text y month n) (is_year ∙ ap year_of same) ∙ ap (λ m. civil_text (year_of day) m n) (is_month ∙ ap month_of same)
    ∙ ap (λ k. civil_text (year_of day) (month_of day) k) (is_day ∙ ap day_of same)

-- the text of a second's day, and of the second of that day
pub time_shown : (second s day d : ℤ) (clock : ℕ) → s ≡ second → day ≡ d → d ≡ day_at s → clock ≡ clock_at s → date_and_clock day clock ≡ time_text second
unfolding time_text
time_shown second s day d clock same same_day is_day is_clock =
    ap (λ y. date_and_clock y clock) (same_day ∙ is_day ∙ ap day_at same) ∙ ap (λ k. date_and_clock (day_at second) k) (is_clock ∙ ap clock_at same)
