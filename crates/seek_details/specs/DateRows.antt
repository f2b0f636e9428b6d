-- Times as `date -u +'%Y-%m-%d %H:%M:%S'` writes them, row by row, and the calendar that they follow.
use Rattle.std.specs.Prelude.{◌≡◌, ◌+◌, ◌-◌, pos, negsuc, [], ◌∷◌, map, codes, refl}
use Rattle.std.specs.Fmt.{digits}
use Rattle.std.specs.List.{range_with_len}
use Rattle.seek_details.specs.Date.{clock_text, date_text, march_days, month_days, part_of, time_text}

lengths_of_months : map (λ m. month_days (m + 1) - month_days m) (range_with_len 0 11) ≡ 31 ∷ 30 ∷ 31 ∷ 30 ∷ 31 ∷ 31 ∷ 30 ∷ 31 ∷ 30 ∷ 31 ∷ 31 ∷ []
lengths_of_months = refl

leap_years : map (λ y. march_days (y + 1) - march_days y) (2 ∷ 3 ∷ 4 ∷ 99 ∷ 199 ∷ 299 ∷ 399 ∷ []) ≡ 365 ∷ 366 ∷ 365 ∷ 365 ∷ 365 ∷ 365 ∷ 366 ∷ []
leap_years = refl

beginning : time_text (pos 0) ≡ codes "1970-01-01 00:00:00"
unfolding digits part_of clock_text date_text time_text
beginning = refl

second_before : time_text (negsuc 0) ≡ codes "1969-12-31 23:59:59"
unfolding digits part_of clock_text date_text time_text
second_before = refl

leap_day : time_text (pos 951782400) ≡ codes "2000-02-29 00:00:00"
unfolding digits part_of clock_text date_text time_text
leap_day = refl

cycle_begins : time_text (pos 951868800) ≡ codes "2000-03-01 00:00:00"
unfolding digits part_of clock_text date_text time_text
cycle_begins = refl

end_of_a_year : time_text (pos 1735689599) ≡ codes "2024-12-31 23:59:59"
unfolding digits part_of clock_text date_text time_text
end_of_a_year = refl

no_leap_day : time_text (pos 4107542399) ≡ codes "2100-02-28 23:59:59"
unfolding digits part_of clock_text date_text time_text
no_leap_day = refl

after_it : time_text (pos 4107542400) ≡ codes "2100-03-01 00:00:00"
unfolding digits part_of clock_text date_text time_text
after_it = refl

before_1970 : time_text (negsuc 2203845903) ≡ codes "1900-03-01 12:34:56"
unfolding digits part_of clock_text date_text time_text
before_1970 = refl
