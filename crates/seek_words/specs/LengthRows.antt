-- Lengths of time, row by row, as `fd --changed-within` reads them.
use Rattle.std.specs.Prelude.{◌≡◌, [], None, Some, codes, refl}
use Rattle.seek_words.specs.Length.{length_in, lengths_in}

hours : length_in (codes "2h") ≡ Some 7_200_000_000_000
unfolding lengths_in
hours = refl

added_up : length_in (codes "1d1d") ≡ Some 172_800_000_000_000
unfolding lengths_in
added_up = refl

with_spaces : length_in (codes " 2 h  30min ") ≡ Some 9_000_000_000_000
unfolding lengths_in
with_spaces = refl

a_month : length_in (codes "1M") ≡ Some 2_630_016_000_000_000
unfolding lengths_in
a_month = refl

a_minute : length_in (codes "1m") ≡ Some 60_000_000_000
unfolding lengths_in
a_minute = refl

long : length_in (codes "1000years") ≡ Some 31_557_600_000_000_000_000
unfolding lengths_in
long = refl

no_unit : length_in (codes "5") ≡ None
unfolding lengths_in
no_unit = refl

no_number : length_in (codes "h") ≡ None
unfolding lengths_in
no_number = refl

other_case : length_in (codes "1D") ≡ None
unfolding lengths_in
other_case = refl

no_comma : length_in (codes "1d,1d") ≡ None
unfolding lengths_in
no_comma = refl

nothing : length_in [] ≡ None
unfolding lengths_in
nothing = refl
