-- Sizes as `du -h`, `du --si`, `du -k`, `du -m` and `du -b` write them, row by row. Where these write K or k here is KiB or
-- kB, and B behind bytes.
use Rattle.std.specs.Prelude.{◌≡◌, codes, refl}
use Rattle.std.specs.Fmt.{digits}
use Rattle.tally_text.specs.Scale.{size_text}
use Rattle.tally_text.specs.declared.scale.Scale.TheVariants.{Human, Decimal, Kibibytes, Mebibytes, Bytes}

nothing : size_text Human 0 ≡ codes "0 B"
unfolding digits
nothing = refl

few : size_text Human 512 ≡ codes "512 B"
unfolding digits
few = refl

most_bytes : size_text Human 1023 ≡ codes "1023 B"
unfolding digits
most_bytes = refl

one_unit : size_text Human 1024 ≡ codes "1.0 KiB"
unfolding digits
one_unit = refl

rounded_up : size_text Human 1025 ≡ codes "1.1 KiB"
unfolding digits
rounded_up = refl

tenths : size_text Human 1536 ≡ codes "1.5 KiB"
unfolding digits
tenths = refl

most_tenths : size_text Human 10137 ≡ codes "9.9 KiB"
unfolding digits
most_tenths = refl

no_tenths : size_text Human 10138 ≡ codes "10 KiB"
unfolding digits
no_tenths = refl

whole_units : size_text Human 10241 ≡ codes "11 KiB"
unfolding digits
whole_units = refl

most_units : size_text Human 1047552 ≡ codes "1023 KiB"
unfolding digits
most_units = refl

next_unit : size_text Human 1047553 ≡ codes "1.0 MiB"
unfolding digits
next_unit = refl

gibibytes : size_text Human 1503238554 ≡ codes "1.5 GiB"
unfolding digits
gibibytes = refl

tebibytes : size_text Human 7036874417766 ≡ codes "6.4 TiB"
unfolding digits
tebibytes = refl

no_kibibyte : size_text Kibibytes 0 ≡ codes "0"
unfolding digits
no_kibibyte = refl

part_of_one : size_text Kibibytes 1 ≡ codes "1"
unfolding digits
part_of_one = refl

one_and_a_part : size_text Kibibytes 1025 ≡ codes "2"
unfolding digits
one_and_a_part = refl

all_bytes : size_text Bytes 1047553 ≡ codes "1047553"
unfolding digits
all_bytes = refl

most_decimal_bytes : size_text Decimal 999 ≡ codes "999 B"
unfolding digits
most_decimal_bytes = refl

one_decimal_unit : size_text Decimal 1000 ≡ codes "1.0 kB"
unfolding digits
one_decimal_unit = refl

decimal_tenths : size_text Decimal 1024 ≡ codes "1.1 kB"
unfolding digits
decimal_tenths = refl

most_decimal_units : size_text Decimal 999000 ≡ codes "999 kB"
unfolding digits
most_decimal_units = refl

next_decimal_unit : size_text Decimal 999001 ≡ codes "1.0 MB"
unfolding digits
next_decimal_unit = refl

decimal_gigabytes : size_text Decimal 1503238554 ≡ codes "1.6 GB"
unfolding digits
decimal_gigabytes = refl

no_mebibyte : size_text Mebibytes 0 ≡ codes "0"
unfolding digits
no_mebibyte = refl

part_of_a_mebibyte : size_text Mebibytes 1 ≡ codes "1"
unfolding digits
part_of_a_mebibyte = refl

one_mebibyte : size_text Mebibytes 1048576 ≡ codes "1"
unfolding digits
one_mebibyte = refl

more_than_a_mebibyte : size_text Mebibytes 1048577 ≡ codes "2"
unfolding digits
more_than_a_mebibyte = refl
