-- Sizes as texts.
use Rattle.std.specs.Prelude.{ℕ, ◌*◌, ◌-◌, ◌/◌, ◌%◌, ◌^◌, nat_le, nat_lt, List, [], ◌∷◌, ◌++◌, codes, decimal, find, unwrap_or, slice_index, if◌then◌else◌}
use Rattle.std.specs.Int.{div_ceil}
use Rattle.tally_text.specs.declared.scale.Scale.{Scale}
use Rattle.tally_text.specs.declared.scale.Scale.TheVariants.{Human, Decimal, Kibibytes, Mebibytes, Bytes}

-- the power of a step for a size of at least one step: the first in which the size, rounded up, has fewer units than the
-- step, or the tenth
abbrev pub power_for : ℕ → ℕ → ℕ
power_for step bytes =
    unwrap_or (find (λ power. nat_lt (div_ceil bytes (step ^ power)) step) (1 ∷ 2 ∷ 3 ∷ 4 ∷ 5 ∷ 6 ∷ 7 ∷ 8 ∷ 9 ∷ [])) 10

-- a number of tenths, with one decimal
abbrev pub in_tenths : ℕ → List ℕ
in_tenths tenths = decimal (tenths / 10) ++ codes "." ++ decimal (tenths % 10)

-- a size in a unit, rounded up: with one decimal up to 9.9, and with none above
abbrev pub amount_in : ℕ → ℕ → List ℕ
amount_in unit bytes =
    if nat_le (10 * bytes) (99 * unit) then in_tenths (div_ceil (10 * bytes) unit) else decimal (div_ceil bytes unit)

-- a size of at least one step, in the power of the step that suits it, with a letter from the first power on, and an ending
abbrev pub in_units : ℕ → List ℕ → List ℕ → ℕ → List ℕ
in_units step letters ending bytes =
    amount_in (step ^ power_for step bytes) bytes ++ codes " " ++ slice_index letters (power_for step bytes - 1) ∷ ending

-- a size by units of a step, in bytes below one step
abbrev scaled : ℕ → List ℕ → List ℕ → ℕ → List ℕ
scaled step letters ending bytes = if nat_lt bytes step then decimal bytes ++ codes " B" else in_units step letters ending bytes

-- the written form of a size
abbrev pub size_text : Scale → ℕ → List ℕ
size_text Human bytes = scaled 1024 (codes "KMGTPEZYRQ") (codes "iB") bytes
size_text Decimal bytes = scaled 1000 (codes "kMGTPEZYRQ") (codes "B") bytes
size_text Kibibytes bytes = decimal (div_ceil bytes 1024)
size_text Mebibytes bytes = decimal (div_ceil bytes 1_048_576)
size_text Bytes bytes = decimal bytes
