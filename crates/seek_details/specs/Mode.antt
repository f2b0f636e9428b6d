-- The types and the rights of files.
use Rattle.std.specs.Prelude.{ℕ, ◌*◌, ◌==◌, Bool, not, bit_and, List, [], ◌∷◌, ◌++◌, if◌then◌else◌}

-- the letter of the format of a mode
abbrev letter_for : ℕ → ℕ
letter_for format =
    if format == 32768 then 45  -- `-`: a regular file
    else if format == 16384 then 100  -- `d`: a directory
    else if format == 40960 then 108  -- `l`: a link
    else if format == 4096 then 112  -- `p`: a pipe
    else if format == 49152 then 115  -- `s`: a socket
    else if format == 24576 then 98  -- `b`: a block device
    else if format == 8192 then 99  -- `c`: a character device
    else 63

-- the letter of the type of a mode, which is four of its bits
abbrev pub format_letter : ℕ → ℕ
format_letter mode = letter_for (bit_and mode 61440)

-- whether a mode has a bit
abbrev pub has_bit : ℕ → ℕ → Bool
has_bit mode bit = not (bit_and mode bit == 0)

-- the letter of a right, or a dash without it
abbrev pub right_letter : ℕ → ℕ → ℕ → ℕ
right_letter mode bit letter = if has_bit mode bit then letter else 45

-- the letter of the right to execute, beside a special bit that shows as one letter with this right, and as another
-- without it
abbrev pub execute_letter : ℕ → ℕ → ℕ → ℕ → ℕ → ℕ
execute_letter mode bit special both alone =
    if has_bit mode special then (if has_bit mode bit then both else alone) else right_letter mode bit 120

-- the rights of a class of users, which differ by a factor: to read (`r`), to write (`w`) and to execute (`x`)
abbrev pub class_text : ℕ → ℕ → ℕ → ℕ → ℕ → List ℕ
class_text mode factor special both alone =
    right_letter mode (4 * factor) 114 ∷ right_letter mode (2 * factor) 119 ∷ execute_letter mode factor special both alone ∷ []

-- the type and the rights of a mode: those of the owner with `s` or `S` for the set-uid bit, those of the group with the
-- same for the set-gid bit, and those of others with `t` or `T` for the sticky bit
abbrev pub mode_text : ℕ → List ℕ
mode_text mode =
    format_letter mode ∷ class_text mode 64 2048 115 83 ++ class_text mode 8 1024 115 83 ++ class_text mode 1 512 116 84
