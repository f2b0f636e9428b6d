-- Output that is gathered before it is written.
use Rattle.std.specs.Prelude.{ℕ, Bool, ◌||◌, nat_le, List, length}

-- whether gathered bytes are to be written: at once for a terminal, and else if there are enough
abbrev pub are_due : Bool → List ℕ → Bool
are_due to_terminal bytes = to_terminal || nat_le 16384 (length bytes)
