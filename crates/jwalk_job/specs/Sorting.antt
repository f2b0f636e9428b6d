-- The numbers by which a long list is first put in order.
use Rattle.std.specs.Prelude.{ℕ, ◌-◌, ◌^◌, List, ◌++◌, length, take, drop, replicate, Ok, Err}
use Rattle.std.specs.Int.{from_be_bytes, w64}
use Rattle.jwalk_model.specs.Entry.{Item}

-- the first eight bytes as a number, where missing ones are zero
abbrev pub number : List ℕ → ℕ
number bytes = from_be_bytes w64 (take 8 bytes ++ replicate (8 - length bytes) 0)

-- the number of an entry's name from a place on; the greatest number for an error
abbrev pub key_of : {R E : Type 0} → ℕ → Item R E → ℕ
key_of from (Ok e) = number (drop from e.file_name)
key_of from (Err f) = 2 ^ 64 - 1
