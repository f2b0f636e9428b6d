-- The statuses of owners that aren't known.
use Rattle.std.specs.Prelude.{ℕ}
use Rattle.seek_found.specs.declared.owner.Unowned.{Unowned}
use Rattle.seek_found.specs.declared.owner.Unowned.TheVariants.{Text, File, Memory}

-- the status of the program: a text that isn't an owner is a bad word
abbrev pub status_of : Unowned → ℕ
status_of (Text text) = 2
status_of (File file error) = 1
status_of Memory = 1
