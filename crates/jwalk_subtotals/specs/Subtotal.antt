-- Sums over answers.
use Rattle.std.specs.Prelude.{◌≤◌, ◌+◌, ◌^◌, ℕ, max}
use Rattle.jwalk_subtotals.specs.declared.subtotal.Subtotal.{Subtotal}

-- the subtotal of no answers
abbrev pub nothing : Subtotal
nothing = record { bytes = 0; file_bytes = 0; files = 0; dirs = 0; links = 0; others = 0; errors = 0 }

-- the sums of two subtotals
abbrev pub plus : Subtotal → Subtotal → Subtotal
plus a b = record {
  bytes = a.bytes + b.bytes;
  file_bytes = a.file_bytes + b.file_bytes;
  files = a.files + b.files;
  dirs = a.dirs + b.dirs;
  links = a.links + b.links;
  others = a.others + b.others;
  errors = a.errors + b.errors;
}

-- the greatest of its seven numbers
abbrev pub greatest : Subtotal → ℕ
greatest t = max t.bytes (max t.file_bytes (max t.files (max t.dirs (max t.links (max t.others t.errors)))))

-- A number of it is no `u128`.
abbrev pub IsTooGreat : Subtotal → Type 0
IsTooGreat t = 2 ^ 128 ≤ greatest t
