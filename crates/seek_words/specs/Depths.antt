-- The depths of what is looked for.
use Rattle.std.specs.Prelude.{ℕ, Bool, true, ◌&&◌, nat_lt, nat_le, Option, None, Some}
use Rattle.seek_words.specs.declared.depths.Depths.{Depths}

-- whether a depth isn't below the greatest one
abbrev pub is_above : Option ℕ → ℕ → Bool
is_above None depth = true
is_above (Some greatest) depth = nat_le depth greatest

-- whether an entry of this depth is looked for: it isn't the root, and is from the least depth to the greatest
abbrev pub has_depth : Depths → ℕ → Bool
has_depth depths depth = nat_lt 0 depth && (nat_le depths.least depth && is_above depths.greatest depth)
