-- When paths are printed in colors.
use Rattle.std.specs.Prelude.{ℕ, List, Option, None, Some, bytes_eq, codes, if◌then◌else◌}
use Rattle.seek_words.specs.declared.color.Color.{Color}
use Rattle.seek_words.specs.declared.color.Color.TheVariants.{Auto, Always, Never}

-- the time that a text names
abbrev pub color_in : List ℕ → Option Color
color_in text =
    if bytes_eq text (codes "auto") then Some Auto else if bytes_eq text (codes "always") then Some Always else if bytes_eq text (codes "never") then Some Never else None
