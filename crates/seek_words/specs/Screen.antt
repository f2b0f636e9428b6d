-- What paths are printed to.
use Rattle.std.specs.Prelude.{Bool, true, false, not, ◌&&◌}
use Rattle.seek_words.specs.declared.color.Color.{Color}
use Rattle.seek_words.specs.declared.color.Color.TheVariants.{Auto, Always, Never}
use Rattle.seek_words.specs.declared.screen.Screen.{Screen}

-- whether paths are printed in colors: by default on a terminal, unless no colors are wanted
abbrev pub is_colored : Screen → Color → Bool
is_colored screen Auto = screen.is_terminal && not screen.no_color
is_colored screen Always = true
is_colored screen Never = false
