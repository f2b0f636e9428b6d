-- Lines and rows of a table, row by row: lines as `du -k` writes them.
use Rattle.std.specs.Prelude.{◌≡◌, false, [], ◌∷◌, ◌++◌, codes, refl}
use Rattle.std.specs.Fmt.{digits}
use Rattle.program_parts.specs.declared.paths.Style.{Style}
use Rattle.tally_text.specs.declared.layout.Layout.{Layout}
use Rattle.tally_text.specs.declared.scale.Scale.TheVariants.{Human, Kibibytes, Bytes}
use Rattle.tally_text.specs.Layout.{row_text}
use Rattle.tally_text.specs.Line.{line_of}

-- paths as they are, each ended by a line feed
abbrev plain : Style
plain = record { here = false; to_terminal = false; separator = 10 }

-- a bar of four columns, for a total of 4,096 bytes
abbrev small : Layout
small = record { scale = Human; column = 8; bar = 4; total = 4096; to_terminal = false }

below_a_root : line_of Kibibytes plain 1025 (codes "/usr") (codes "lib") ≡ codes "2" ++ 9 ∷ codes "/usr/lib" ++ 10 ∷ []
unfolding digits
below_a_root = refl

the_root : line_of Bytes plain 1025 [] (codes ".") ≡ codes "1025" ++ 9 ∷ codes "." ++ 10 ∷ []
unfolding digits
the_root = refl

ended_by_zero : line_of Bytes (record plain { separator = 0 }) 0 (codes ".") (codes "a") ≡ codes "0" ++ 9 ∷ codes "./a" ++ 0 ∷ []
unfolding digits
ended_by_zero = refl

first_level : row_text small 0 1024 (codes "lib") ≡ codes " 1.0 KiB  #...  lib" ++ 10 ∷ []
unfolding digits
first_level = refl

second_level : row_text small 1 512 (codes "a") ≡ codes "   512 B  ....    a" ++ 10 ∷ []
unfolding digits
second_level = refl

whole_bar : row_text small 0 4096 (codes "/usr") ≡ codes " 4.0 KiB  ####  /usr" ++ 10 ∷ []
unfolding digits
whole_bar = refl

no_bars : row_text (record small { bar = 0 }) 0 4096 (codes "/usr") ≡ codes " 4.0 KiB  /usr" ++ 10 ∷ []
unfolding digits
no_bars = refl
