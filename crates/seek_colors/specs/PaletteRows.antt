-- The colours of values of `LS_COLORS`, row by row.
use Rattle.std.specs.Prelude.{◌≡◌, ℕ, true, false, List, [], ◌∷◌, ◌++◌, codes, Option, Some, None, refl}
use Rattle.seek_colors.specs.Palette.{color_of, colored_path, palette_in, tells_broken}
use Rattle.seek_colors.specs.declared.kind.Kind.{Kind}
use Rattle.seek_colors.specs.declared.kind.Kind.TheVariants.{Directory, Link, BrokenLink, File}

abbrev color : List ℕ → Kind → List ℕ → Option (List ℕ)
color text = color_of (palette_in text)

row_default : color [] (Directory 0) (codes "d") ≡ Some (codes "01;34")
row_default = refl

row_none : color [] (File 0) (codes "f") ≡ None
row_none = refl

row_last : color (codes "di=31:di=32") (Directory 0) (codes "d") ≡ Some (codes "32")
row_last = refl

row_zero : color (codes "di=0") (Directory 0) (codes "d") ≡ None
row_zero = refl

row_malformed : color (codes "ln=target:di:di=3 ") (Directory 0) (codes "d") ≡ Some (codes "01;34")
row_malformed = refl

row_broken : color (codes "or=:ln=31") BrokenLink (codes "l") ≡ Some (codes "31")
row_broken = refl

row_tells : tells_broken (palette_in []) ≡ true
row_tells = refl

row_tells_nothing : tells_broken (palette_in (codes "or=0")) ≡ false
row_tells_nothing = refl

row_tells_the_same : tells_broken (palette_in (codes "or=31:ln=31")) ≡ false
row_tells_the_same = refl

row_suffix : color (codes "fi=31:*.c=32") (File 0) (codes "A.C") ≡ Some (codes "32")
row_suffix = refl

row_executable : color (codes "*.c=32") (File 73) (codes "a.c") ≡ Some (codes "01;32")
row_executable = refl

row_not_of_a_link : color (codes "*.c=32") Link (codes "a.c") ≡ Some (codes "01;36")
row_not_of_a_link = refl

row_normal : color (codes "no=31") (File 0) (codes "f") ≡ Some (codes "31")
row_normal = refl

row_path : colored_path (palette_in (codes "di=1")) (File 0) (codes "a") (codes "f") ≡ 27 ∷ codes "[1ma/" ++ 27 ∷ codes "[0mf"
row_path = refl

row_set_user : color [] (File 2541) (codes "f") ≡ Some (codes "37;41")
row_set_user = refl

row_set_group : color (codes "su=0") (File 3565) (codes "f") ≡ Some (codes "30;43")
row_set_group = refl

row_neither : color (codes "su=:sg=00") (File 3565) (codes "f") ≡ Some (codes "01;32")
row_neither = refl

row_sticky_and_writable : color [] (Directory 1023) (codes "d") ≡ Some (codes "30;42")
row_sticky_and_writable = refl

row_writable : color (codes "tw=0") (Directory 1023) (codes "d") ≡ Some (codes "34;42")
row_writable = refl

row_sticky : color [] (Directory 1005) (codes "d") ≡ Some (codes "37;44")
row_sticky = refl

row_plain_directory : color (codes "st=:ow=:tw=") (Directory 1023) (codes "d") ≡ Some (codes "01;34")
row_plain_directory = refl
