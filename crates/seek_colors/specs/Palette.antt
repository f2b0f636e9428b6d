-- The colours of entries.
use Rattle.std.specs.Prelude.{◌≡◌, ℕ, ◌==◌, Bool, true, ◌&&◌, not, bit_and, List, [], ◌∷◌, ◌++◌, length, bytes_eq, codes, Option, Some, None, IfSome, if◌then◌else◌}
use Rattle.std.specs.List.{filter, filter_map, list_all}
use Rattle.std.specs.Option.{is_none, option_eq, option_map, option_or}
use Rattle.jwalk_model.specs.Paths.{starts_with_slash, with_slash}
use Rattle.seek_colors.specs.Entries.{entries_in, is_color_byte}
use Rattle.seek_colors.specs.Painted.{painted}
use Rattle.seek_colors.specs.Table.{entries_of, key_color, suffix_color}
use Rattle.seek_colors.specs.declared.kind.Kind.{Kind}
use Rattle.seek_colors.specs.declared.kind.Kind.TheVariants.{Directory, Link, BrokenLink, File, Pipe, Socket, BlockDevice, CharDevice, Other}
use Rattle.seek_colors.specs.declared.palette.Palette.{Palette}

-- Colours: those of kinds, by two letters, and those of the ends of names. The last of a key counts.
pub record Colors : Type 0 where
  pub kinds : List (List ℕ × List ℕ)
  pub suffixes : List (List ℕ × List ℕ)

-- the colours of a palette
abbrev pub colors_of : Palette → Colors
colors_of palette = record { kinds = entries_of palette.kinds; suffixes = entries_of palette.suffixes }

-- the end of names that a key is for: what is after its `*`
abbrev pub suffix_in : List ℕ → Option (List ℕ)
suffix_in [] = None
suffix_in (c ∷ cs) = if c == 42 then Some cs else None

-- the entries whose keys are for kinds
abbrev pub kinds_in : List (List ℕ × List ℕ) → List (List ℕ × List ℕ)
kinds_in = filter (λ entry. is_none (suffix_in entry.0))

-- the entries whose keys are for the ends of names, by these ends
abbrev pub suffixes_in : List (List ℕ × List ℕ) → List (List ℕ × List ℕ)
suffixes_in = filter_map (λ entry. option_map (λ suffix. (suffix, entry.1)) (suffix_in entry.0))

-- the default colours
abbrev pub defaults : List ℕ
defaults = codes "di=01;34:ln=01;36:ex=01;32:pi=40;33:so=01;35:bd=40;33;01:cd=40;33;01:or=40;31;01"

-- the default colours of kinds that a mode tells
abbrev pub mode_defaults : List ℕ
mode_defaults = codes "su=37;41:sg=30;43:tw=30;42:ow=34;42:st=37;44"

-- the colours of the value of `LS_COLORS`
abbrev pub palette_in : List ℕ → Colors
palette_in text = record {
  kinds = (kinds_in (entries_in defaults) ++ kinds_in (entries_in mode_defaults)) ++ kinds_in (entries_in text);
  suffixes = (suffixes_in (entries_in defaults) ++ suffixes_in (entries_in mode_defaults)) ++ suffixes_in (entries_in text);
}

-- whether a colour differs from that of any text
abbrev pub is_visible : List ℕ → Bool
is_visible color = not (length color == 0) && (not (bytes_eq color (codes "0")) && not (bytes_eq color (codes "00")))

-- a colour that does
abbrev pub visible : Option (List ℕ) → Option (List ℕ)
visible None = None
visible (Some color) = if is_visible color then Some color else None

-- the colour of a regular file by its name, or else of all
abbrev pub name_color : Colors → List ℕ → Option (List ℕ)
name_color colors name = option_or (suffix_color colors.suffixes name) (key_color colors.kinds (codes "fi"))

-- whether a mode has all of these bits
abbrev pub has_all : ℕ → ℕ → Bool
has_all mode bits = bit_and mode bits == bits

-- whether it has any of them
abbrev pub has_any : ℕ → ℕ → Bool
has_any mode bits = not (bit_and mode bits == 0)

-- the colour of a key that is for some bits of a mode, if the mode has them and the colour is visible
abbrev pub marked : Colors → Bool → List ℕ → Option (List ℕ)
marked colors has_bits key = if has_bits then visible (key_color colors.kinds key) else None

-- the colour of a regular file of a mode, as `ls` chooses it: that of files that run as their user (04000), as their group (02000), or that may be executed, or else that of its name
abbrev pub file_color : Colors → ℕ → List ℕ → Option (List ℕ)
file_color colors mode name =
    option_or (option_or (option_or (marked colors (has_all mode 2048) (codes "su")) (marked colors (has_all mode 1024) (codes "sg"))) (marked colors (has_any mode 73) (codes "ex"))) (name_color colors name)

-- the colour of a directory of a mode, as `ls` chooses it: that of those that are sticky (01000) and that others may write to (0002), that others may write to, or that are sticky, or else that of all
abbrev pub directory_color : Colors → ℕ → Option (List ℕ)
directory_color colors mode =
    option_or (option_or (option_or (marked colors (has_all mode 514) (codes "tw")) (marked colors (has_all mode 2) (codes "ow"))) (marked colors (has_all mode 512) (codes "st"))) (key_color colors.kinds (codes "di"))

-- the colour that is given to a kind and a name
abbrev pub own_color : Colors → Kind → List ℕ → Option (List ℕ)
own_color colors (Directory mode) name = directory_color colors mode
own_color colors Link name = key_color colors.kinds (codes "ln")
own_color colors BrokenLink name = option_or (visible (key_color colors.kinds (codes "or"))) (key_color colors.kinds (codes "ln"))
own_color colors (File mode) name = file_color colors mode name
own_color colors Pipe name = key_color colors.kinds (codes "pi")
own_color colors Socket name = key_color colors.kinds (codes "so")
own_color colors BlockDevice name = key_color colors.kinds (codes "bd")
own_color colors CharDevice name = key_color colors.kinds (codes "cd")
own_color colors Other name = None

-- the colour of an entry: its own, or that of all without one, if it is visible
abbrev pub color_of : Colors → Kind → List ℕ → Option (List ℕ)
color_of colors kind name = visible (option_or (own_color colors kind name) (key_color colors.kinds (codes "no")))

-- whether the colour of a link tells if it leads nowhere: it has another colour then
abbrev pub tells_broken : Colors → Bool
tells_broken colors = not (option_eq bytes_eq (color_of colors BrokenLink []) (color_of colors Link []))

-- each colour of an entry is of digits and `;` alone
abbrev pub GivesColorsAlone : Colors → Type 0
GivesColorsAlone colors = (kind : Kind) (name : List ℕ) → IfSome (color_of colors kind name) (λ color. list_all is_color_byte color ≡ true)

-- the path of a folder with its last slash, in the colour of directories
abbrev pub colored_folder : Colors → List ℕ → List ℕ
colored_folder colors [] = []
colored_folder colors (c ∷ cs) = painted (color_of colors (Directory 0) []) (with_slash (c ∷ cs))

-- the path of a name in a folder: both in their colours, and the name alone if it is a path from the root
abbrev pub colored_path : Colors → Kind → List ℕ → List ℕ → List ℕ
colored_path colors kind folder name =
    (if starts_with_slash name then [] else colored_folder colors folder) ++ painted (color_of colors kind name) name
