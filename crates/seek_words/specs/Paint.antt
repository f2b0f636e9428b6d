-- Paths in colors.
use Rattle.std.specs.Prelude.{◌≡◌, ℕ, Bool, true, false, not, ◌&&◌, List, Option, None, Some, is_err, if◌then◌else◌}
use Rattle.std.specs.Option.{option_map_or}
use Rattle.jwalk_model.specs.FileSystem.{Functions}
use Rattle.jwalk_model.specs.declared.file_type.FileType.{FileType}
use Rattle.jwalk_model.specs.declared.file_type.FileType.TheVariants.{Dir, File as Regular, Symlink, Other as Special}
use Rattle.jwalk_model.specs.declared.metadata.Details.{Details}
use Rattle.jwalk_model.specs.declared.metadata.Metadata.{Metadata}
use Rattle.seek_colors.specs.Palette.{Colors, colored_path, colors_of, tells_broken}
use Rattle.seek_colors.specs.declared.kind.Kind.{Kind}
use Rattle.seek_colors.specs.declared.kind.Kind.TheVariants.{Directory, Link, BrokenLink, File, Pipe, Socket, BlockDevice, CharDevice, Other}
use Rattle.seek_words.specs.Kinds.{has_format}
use Rattle.seek_words.specs.Seen.{details_seen}
use Rattle.seek_words.specs.declared.paint.Paint.{Paint}

-- Colors, whether links are followed, and the paths at which a link leads nowhere.
pub record Painting : Type 0 where
  pub colors : Colors
  pub follow : Bool
  pub broken : List ℕ → Bool

-- the paths at which a link leads nowhere in a file system: what it leads to can't be asked
abbrev pub broken_in : Functions → List ℕ → Bool
broken_in fs path = is_err (fs.meta_of path)

-- the colors of paths over a file system
abbrev pub painting_of : Functions → Paint → Painting
painting_of fs paint = record { colors = colors_of paint.palette; follow = paint.follow; broken = broken_in fs }

-- whether the disk is asked where a link leads: links aren't followed, and the color tells
abbrev pub asks_links : Painting → Bool
asks_links painting = not painting.follow && tells_broken painting.colors

-- whether it is asked, if paths have colors
abbrev pub asks : Option Painting → Bool
asks painting = option_map_or asks_links painting false

-- It is asked only if this holds.
abbrev pub IfAsksLinks : Type 0 → Option Painting → Type 0
IfAsksLinks fixed painting = asks painting ≡ true → fixed

abbrev mode_in : Option Details → ℕ
mode_in None = 0
mode_in (Some details) = details.mode

-- the mode of an entry, or 0 if it isn't known
abbrev pub mode_seen : Option Metadata → ℕ
mode_seen seen = mode_in (details_seen seen)

-- the kind of an entry with this mode that is no file, directory or link
abbrev pub mode_kind : ℕ → Kind
mode_kind mode =
    if has_format mode 4096 then Pipe else if has_format mode 49152 then Socket else if has_format mode 24576 then BlockDevice else if has_format mode 8192 then CharDevice else Other

abbrev special_kind_by : Option Details → Kind
special_kind_by None = Other
special_kind_by (Some details) = mode_kind details.mode

-- the kind of an entry that is no file, directory or link
abbrev pub special_kind : Option Metadata → Kind
special_kind seen = special_kind_by (details_seen seen)

-- whether the link at a path has the color of those that lead nowhere; where links are followed, one that is left does
abbrev pub is_broken : Painting → List ℕ → Bool
is_broken painting path = if asks_links painting then painting.broken path else painting.follow

-- the kind of an entry at a path
abbrev pub kind_of : Painting → FileType → Option Metadata → List ℕ → Kind
kind_of painting Dir seen path = Directory (mode_seen seen)
kind_of painting Regular seen path = File (mode_seen seen)
kind_of painting Symlink seen path = if is_broken painting path then BrokenLink else Link
kind_of painting Special seen path = special_kind seen

-- the path of a name in a folder, as these two are shown, in the colors of an entry at a path
abbrev pub painted : Painting → FileType → Option Metadata → List ℕ → List ℕ → List ℕ → List ℕ
painted painting type seen path = colored_path painting.colors (kind_of painting type seen path)
