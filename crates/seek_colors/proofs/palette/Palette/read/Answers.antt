use Rattle.std.proofs.Common.{◌≡◌}
use Rattle.seek_colors.specs.Entries.{entries_in}
use Rattle.seek_colors.specs.Palette.{colors_of, defaults, kinds_in, mode_defaults, palette_in, suffixes_in}
use Rattle.seek_colors.proofs.ColorFacts.{colors_alone}
use Rattle.seek_colors.proofs.PaletteFacts.{same_colors, three_added}
use Rattle.seek_colors.proofs.palette.Palette.read.Goals as goal

kinds_read : (c : goal.In_ok-add-3) → (colors_of c.add-3.new.self).kinds ≡ (palette_in c.args.text.now).kinds
kinds_read c =
    three_added _ _ _ _ (kinds_in (entries_in defaults)) (kinds_in (entries_in mode_defaults)) (kinds_in (entries_in c.args.text.now))
    c.new.ensures c.in_ok-add.ensures.kinds c.in_ok-add-2.ensures.kinds c.in_ok-add-3.ensures.kinds

suffixes_read : (c : goal.In_ok-add-3) → (colors_of c.add-3.new.self).suffixes ≡ (palette_in c.args.text.now).suffixes
suffixes_read c =
    three_added _ _ _ _ (suffixes_in (entries_in defaults)) (suffixes_in (entries_in mode_defaults)) (suffixes_in (entries_in c.args.text.now))
    c.new-2.ensures c.in_ok-add.ensures.suffixes c.in_ok-add-2.ensures.suffixes c.in_ok-add-3.ensures.suffixes

pub returns-clause-palette : goal.returns-clause-palette
returns-clause-palette c = same_colors (colors_of c.add-3.new.self) (palette_in c.args.text.now) (kinds_read c) (suffixes_read c)

pub returns-clause-colors_alone : goal.returns-clause-colors_alone
returns-clause-colors_alone c = colors_alone c.args.text.now (colors_of c.add-3.new.self) (kinds_read c) (suffixes_read c)
