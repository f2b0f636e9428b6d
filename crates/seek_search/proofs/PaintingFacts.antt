-- The colors of printed paths, where they have some.
use Rattle.std.proofs.Common.{◌≡◌, Bool, true, false, not, ◌&&◌, Some, None, ap, refl}
use Rattle.std.specs.Prelude.{if◌then◌else◌}
use Rattle.jwalk.specs.jwalk_model.FileSystem.{Functions}
use Rattle.seek_colors.specs.Palette.{Colors}
use Rattle.seek_words.specs.Paint.{Painting, broken_in}

abbrev pub with_colors : Functions → Bool → Colors → Painting
with_colors fs follow colors = record { colors = colors; follow = follow; broken = broken_in fs }

pub unnot : (b : Bool) → not b ≡ false → b ≡ true
unnot true is = refl
unnot false is = absurd (cc)

-- a search that isn't quiet and has colors has these
pub colored_asked : (quiet colored : Bool) (p q : Painting) → quiet ≡ false → colored ≡ true → p ≡ q → Some p ≡ (if not quiet && colored then Some q else None)
colored_asked false true p q loud is same = ap Some same
colored_asked false false p q loud is same = absurd (cc)
colored_asked true colored p q loud is same = absurd (cc)
