use Rattle.std.proofs.Common.{◌≡◌, ◌++◌, map, take}
use Rattle.seek_colors.specs.Entries.{entries_among}
use Rattle.seek_colors.specs.Palette.{colors_of, kinds_in, suffixes_in}
use Rattle.seek_colors.proofs.palette.Palette.add.Given as goal

-- the colours of the entries so far
abbrev pub invariant-loop-part : goal.invariant-loop-part
invariant-loop-part l =
    let entries = entries_among (map (λ it. it.now) (take l.part-index l.part-items)) in
    ((colors_of l.self).kinds ≡ (colors_of l.fn.self).kinds ++ kinds_in entries) × ((colors_of l.self).suffixes ≡ (colors_of l.fn.self).suffixes ++ suffixes_in entries)
