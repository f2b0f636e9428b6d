use Rattle.seek_colors.specs.Entries.{entries_among}
use Rattle.seek_colors.specs.Palette.{kinds_in, suffixes_in}
use Rattle.seek_colors.proofs.PaletteFacts.{kinds-append, one_more, suffixes-append}
use Rattle.seek_colors.proofs.palette.Palette.add.Goals as goal

pub loop-part-preserved : goal.loop-part-preserved
loop-part-preserved c = (
  one_more (λ it. kinds_in (entries_among it)) kinds-append _ _ _ c.deref-part-items.result.now c.loop-part.part-index _ c.loop-part-test.true c.loop-part.invariant.0 c.in_ok-add_entry.ensures.kinds,
  one_more (λ it. suffixes_in (entries_among it)) suffixes-append _ _ _ c.deref-part-items.result.now c.loop-part.part-index _ c.loop-part-test.true c.loop-part.invariant.1 c.in_ok-add_entry.ensures.suffixes,
)
