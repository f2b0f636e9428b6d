use Rattle.std.proofs.Common.{◌++◌, map, flat_map, string_bytes}
use Rattle.jwalk_snapshot.specs.Text.{folder_of, folder_text, FolderFits}
use Rattle.jwalk_snapshot.proofs.ListFacts.{text_more, text_done, fits_more, fits_all}
use Rattle.jwalk_snapshot.proofs.snapshot.push_each.Goals as goal

pub loop-block-preserved : goal.loop-block-preserved
loop-block-preserved c = (
  text_more folder_of folder_text c.args.blocks.now c.loop-block.block-index c.block-item.result (string_bytes c.loop-block.out) (string_bytes c.push_block.new.out) (string_bytes c.args.out.now ++ flat_map folder_text (map folder_of c.args.blocks.now)) c.loop-block-test.true c.block-item.is c.in_ok-push_block.ensures.text c.loop-block.invariant.0,
  λ rest. c.loop-block.invariant.1 (fits_more folder_of FolderFits c.args.blocks.now c.loop-block.block-index c.block-item.result c.loop-block-test.true c.block-item.is c.in_ok-push_block.ensures.fits rest),
)

pub returns-clause-text : goal.returns-clause-text
returns-clause-text c = text_done folder_of folder_text c.args.blocks.now c.loop-block.block-index (string_bytes c.loop-block.out) (string_bytes c.args.out.now ++ flat_map folder_text (map folder_of c.args.blocks.now)) c.loop-block-test.false c.loop-block.invariant.0

pub returns-clause-fits : goal.returns-clause-fits
returns-clause-fits c = c.loop-block.invariant.1 (fits_all folder_of FolderFits c.args.blocks.now c.loop-block.block-index c.loop-block-test.false)
