use Rattle.std.proofs.Common.{◌++◌, map, flat_map, string_bytes}
use Rattle.jwalk_snapshot.specs.Text.{entry_of, entry_text, EntryFits}
use Rattle.jwalk_snapshot.proofs.ListFacts.{text_at, text_done, fits_at, fits_all}
use Rattle.jwalk_snapshot.proofs.block.push_names.Goals as goal

pub loop-name-preserved : goal.loop-name-preserved
loop-name-preserved c = (
  text_at entry_of entry_text c.args.names.now c.loop-name.name-index _ (string_bytes c.loop-name.out) (string_bytes c.push_name.new.out) (string_bytes c.args.out.now ++ flat_map entry_text (map entry_of c.args.names.now)) c.loop-name-test.true c.in_ok-push_name.ensures.text c.loop-name.invariant.0,
  λ rest. c.loop-name.invariant.1 (fits_at entry_of EntryFits c.args.names.now c.loop-name.name-index _ c.loop-name-test.true c.in_ok-push_name.ensures.fits rest),
)

pub returns-clause-text : goal.returns-clause-text
returns-clause-text c = text_done entry_of entry_text c.args.names.now c.loop-name.name-index (string_bytes c.loop-name.out) (string_bytes c.args.out.now ++ flat_map entry_text (map entry_of c.args.names.now)) c.loop-name-test.false c.loop-name.invariant.0

pub returns-clause-fits : goal.returns-clause-fits
returns-clause-fits c = c.loop-name.invariant.1 (fits_all entry_of EntryFits c.args.names.now c.loop-name.name-index c.loop-name-test.false)
