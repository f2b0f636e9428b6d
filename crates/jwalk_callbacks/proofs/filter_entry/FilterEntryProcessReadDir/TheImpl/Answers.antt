use Rattle.std.proofs.Common.{map, ◌∙◌, subst, sym}
use Rattle.jwalk_job.specs.Given.{AddsErrors}
use Rattle.jwalk_job.proofs.GivenFacts.{adds_none}
use Rattle.jwalk_job.specs.Entry.{item}
use Rattle.jwalk_callbacks.proofs.SkipFacts.{on_ok}
use Rattle.jwalk_callbacks.proofs.FilterFacts.{left-AtDepth, left-root, left-filtered_list, counted-filters}
use Rattle.jwalk_callbacks.proofs.filter_entry.FilterEntryProcessReadDir.TheImpl.Goals as goal

pub process-tells : goal.process-tells
process-tells g _ _ _ _ c =
    let before = map item c.args.list.now.items in
    record {
      depths = on_ok c.result (left-AtDepth _ c.args.depth before _ c.ensures.list c.requires.depths);
      made = λ given made. on_ok c.result (rw (c.ensures.state, left-filtered_list _ made.0 made.1 c.args.depth before _ c.ensures.list)
          (made.2 c.args.depth c.args.path.now _ _ ∙ counted-filters given.read_dir_state given.dir_entry_state made.0 c.args.depth c.args.path.now c.args.state.now before));
      root = λ keeps at. on_ok c.result (subst (AddsErrors before) (sym (left-root _ c.args.depth before _ at c.ensures.list)) (adds_none before));
    }
