use Rattle.std.proofs.Common.{map, ◌∙◌, ap, subst, sym}
use Rattle.jwalk_job.specs.Given.{AddsErrors}
use Rattle.jwalk_job.proofs.GivenFacts.{adds_none}
use Rattle.jwalk_job.specs.Entry.{item}
use Rattle.jwalk_callbacks.specs.SkipNames.{names_of, skipped_list, skips-KeepsDepthsOf}
use Rattle.jwalk_callbacks.proofs.SkipFacts.{counted-skips, on_ok}
use Rattle.jwalk_callbacks.proofs.skip_names.SkipNamesProcessReadDir.TheImpl.Goals as goal

pub process-tells : goal.process-tells
process-tells g _ _ _ _ c =
    let names = names_of c.args.self.now in
    let before = map item c.args.list.now.items in
    record {
      depths = on_ok c.result (rw c.ensures.list (skips-KeepsDepthsOf names c.args.depth c.args.path.now c.args.state.now before c.requires.depths));
      made = λ given made. on_ok c.result (rw (c.ensures.state, c.ensures.list)
          (made c.args.depth c.args.path.now _ _ ∙ counted-skips given.read_dir_state given.dir_entry_state names c.args.depth c.args.path.now c.args.state.now before));
      root = λ keeps at. on_ok c.result (subst (AddsErrors before) (sym (c.ensures.list ∙ ap (λ depth. skipped_list names depth before) at)) (adds_none before));
    }
