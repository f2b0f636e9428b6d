use Rattle.std.proofs.Common.{◌∙◌, ◌+◌, Some, map, ap, sym, arith}
use Rattle.std.specs.Prelude.{string_bytes}
use Rattle.std.proofs.lemmas.List.{length-map}
use Rattle.jwalk_model.specs.ReadDir.{Reading}
use Rattle.jwalk_model.proofs.DepthFacts.{AtDepth-in_order}
use Rattle.jwalk_model.proofs.CountedFacts.{counted-in_order}
use Rattle.jwalk_job.specs.Entry.{item}
use Rattle.jwalk_job.specs.Given.{counted_item, counted_reading}
use Rattle.jwalk_job.proofs.GivenFacts.{same_call}
use Rattle.jwalk_job.proofs.job.Job.run_callback.Goals as goal

pub process-requires-clause-depths : goal.process-requires-clause-depths
process-requires-clause-depths g c = rw c.in_ok-items.ensures (AtDepth-in_order (c.args.of.now.depth + 1) c.args.self.now.options.sort (map item c.args.items.items) c.requires.depth)

pub returns-clause-depth : goal.returns-clause-depth
returns-clause-depth g c =
    rw (ap (λ (r : Reading g.row.C-ReadDirState.Denot g.row.C-DirEntryState.Denot). r.list) c.new.ensures)
    c.in_ok-process.ensures.depths

pub returns-clause-few : goal.returns-clause-few
returns-clause-few g c =
    rw (ap (λ (r : Reading g.row.C-ReadDirState.Denot g.row.C-DirEntryState.Denot). r.list) c.new.ensures)
    (rw length-map (omega (arith, c.process.new.list.ok.0, c.len-count.ensures)))

pub returns-clause-value : goal.returns-clause-value
returns-clause-value g c = λ given steady.
    let cloned = steady.clones c.args.of.now.client_read_state c.in_ok-state.state c.in_ok-state.ensures.cases in
    let path = c.as_str.ensures.value ∙ ap string_bytes c.deref.ensures in
    let items = ap (map (counted_item given)) c.in_ok-items.ensures ∙ counted-in_order given.read_dir_state given.dir_entry_state c.args.self.now.options.sort (map item c.args.items.items) in
    same_call (given.processed (Some c.args.of.now.depth)) path cloned items (c.in_ok-process.ensures.made given steady.callback)
    ∙ sym (ap (counted_reading given) c.new.ensures)
