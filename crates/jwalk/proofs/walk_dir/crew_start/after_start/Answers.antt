use Rattle.std.proofs.Common.{◌∙◌, ap}
use Rattle.jwalk.specs.CrewStart.{left_of}
use Rattle.jwalk.proofs.walk_dir.crew_start.after_start.Goals as goal

pub returns : goal.returns
returns g c = record {
  reads = c.with_list.ensures.reads;
  items = c.with_list.ensures.items ∙ c.left-list.ensures ∙ ap (left_of c.args.why_not) c.into_results_list.ensures;
  refused = c.with_list.ensures.refused ∙ c.is_refused.ensures;
}
