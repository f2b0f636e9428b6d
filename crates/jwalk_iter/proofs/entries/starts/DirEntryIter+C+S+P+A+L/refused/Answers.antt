use Rattle.std.proofs.Common.{◌∙◌, map, reverse, refl, ap}
use Rattle.jwalk_job.specs.Entry.{item}
use Rattle.jwalk_job.specs.Options.{width_of}
use Rattle.jwalk_iter.proofs.AheadFacts.{begins_with_none}
use Rattle.jwalk_iter.proofs.entries.starts.DirEntryIter+C+S+P+A+L.refused.Goals as goal

pub returns : goal.returns
returns g c = record {
  own = c.new.ensures.own;
  job = c.new.ensures.job;
  refused = refl;
  items = ap (λ l. map item (reverse l)) c.new-2.ensures.items;
  unread = c.new.ensures.to_read;
  width = c.new.ensures.width ∙ ap width_of (c.mode-mode.ensures ∙ ap (λ o. o.parallelism) c.options.ensures);
  ahead = begins_with_none _ _ _ c.new.ensures.to_read c.new.ensures.frontier c.new.ensures.read_ahead;
}
