use Rattle.std.proofs.Common.{◌∙◌, map, reverse, refl, ap}
use Rattle.std.proofs.lemmas.List.{reverse-reverse}
use Rattle.jwalk_job.specs.Entry.{item}
use Rattle.jwalk_iter.proofs.entries.Entries.with_list.Goals as goal

pub returns : goal.returns
returns g c = record {
  reads = refl;
  items = ap (map item) (ap reverse c.reverse.ensures.items ∙ reverse-reverse c.args.list.items);
  refused = refl;
  skip = refl;
}
