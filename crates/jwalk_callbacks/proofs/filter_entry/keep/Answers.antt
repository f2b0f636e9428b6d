use Rattle.std.proofs.Common.{rules}
use Rattle.jwalk_job.specs.Entry.{item}
use Rattle.jwalk_callbacks.specs.FilterEntry.{IsAnswered}
use Rattle.jwalk_callbacks.proofs.FilterFacts.{viewed-IsFiltered}
use Rattle.jwalk_callbacks.proofs.filter_entry.keep.Goals as goal

pub returns : goal.returns
returns g c = viewed-IsFiltered item _ (IsAnswered _) _ (λ x b q k. search rules) _ _ c.retain.ensures.filtered
