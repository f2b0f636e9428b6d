use Rattle.jwalk_sort_by.proofs.SortFacts.{ordered_is_the_one}
use Rattle.jwalk_sort_by.proofs.laws.ordered_is_the_one.Goals as goal

pub returns : goal.returns
returns g c = ordered_is_the_one
