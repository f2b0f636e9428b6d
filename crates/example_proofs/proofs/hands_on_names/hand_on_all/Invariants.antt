use Rattle.std.proofs.Common.{◌≡◌, ℕ, ◌<◌, ◌≤◌, get_or}
use Rattle.jwalk.specs.jwalk_job.Entry.{item}
use Rattle.jwalk.specs.jwalk_job.Given.{counted_item}
use Rattle.example_proofs.specs.HandsOnNames.{worth_of, handed, names_handed_on}
use Rattle.example_proofs.proofs.hands_on_names.hand_on_all.Given as goal

-- the items so far are done, and the others are as they were
abbrev pub invariant-loop-found : goal.invariant-loop-found
invariant-loop-found l = record {
  done : (k : ℕ) (d : _) → k < l.found-index → counted_item names_handed_on (item (get_or l.found-items k d)) ≡ handed (worth_of l.fn.state) (counted_item names_handed_on (item (get_or l.fn.list.items k d)));
  others : (k : ℕ) (d : _) → l.found-index ≤ k → get_or l.found-items k d ≡ get_or l.fn.list.items k d;
}
