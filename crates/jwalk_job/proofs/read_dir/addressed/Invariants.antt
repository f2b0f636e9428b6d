use Rattle.std.proofs.Common.{◌≡◌, length, map}
use Rattle.std.specs.Prelude.{All}
use Rattle.jwalk_order.specs.Frontier.{children_from}
use Rattle.jwalk_order.specs.IndexPath.{address}
use Rattle.jwalk_order.specs.Ordered.{address_of, child_count_of}
use Rattle.jwalk_job.proofs.read_dir.addressed.Given as goal

-- those so far are what was gone over, at the first children of the address
abbrev pub invariant-loop-value : goal.invariant-loop-value
invariant-loop-value g l = record {
  values : map (λ x. x.value) l.ordered.items ≡ l.yielded;
  addresses : map address_of l.ordered.items ≡ children_from 0 (address l.address) (length l.ordered.items);
  unread : All (λ x. child_count_of x ≡ 0) l.ordered.items;
}
