use Rattle.std.proofs.Common.{◌≡◌, ◌∙◌, ap, map, rules, Bool, subst, bytes_eq, string_bytes}
use Rattle.jwalk_snapshot.specs.Text.{content_of}
use Rattle.since_parts.specs.Held.{HoldsAll, seen_in}
use Rattle.since_run.specs.Run.{status_for}
use Rattle.since_run.proofs.CompareFacts.{written_at}
use Rattle.since_run.proofs.compare.compare.Goals as goal

pub returns-clause-writes : goal.returns-clause-writes
returns-clause-writes g c =
    let numbers : c.eq-numbers.result ≡ bytes_eq (content_of c.args.snapshot.now).call.absolute (string_bytes c.args.tree.absolute) = search rules in
    record {
      held = c.in_ok-old.old.items;
      holds = subst (λ (b : Bool). HoldsAll b (content_of c.args.snapshot.now) (map seen_in c.in_ok-old.old.items)) numbers c.in_ok-old.ensures;
      changes = c.in_ok-changes.changes.items;
      differ = c.in_ok-changes.ensures;
      written = written_at c.args.call.now _ _ _ _ c.deref-2.ensures.value c.in_ok-write_changes.ensures;
      tells = c.status_for-status.ensures ∙ ap status_for c.deref-3.ensures.value;
    }
