use Rattle.std.proofs.Common.{map, subst}
use Rattle.jwalk_snapshot.specs.Text.{call_of, text_in}
use Rattle.since_run.specs.Run.{IsChoice}
use Rattle.since_run.proofs.CompareFacts.{tree_for}
use Rattle.since_run.proofs.compare.tree_for.Goals as goal

pub returns : goal.returns
returns g c =
    let call = c.args.call.now in
    tree_for g.X.Texts call (call_of c.args.head.now) c.root_asked-root.result.now c.in_ok-choice.choice c.new.result
    c.root_asked-root.ensures (subst (λ l. IsChoice call.asked.now (map text_in l) c.in_ok-choice.choice) c.deref.ensures.value c.in_ok-choice.ensures)
    c.new.ensures.choice c.new.ensures.start c.new.ensures.root c.new.ensures.front c.new.ensures.own
