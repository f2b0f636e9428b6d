use Rattle.std.proofs.Common.{string_bytes}
use Rattle.std.specs.Arc.{arc_value}
use Rattle.std.proofs.lemmas.Result.{IfOk-weaker}
use Rattle.since_run.proofs.FindFacts.{all_chosen, by_itself, by_rules, finds_as, kept_chosen}
use Rattle.since_run.proofs.find.find.Goals as goal

pub returns-then-tree : goal.returns-then-tree
returns-then-tree g c =
    let disk = arc_value c.args.disk in
    let call = c.args.call.now in
    let texts = arc_value call.texts in
    let tree = c.args.tree.now in
    let is = c.if-tree.true in
    IfOk-weaker c.find_kept.result _ _
    (λ found finds.
    finds_as (λ always. (always.0, always.1 is)) (λ answers. by_rules _ _ disk texts call.crew tree.choice (string_bytes tree.root) answers is)
    (kept_chosen (g.S.FileSystem.functions disk) (g.X.Texts.functions texts) tree.choice (string_bytes tree.root) is) finds)
    c.find_kept.ensures

pub returns : goal.returns
returns g c =
    let disk = arc_value c.args.disk in
    let call = c.args.call.now in
    let texts = arc_value call.texts in
    let tree = c.args.tree.now in
    let is = c.if-tree.false in
    IfOk-weaker c.find_plain.result _ _
    (λ found finds.
    finds_as (λ always. always.0) (λ answers. by_itself _ _ disk texts call.crew tree.choice (string_bytes tree.root) answers is)
    (all_chosen (g.S.FileSystem.functions disk) (g.X.Texts.functions texts) tree.choice (string_bytes tree.root) is) finds)
    c.find_plain.ensures
