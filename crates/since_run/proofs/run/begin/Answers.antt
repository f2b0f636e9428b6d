use Rattle.std.proofs.Common.{refl}
use Rattle.std.specs.Arc.{arc_value}
use Rattle.std.proofs.lemmas.Result.{IfOk-weaker}
use Rattle.jwalk.specs.jwalk_model.Paths.{dot}
use Rattle.since_run.specs.Run.{root_asked}
use Rattle.since_run.proofs.CompareFacts.{finds_over, tree_at, words_at}
use Rattle.since_run.proofs.run.begin.Goals as goal

pub returns-clause-begins : goal.returns-clause-begins
returns-clause-begins g c =
    let call = c.args.call.now in
    let tree = c.in_ok-tree.tree in
    let is = c.in_ok-tree.ensures in
    IfOk-weaker c.save_told.result _ _ (λ status ends. record {
      told = record { tree = tree; found = c.in_ok-found.found; rest = c.in_ok-rest.rest; status = 0 };
      none = refl;
      tree_is = tree_at g.X.Texts call c.root_or_here.result.now (root_asked call.asked.now dot) c.root_or_here.ensures tree is.root is.front is.start is.own;
      chosen = words_at c.in_ok-choice.choice tree.choice call.asked.now is.choice c.in_ok-choice.ensures;
      finds = finds_over g.S.FileSystem g.X.Texts _ _ call (arc_value c.in_ok-disk.disk) c.args.disk tree c.in_ok-found.found c.in_ok-disk.ensures.ok c.in_ok-found.ensures;
      ends = ends;
    })
    c.save_told.ensures.ends
