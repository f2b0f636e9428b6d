use Rattle.std.specs.Arc.{arc_value}
use Rattle.jwalk_snapshot.specs.Text.{content_of}
use Rattle.since_run.proofs.CompareFacts.{compared, finds_over}
use Rattle.since_run.proofs.compare.compare_all.Goals as goal

pub returns : goal.returns
returns g c =
    let call = c.args.call.now in
    let tree = c.in_ok-tree.tree in
    let found = c.in_ok-found.found in
    compared g.X.Texts _ call (content_of c.args.snapshot.now) _ _ tree found c.compare.result
    c.in_ok-tree.ensures (finds_over g.S.FileSystem g.X.Texts _ _ call (arc_value c.in_ok-disk.disk) c.args.disk tree found c.in_ok-disk.ensures.ok c.in_ok-found.ensures)
    c.compare.ensures.tree c.compare.ensures.found c.compare.ensures.writes
