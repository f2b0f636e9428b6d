use Rattle.std.proofs.Common.{◌∙◌, ap₂}
use Rattle.std.specs.Arc.{arc_value}
use Rattle.jwalk_snapshot.specs.Text.{content_of}
use Rattle.since_run.proofs.CompareFacts.{compared, index_at, quickly_compared, quickly_found}
use Rattle.since_run.proofs.compare.compare_quickly.Goals as goal

pub returns : goal.returns
returns g c =
    let call = c.args.call.now in
    let snapshot = content_of c.args.snapshot.now in
    let tree = c.in_ok-tree.tree in
    let found = c.in_ok-found.found in
    let index = c.in_ok-index.index in
    quickly_compared _ c.args.disk call snapshot _ _ tree index c.compare.result
    (index_at _ _ _ _ index c.as_str.ensures.value c.deref.ensures.value c.in_ok-index.ensures) c.in_ok-check_quick.ensures.rules c.compare.ensures.tree
    (compared g.X.Texts _ call snapshot _ _ tree found c.compare.result c.in_ok-tree.ensures
    (quickly_found g.S.FileSystem _ call.crew tree found (arc_value c.in_ok-disk.disk) (record { fs = c.args.disk; index = index })
    (c.in_ok-disk.ensures.ok ∙ ap₂ (λ f i. record { fs = f; index = i }) c.new.ensures.fs c.new.ensures.index) c.in_ok-check_quick.ensures.one c.in_ok-found.ensures)
    c.compare.ensures.tree c.compare.ensures.found c.compare.ensures.writes)
