use Rattle.std.specs.Arc.{arc_value}
use Rattle.std.proofs.lemmas.Result.{IfOk-weaker}
use Rattle.tally_run.proofs.WalkFacts.{all_counted, below_as, by_itself, by_rules, kept_counted}
use Rattle.tally_run.proofs.walks.Walks.count_below.Goals as goal

pub returns-then-self : goal.returns-then-self
returns-then-self g c =
    let self = c.args.self.now in
    let is = c.if-self.true in
    IfOk-weaker c.count_kept.result _ _
    (λ counted counts.
    below_as (λ always. (always.0, always.1 is)) (λ answers. by_rules _ _ (arc_value self.disk) (arc_value self.texts) c.args.crew.now self.asked.now c.args.root.now answers is)
    (kept_counted (g.S.FileSystem.functions (arc_value self.disk)) (g.X.Texts.functions (arc_value self.texts)) self.asked.now c.args.root.now is) counts)
    c.count_kept.ensures

pub returns : goal.returns
returns g c =
    let self = c.args.self.now in
    let is = c.if-self.false in
    IfOk-weaker c.count_all.result _ _
    (λ counted counts.
    below_as (λ always. always.0) (λ answers. by_itself _ _ (arc_value self.disk) (arc_value self.texts) c.args.crew.now self.asked.now c.args.root.now answers is)
    (all_counted (g.S.FileSystem.functions (arc_value self.disk)) (g.X.Texts.functions (arc_value self.texts)) self.asked.now c.args.root.now is) counts)
    c.count_all.ensures
