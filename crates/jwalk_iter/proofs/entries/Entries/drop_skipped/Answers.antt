use Rattle.std.proofs.Common.{◌≡◌, sym, subst}
use Rattle.std.specs.List.{prefix_len}
use Rattle.jwalk_iter.specs.Skip.{drops}
use Rattle.jwalk_iter.specs.Entries.{items_of, DropsFirst}
use Rattle.jwalk_readings.proofs.ResultFacts.{on_err}
use Rattle.jwalk_iter.proofs.SkipFacts.{none_dropped, more_dropped, some_dropped, behind_on}
use Rattle.jwalk_iter.proofs.entries.Entries.drop_skipped.Goals as goal

pub loop-init : goal.loop-init
loop-init g c = none_dropped g.B.Readings c.args.self.now

pub returns-in_err-drop_next-clause-stays : goal.returns-in_err-drop_next-clause-stays
returns-in_err-drop_next-clause-stays g c = behind_on g.B.Readings c.args.self.now c.loop.self c.drop_next.new.self c.loop.invariant.behind c.drop_next.ensures.stays

pub returns-in_err-drop_next-clause-some : goal.returns-in_err-drop_next-clause-some
returns-in_err-drop_next-clause-some g c = on_err c.from_residual.result (some_dropped g.B.Readings c.args.self.now c.loop.self c.loop.invariant c.in_err-drop_next.ensures.some)

pub loop-smaller : goal.loop-smaller
loop-smaller g c = (rw c.if-branch.true at c.in_ok-drop_next.ensures.dropped).1

pub loop-preserved : goal.loop-preserved
loop-preserved g c = more_dropped g.B.Readings c.args.self.now c.loop.self c.drop_next.new.self c.loop.invariant c.drop_next.ensures.stays (rw c.if-branch.true at c.in_ok-drop_next.ensures.dropped).0

pub returns-clause-stays : goal.returns-clause-stays
returns-clause-stays g c = behind_on g.B.Readings c.args.self.now c.loop.self c.drop_next.new.self c.loop.invariant.behind c.drop_next.ensures.stays

pub returns-clause-dropped : goal.returns-clause-dropped
returns-clause-dropped g c =
    let over = rw c.if-branch.false at c.in_ok-drop_next.ensures.dropped in (
      subst (DropsFirst g.B.Readings c.args.self.now) (sym over.0) c.loop.invariant.first,
      subst (λ it. prefix_len (drops it.skip) (items_of it) ≡ 0) (sym over.0) over.1,
    )
