use Rattle.std.proofs.Common.{◌∙◌, sym}
use Rattle.jwalk_iter.proofs.SkipFacts.{on_failed, on_done, skips_done, skips_refused, skips_stopped}
use Rattle.jwalk_iter.proofs.entries.Entries.skip_current_dir.Goals as goal
use Rattle.jwalk_iter.proofs.entries.Entries.skip_current_dir.Goals.{else-not-self-via-then-not-self+else-is_err, else-not-self-via-else-not-self}

pub returns-then-is_err : goal.returns-then-is_err
returns-then-is_err g c =
    let stopped = c.stop.ensures in
    skips_stopped g.B.Readings c.args.self.now c.drop_skipped.new.self c.stop.new.self c.if-not-self.true c.drop_skipped.ensures.stays stopped.stays
    (on_failed c.drop_skipped.result _ (sym c.is_err.ensures.value ∙ c.if-is_err.true) c.drop_skipped.ensures.some) stopped.items stopped.unread stopped.read_ahead

pub returns-else-not-self : goal.returns-else-not-self
returns-else-not-self g c = elim c.else-not-self.branch [
  | else-not-self-via-then-not-self+else-is_err w ↦
      let done = on_done w.drop_skipped.result _ (sym w.is_err.ensures.value ∙ w.if-is_err.false) w.drop_skipped.ensures.dropped in
      rw w.self-is (skips_done g.B.Readings c.args.self.now w.drop_skipped.new.self w.if-not-self.true w.drop_skipped.ensures.stays done.0 done.1)
  | else-not-self-via-else-not-self w ↦ rw w.self-is (skips_refused g.B.Readings c.args.self.now w.if-not-self.false)
]
