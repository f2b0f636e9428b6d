use Rattle.std.proofs.Common.{◌≡◌, ◌∙◌, true, false, cond, drop, sym, ap}
use Rattle.jwalk_model.specs.Entry.{has_directory}
use Rattle.jwalk_job.specs.Entry.{item}
use Rattle.jwalk_iter.specs.Entries.{unread_of}
use Rattle.jwalk_iter.proofs.SkipFacts.{one_dropped}
use Rattle.jwalk_iter.proofs.entries.Entries.drop_next.Goals as goal
use Rattle.jwalk_iter.proofs.entries.Entries.drop_next.Goals.{then-has_directory+in_ok-skip_next, else-has_directory}

pub returns-clause-dropped : goal.returns-clause-dropped
returns-clause-dropped g c =
    let old = c.args.self.now in
    let mid = c.pop_dropped.new.self in
    let x = item c.in-Some.dropped in
    let is = c.in-Some.ensures in
    elim c.if-has_directory.branch [
      | then-has_directory+in_ok-skip_next w ↦
          let has : has_directory x ≡ true = sym c.has_directory.ensures ∙ w.if-has_directory.true in
          rw w.self-is
          (one_dropped g.B.Readings old (record mid { reads = w.skip_next.new.self }) x is.first is.dropped (w.in_ok-skip_next.ensures.to_read ∙ ap (λ it. drop 1 (unread_of g.B.Readings it)) is.others ∙ ap (λ b. drop (cond b 1 0) (unread_of g.B.Readings old)) (sym has)), is.fewer)
      | else-has_directory w ↦
          let none : has_directory x ≡ false = sym c.has_directory.ensures ∙ w.if-has_directory.false in
          rw w.self-is
          (one_dropped g.B.Readings old mid x is.first is.dropped (ap (unread_of g.B.Readings) is.others ∙ ap (λ b. drop (cond b 1 0) (unread_of g.B.Readings old)) (sym none)), is.fewer)
    ]
