use Rattle.jwalk_subtotals.specs.Counted.{one_error}
use Rattle.std.proofs.Common.{◌≡◌, false, true, Err, refl, sym, ap, ◌∙◌, subst}
use Rattle.jwalk.specs.jwalk_job.Error.{failure, depth_of}
use Rattle.jwalk_subtotals.specs.declared.iter.Ahead.TheVariants.{Unasked, Taken}
use Rattle.jwalk_subtotals.specs.declared.iter.Turn.TheVariants.{Yields}
use Rattle.jwalk_subtotals.specs.declared.error.SubtotalError.TheVariants.{Walk, TooMany}
use Rattle.jwalk_subtotals.specs.Stack.{frames_of, is_above, added, AreTooMany}
use Rattle.jwalk_subtotals.specs.Turns.{Turns}
use Rattle.jwalk_subtotals.specs.Subtotal.{nothing}
use Rattle.jwalk_subtotals.proofs.GreatFacts.{many_great}
use Rattle.jwalk_subtotals.proofs.TurnFacts.{start_as, turn_as, closed_before, error_turn, stopped_turn}
use Rattle.jwalk_subtotals.proofs.iter.Subtotals.place_error.Goals as goal

pub returns-then-ends_walk : goal.returns-then-ends_walk
returns-then-ends_walk g c =
    let s = c.args.self.now in
    let e = c.args.error in
    turn_as (λ turn new. Turns g.I.Iterator.next_gives g.I.Iterator.can_next g.I.Iterator.remaining (record s { ahead = Taken (Err e) }) turn new)
    c.stop.result c.stop.new.self (Yields (Err (Walk e))) (record s { stopped = true }) c.stop.ensures.yields c.stop.ensures.stopped
    (start_as (λ a b. Turns g.I.Iterator.next_gives g.I.Iterator.can_next g.I.Iterator.remaining (record s { ahead = Taken (Err e); stopped = b }) (Yields (Err (Walk e))) (record s { ahead = a; stopped = true }))
    s.ahead s.stopped Unasked false c.requires.unasked c.requires.runs
    (stopped_turn g.I.Iterator.next_gives g.I.Iterator.can_next g.I.Iterator.remaining s (Err e) (Walk e) s.stack s.files c.requires.can c.requires.ends (sym c.ends_walk.ensures ∙ c.if-ends_walk.true) (λ is. absurd (cc is))))

pub returns-then-not-is_above : goal.returns-then-not-is_above
returns-then-not-is_above g c =
    let s = c.args.self.now in
    let not : is_above (depth_of (failure c.args.error)) (frames_of s.stack) ≡ false = ap (λ d. is_above d (frames_of s.stack)) (sym c.depth.ensures) ∙ sym c.is_above.ensures ∙ c.if-not-is_above.true in
    closed_before g.I.Iterator.next_gives g.I.Iterator.can_next g.I.Iterator.remaining (record s { ahead = Taken (Err c.args.error) }) c.close.new.self c.close.result (Err c.args.error) refl c.requires.runs c.requires.can c.requires.ends not c.close.ensures

pub returns-in-Ok : goal.returns-in-Ok
returns-in-Ok g c =
    let s = c.args.self.now in
    let e = c.args.error in
    let st = c.count.new.self in
    let above : is_above (depth_of (failure e)) (frames_of s.stack) ≡ true = ap (λ d. is_above d (frames_of s.stack)) (sym c.depth.ensures) ∙ sym c.is_above.ensures ∙ c.if-not-is_above.false in
    start_as (λ a b. Turns g.I.Iterator.next_gives g.I.Iterator.can_next g.I.Iterator.remaining (record s { ahead = Taken (Err e); stopped = b }) (Yields (Err (Walk e))) (record s { stack = st; ahead = a; stopped = b }))
    s.ahead s.stopped Unasked false c.requires.unasked c.requires.runs
    (error_turn g.I.Iterator.next_gives g.I.Iterator.can_next g.I.Iterator.remaining s e st c.requires.can c.requires.ends (sym c.ends_walk.ensures ∙ c.if-ends_walk.false) above
    (c.in-Ok.ensures.counted ∙ ap (λ t. added t (frames_of s.stack)) c.one_error.ensures))

pub returns-in-Err : goal.returns-in-Err
returns-in-Err g c =
    let s = c.args.self.now in
    let e = c.args.error in
    let st = c.count.new.self in
    turn_as (λ turn new. Turns g.I.Iterator.next_gives g.I.Iterator.can_next g.I.Iterator.remaining (record s { ahead = Taken (Err e) }) turn new)
    c.stop-in-Err.result c.stop-in-Err.new.self (Yields (Err TooMany)) (record s { stack = st; stopped = true }) c.stop-in-Err.ensures.yields c.stop-in-Err.ensures.stopped
    (start_as (λ a b. Turns g.I.Iterator.next_gives g.I.Iterator.can_next g.I.Iterator.remaining (record s { ahead = Taken (Err e); stopped = b }) (Yields (Err TooMany)) (record s { stack = st; ahead = a; stopped = true }))
    s.ahead s.stopped Unasked false c.requires.unasked c.requires.runs
    (stopped_turn g.I.Iterator.next_gives g.I.Iterator.can_next g.I.Iterator.remaining s (Err e) TooMany st s.files c.requires.can c.requires.ends refl
    (λ _. many_great one_error nothing (frames_of s.stack) (subst (λ t. AreTooMany t (frames_of s.stack)) c.one_error.ensures c.in-Err.ensures.too_many.1))))
