use Rattle.std.proofs.Common.{◌≡◌, false, true, Ok, Err, refl, sym, ap, ◌∙◌}
use Rattle.jwalk.specs.jwalk_job.Entry.{entry}
use Rattle.jwalk_subtotals.specs.declared.iter.Ahead.TheVariants.{Unasked, Taken}
use Rattle.jwalk_subtotals.specs.declared.iter.Turn.TheVariants.{Yields, GoesOn}
use Rattle.jwalk_subtotals.specs.Stack.{frames_of, is_above}
use Rattle.jwalk_subtotals.specs.Files.{files_of}
use Rattle.jwalk_subtotals.specs.Subtotal.{nothing}
use Rattle.jwalk_subtotals.specs.Turns.{own_beside, Turns}
use Rattle.jwalk_subtotals.proofs.GreatFacts.{many_great}
use Rattle.jwalk_subtotals.proofs.TurnFacts.{start_as, turn_as, closed_before, entered_turn, stopped_turn, stopped_as}
use Rattle.jwalk_subtotals.proofs.iter.Subtotals.place.Goals as goal

pub returns-then-not-is_above : goal.returns-then-not-is_above
returns-then-not-is_above g c =
    let s = c.args.self.now in
    let not : is_above (entry c.args.found).depth (frames_of s.stack) ≡ false = ap (λ d. is_above d (frames_of s.stack)) (sym c.depth.ensures) ∙ sym c.is_above.ensures ∙ c.if-not-is_above.true in
    closed_before g.I.Iterator.next_gives g.I.Iterator.can_next g.I.Iterator.remaining (record s { ahead = Taken (Ok c.args.found) }) c.close.new.self c.close.result (Ok c.args.found) refl c.requires.runs c.requires.can c.requires.ends not c.close.ensures

pub returns-in-Ok : goal.returns-in-Ok
returns-in-Ok g c =
    let s = c.args.self.now in
    let n = c.enter.new.self in
    let above : is_above (entry c.args.found).depth (frames_of s.stack) ≡ true = ap (λ d. is_above d (frames_of s.stack)) (sym c.depth.ensures) ∙ sym c.is_above.ensures ∙ c.if-not-is_above.false in
    let enters = c.in-Ok.ensures.entered in
    turn_as (λ turn new. Turns g.I.Iterator.next_gives g.I.Iterator.can_next g.I.Iterator.remaining (record s { ahead = Taken (Ok c.args.found) }) turn new)
    GoesOn n GoesOn (record s { stack = n.stack; files = n.files }) refl c.enter.ensures.rest
    (start_as (λ a b. Turns g.I.Iterator.next_gives g.I.Iterator.can_next g.I.Iterator.remaining (record s { ahead = Taken (Ok c.args.found); stopped = b }) GoesOn (record s { stack = n.stack; files = n.files; ahead = a; stopped = b }))
    s.ahead s.stopped Unasked false c.requires.unasked c.requires.runs
    (entered_turn g.I.Iterator.next_gives g.I.Iterator.can_next g.I.Iterator.remaining s c.args.found n.stack n.files c.requires.can c.requires.ends above (record { frames = enters.frames; files = enters.files })))

pub returns-in-Err : goal.returns-in-Err
returns-in-Err g c =
    let s = c.args.self.now in
    let error = c.in-Err.error in
    let n = c.enter.new.self in
    turn_as (λ turn new. Turns g.I.Iterator.next_gives g.I.Iterator.can_next g.I.Iterator.remaining (record s { ahead = Taken (Ok c.args.found) }) turn new)
    c.stop.result c.stop.new.self (Yields (Err error)) (record s { stack = n.stack; files = n.files; stopped = true })
    c.stop.ensures.yields (c.stop.ensures.stopped ∙ stopped_as n (record s { stack = n.stack; files = n.files }) c.enter.ensures.rest)
    (start_as (λ a b. Turns g.I.Iterator.next_gives g.I.Iterator.can_next g.I.Iterator.remaining (record s { ahead = Taken (Ok c.args.found); stopped = b }) (Yields (Err error)) (record s { stack = n.stack; files = n.files; ahead = a; stopped = true }))
    s.ahead s.stopped Unasked false c.requires.unasked c.requires.runs
    (stopped_turn g.I.Iterator.next_gives g.I.Iterator.can_next g.I.Iterator.remaining s (Ok c.args.found) error n.stack n.files c.requires.can c.requires.ends c.in-Err.ensures.last
    (λ is. many_great (own_beside s.options (files_of s.files) (entry c.args.found)) nothing (frames_of s.stack) (c.in-Err.ensures.too_many is))))
