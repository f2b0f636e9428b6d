use Rattle.std.proofs.Common.{◌≡◌, false, true, Ok, Err, refl, sym, ap, ◌∙◌, subst}
use Rattle.jwalk_job.specs.Entry.{entry}
use Rattle.jwalk_contents_first.specs.declared.iter.Ahead.TheVariants.{Unasked, Taken}
use Rattle.jwalk_contents_first.specs.declared.iter.Turn.TheVariants.{Yields, GoesOn}
use Rattle.jwalk_contents_first.specs.ContentsFirst.{ends_walk}
use Rattle.jwalk_contents_first.specs.Coming.{Ascends, entries_of, is_above}
use Rattle.jwalk_contents_first.specs.Turns.{Turns}
use Rattle.jwalk_contents_first.proofs.TurnFacts.{start_as, turn_as, let_out_before, held_turn, stopped_turn}
use Rattle.jwalk_contents_first.proofs.iter.ContentsFirst.place.Goals as goal

pub returns-then-not-is_above : goal.returns-then-not-is_above
returns-then-not-is_above g c =
    let s = c.args.self.now in
    let not : is_above (entry c.args.found).depth (entries_of s.held) ≡ false = ap (λ d. is_above d (entries_of s.held)) (sym c.depth.ensures) ∙ sym c.is_above.ensures ∙ c.if-not-is_above.true in
    let_out_before g.I.Iterator.next_gives g.I.Iterator.can_next g.I.Iterator.remaining (record s { ahead = Taken (Ok c.args.found) }) c.let_out.new.self c.let_out.result (Ok c.args.found) refl c.requires.runs c.requires.can c.requires.ends not c.let_out.ensures

pub returns-in-Ok : goal.returns-in-Ok
returns-in-Ok g c =
    let s = c.args.self.now in
    let above : is_above (entry c.args.found).depth (entries_of s.held) ≡ true = ap (λ d. is_above d (entries_of s.held)) (sym c.depth.ensures) ∙ sym c.is_above.ensures ∙ c.if-not-is_above.false in
    start_as (λ a b. Turns g.I.Iterator.next_gives g.I.Iterator.can_next g.I.Iterator.remaining (record s { ahead = Taken (Ok c.args.found); stopped = b }) GoesOn (record s { held = c.push.new.self; ahead = a; stopped = b }))
    s.ahead s.stopped Unasked false c.requires.unasked c.requires.runs
    (held_turn g.I.Iterator.next_gives g.I.Iterator.can_next g.I.Iterator.remaining s c.args.found c.push.new.self c.requires.can c.requires.ends above c.in-Ok.ensures.held)

pub returns-in-Err : goal.returns-in-Err
returns-in-Err g c =
    let s = c.args.self.now in
    let error = c.memory.result in
    let n = c.push.new.self in
    turn_as (λ turn new. Turns g.I.Iterator.next_gives g.I.Iterator.can_next g.I.Iterator.remaining (record s { ahead = Taken (Ok c.args.found) }) turn new)
    c.stop.result c.stop.new.self (Yields (Err error)) (record s { held = n; stopped = true }) c.stop.ensures.yields c.stop.ensures.stopped
    (start_as (λ a b. Turns g.I.Iterator.next_gives g.I.Iterator.can_next g.I.Iterator.remaining (record s { ahead = Taken (Ok c.args.found); stopped = b }) (Yields (Err error)) (record s { held = n; ahead = a; stopped = true }))
    s.ahead s.stopped Unasked false c.requires.unasked c.requires.runs
    (stopped_turn g.I.Iterator.next_gives g.I.Iterator.can_next g.I.Iterator.remaining s (Ok c.args.found) error n c.requires.can c.requires.ends (ap ends_walk c.memory.ensures) (λ h. subst Ascends (sym c.in-Err.ensures.kept) h)))
