use Rattle.std.proofs.Common.{◌≡◌, false, true, Err, refl, sym, ap, ◌∙◌}
use Rattle.jwalk_job.specs.Error.{failure, depth_of}
use Rattle.jwalk_contents_first.specs.declared.iter.Ahead.TheVariants.{Unasked, Taken}
use Rattle.jwalk_contents_first.specs.declared.iter.Turn.TheVariants.{Yields}
use Rattle.jwalk_contents_first.specs.Coming.{entries_of, is_above}
use Rattle.jwalk_contents_first.specs.Turns.{Turns}
use Rattle.jwalk_contents_first.proofs.TurnFacts.{start_as, turn_as, let_out_before, error_turn, stopped_turn}
use Rattle.jwalk_contents_first.proofs.iter.ContentsFirst.place_error.Goals as goal

pub returns-then-ends_walk : goal.returns-then-ends_walk
returns-then-ends_walk g c =
    let s = c.args.self.now in
    let e = c.args.error in
    turn_as (λ turn new. Turns g.I.Iterator.next_gives g.I.Iterator.can_next g.I.Iterator.remaining (record s { ahead = Taken (Err e) }) turn new)
    c.stop.result c.stop.new.self (Yields (Err e)) (record s { stopped = true }) c.stop.ensures.yields c.stop.ensures.stopped
    (start_as (λ a b. Turns g.I.Iterator.next_gives g.I.Iterator.can_next g.I.Iterator.remaining (record s { ahead = Taken (Err e); stopped = b }) (Yields (Err e)) (record s { ahead = a; stopped = true }))
    s.ahead s.stopped Unasked false c.requires.unasked c.requires.runs
    (stopped_turn g.I.Iterator.next_gives g.I.Iterator.can_next g.I.Iterator.remaining s (Err e) e s.held c.requires.can c.requires.ends (sym c.ends_walk.ensures ∙ c.if-ends_walk.true) (λ h. h)))

pub returns-then-not-is_above : goal.returns-then-not-is_above
returns-then-not-is_above g c =
    let s = c.args.self.now in
    let not : is_above (depth_of (failure c.args.error)) (entries_of s.held) ≡ false = ap (λ d. is_above d (entries_of s.held)) (sym c.depth.ensures) ∙ sym c.is_above.ensures ∙ c.if-not-is_above.true in
    let_out_before g.I.Iterator.next_gives g.I.Iterator.can_next g.I.Iterator.remaining (record s { ahead = Taken (Err c.args.error) }) c.let_out.new.self c.let_out.result (Err c.args.error) refl c.requires.runs c.requires.can c.requires.ends not c.let_out.ensures

pub returns : goal.returns
returns g c =
    let s = c.args.self.now in
    let e = c.args.error in
    let above : is_above (depth_of (failure e)) (entries_of s.held) ≡ true = ap (λ d. is_above d (entries_of s.held)) (sym c.depth.ensures) ∙ sym c.is_above.ensures ∙ c.if-not-is_above.false in
    start_as (λ a b. Turns g.I.Iterator.next_gives g.I.Iterator.can_next g.I.Iterator.remaining (record s { ahead = Taken (Err e); stopped = b }) (Yields (Err e)) (record s { ahead = a; stopped = b }))
    s.ahead s.stopped Unasked false c.requires.unasked c.requires.runs
    (error_turn g.I.Iterator.next_gives g.I.Iterator.can_next g.I.Iterator.remaining s e c.requires.can c.requires.ends (sym c.ends_walk.ensures ∙ c.if-ends_walk.false) above)
