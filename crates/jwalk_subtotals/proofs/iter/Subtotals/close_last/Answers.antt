use Rattle.std.proofs.Common.{false}
use Rattle.jwalk_subtotals.specs.declared.iter.Ahead.TheVariants.{Over}
use Rattle.jwalk_subtotals.specs.declared.iter.Turn.TheVariants.{Ends}
use Rattle.jwalk_subtotals.specs.Stack.{frames_of}
use Rattle.jwalk_subtotals.specs.Turns.{Turns}
use Rattle.jwalk_subtotals.proofs.TurnFacts.{start_as, closed_at_end, ended_turn, some_if_not}
use Rattle.jwalk_subtotals.proofs.iter.Subtotals.close_last.Goals as goal

pub returns-then-is_empty : goal.returns-then-is_empty
returns-then-is_empty g c =
    let s = c.args.self.now in
    start_as (λ a b. Turns g.I.Iterator.next_gives g.I.Iterator.can_next g.I.Iterator.remaining (record s { ahead = a; stopped = b }) Ends (record s { ahead = a; stopped = b }))
    s.ahead s.stopped Over false c.requires.over c.requires.runs
    (ended_turn g.I.Iterator.next_gives g.I.Iterator.can_next g.I.Iterator.remaining s (c.is_empty.ensures.0 c.if-is_empty.true))

pub returns : goal.returns
returns g c =
    closed_at_end g.I.Iterator.next_gives g.I.Iterator.can_next g.I.Iterator.remaining c.args.self.now c.close.new.self c.close.result c.requires.over c.requires.runs
    (some_if_not c.is_empty.result (frames_of c.args.self.now.stack) c.is_empty.ensures c.if-is_empty.false) c.close.ensures
