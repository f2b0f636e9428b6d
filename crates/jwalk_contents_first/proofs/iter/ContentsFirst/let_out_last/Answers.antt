use Rattle.std.proofs.Common.{◌≡◌, [], false, Ok, refl, ap, ◌∙◌}
use Rattle.jwalk_job.specs.Entry.{entry}
use Rattle.jwalk_contents_first.specs.declared.iter.Ahead.TheVariants.{Over}
use Rattle.jwalk_contents_first.specs.declared.iter.Turn.TheVariants.{Yields, Ends}
use Rattle.jwalk_contents_first.specs.Coming.{entries_of, left_of}
use Rattle.jwalk_contents_first.specs.Turns.{Turns}
use Rattle.jwalk_contents_first.proofs.ClosingFacts.{none_popped, some_popped, yields_popped}
use Rattle.jwalk_contents_first.proofs.TurnFacts.{start_as, let_out_at_end, ended_turn}
use Rattle.jwalk_contents_first.proofs.iter.ContentsFirst.let_out_last.Goals as goal

pub returns-in-Some : goal.returns-in-Some
returns-in-Some g c =
    let s = c.args.self.now in
    let e = entry c.in-Some.found in
    let_out_at_end g.I.Iterator.next_gives g.I.Iterator.can_next g.I.Iterator.remaining s (record s { held = c.pop.new.self }) (Yields (Ok c.in-Some.found)) c.requires.over c.requires.runs
    (some_popped e (entries_of s.held) c.in-Some.ensures.popped)
    (record {
      answers = refl;
      ahead = refl;
      runs = c.requires.runs;
      last = refl;
      goes_on = refl;
      left = c.pop.ensures.left;
      yields = yields_popped e (entries_of s.held) c.in-Some.ensures.popped;
    })

pub returns-in-None : goal.returns-in-None
returns-in-None g c =
    let s = c.args.self.now in
    let none : entries_of s.held ≡ [] = none_popped (entries_of s.held) c.in-None.ensures.popped in
    start_as (λ a b. Turns g.I.Iterator.next_gives g.I.Iterator.can_next g.I.Iterator.remaining (record s { ahead = a; stopped = b }) Ends (record s { held = c.pop.new.self; ahead = a; stopped = b }))
    s.ahead s.stopped Over false c.requires.over c.requires.runs
    (ended_turn g.I.Iterator.next_gives g.I.Iterator.can_next g.I.Iterator.remaining s c.pop.new.self none (c.pop.ensures.left ∙ ap left_of none))
