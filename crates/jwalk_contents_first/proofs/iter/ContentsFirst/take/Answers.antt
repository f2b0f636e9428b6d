use Rattle.std.proofs.Common.{rules, ◌≡◌, false, Some, Ok, refl, sym, ap, ◌∙◌, subst}
use Rattle.std.specs.Iterator.{MakesProgress}
use Rattle.jwalk_contents_first.specs.declared.iter.Ahead.TheVariants.{Unasked}
use Rattle.jwalk_contents_first.specs.declared.iter.Turn.TheVariants.{Yields, GoesOn}
use Rattle.jwalk_contents_first.specs.Coming.{answers_of, is_over_in, MayAsk}
use Rattle.jwalk_contents_first.specs.Turns.{ahead_of, Turns}
use Rattle.jwalk_contents_first.proofs.TurnFacts.{asks_alone, start_as, swapped_turn, waiting_turn, waits_alike}
use Rattle.jwalk_contents_first.proofs.iter.ContentsFirst.take.Goals.{in-Some-Ok+else-swap_last, in-Some+in-Err-1, in-None-1}
use Rattle.jwalk_contents_first.proofs.iter.ContentsFirst.take.Goals as goal

pub returns-then-swap_last : goal.returns-then-swap_last
returns-then-swap_last g c =
    let s = c.args.self.now in
    let t = c.next-answer.new.self in
    let new = c.swap_last.new.self in
    let found = c.in-Some-Ok.found in
    let out = c.swap_last.new.found in
    let alone = asks_alone s.stopped s.ahead c.requires.asks in
    let may = subst (λ a. MayAsk g.I.Iterator.can_next g.I.Iterator.remaining (is_over_in a) (answers_of s)) alone.0 c.requires.can in
    let is : c.next-answer.result ≡ Some (Ok found) = c.in-Some-Ok.is ∙ ap Some c.in-Some-Ok.field-0-is in
    let step = subst (λ y. g.I.Iterator.next_gives (answers_of s) y t) is c.next-answer.ensures.steps in
    let goes = subst (λ y. MakesProgress g.I.Iterator.can_next g.I.Iterator.remaining (answers_of s) y t) is c.next-answer.ensures.goes in
    let on = goes.on may.1 in
    start_as (λ a b. Turns g.I.Iterator.next_gives g.I.Iterator.can_next g.I.Iterator.remaining (record s { ahead = a; stopped = b }) (Yields (Ok out)) (record s { answers = t; held = new; ahead = a; stopped = b }))
    s.ahead s.stopped Unasked false alone.0 alone.1
    (swapped_turn g.I.Iterator.next_gives g.I.Iterator.can_next g.I.Iterator.remaining s t found out new step on.0 on.1 on.2 (sym c.if-swap_last.ensures.tells) (c.if-swap_last.ensures.swapped refl))

pub returns : goal.returns
returns g c =
    let s = c.args.self.now in
    let t = c.next-answer.new.self in
    let answer = c.next-answer.result in
    let alone = asks_alone s.stopped s.ahead c.requires.asks in
    let may = subst (λ a. MayAsk g.I.Iterator.can_next g.I.Iterator.remaining (is_over_in a) (answers_of s)) alone.0 c.requires.can in
    let same : (c.match-answer.self ≡ record s { answers = t }) × (c.match-answer.answer ≡ answer) = elim c.match-answer.branch [
      | in-Some-Ok+else-swap_last w ↦
          let kept = w.if-swap_last.ensures.kept refl in
          (w.self-is ∙ ap (λ h. record s { answers = t; held = h }) kept.0, w.answer-is ∙ ap (λ d. Some (Ok d)) kept.1 ∙ sym (w.in-Some-Ok.is ∙ ap Some w.in-Some-Ok.field-0-is))
      | in-Some+in-Err-1 w ↦ (w.self-is, search rules)
      | in-None-1 w ↦ (w.self-is, search rules)
    ] in
    subst (λ n. Turns g.I.Iterator.next_gives g.I.Iterator.can_next g.I.Iterator.remaining s GoesOn n)
    (sym (c.wait.ensures ∙ waits_alike c.match-answer.self (record s { answers = t }) c.match-answer.answer answer same.0 same.1))
    (start_as (λ a b. Turns g.I.Iterator.next_gives g.I.Iterator.can_next g.I.Iterator.remaining (record s { ahead = a; stopped = b }) GoesOn (record s { answers = t; ahead = ahead_of answer; stopped = b }))
    s.ahead s.stopped Unasked false alone.0 alone.1
    (waiting_turn g.I.Iterator.next_gives g.I.Iterator.can_next g.I.Iterator.remaining s t answer c.next-answer.ensures.steps may.1 c.next-answer.ensures.goes))
