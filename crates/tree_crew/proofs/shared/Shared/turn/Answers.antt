use Rattle.std.proofs.Common.{◌∙◌, refl, sym, ap, subst}
use Rattle.jwalk_board.specs.Board.{IsNextReady}
use Rattle.tree_crew.specs.Crew.{limit_of}
use Rattle.tree_crew.proofs.ReadAheadFacts.{same_within, takers_at, turned_within, turns_at}
use Rattle.tree_crew.proofs.SharedFacts.{same_of, turned_of, turned_frontier}
use Rattle.tree_crew.proofs.HandledFacts.{receipt_for}
use Rattle.tree_crew.proofs.shared.Shared.turn.Goals as goal

pub put_back-requires-clause-board : goal.put_back-requires-clause-board
put_back-requires-clause-board g c = (turned_of _ _ _ _ (same_of _ _ _ _ c.in-Ok.ensures.board c.deref_mut.ensures.value) _ _ _ c.take_turn-turn.ensures).1

pub put_back-requires-clause-within : goal.put_back-requires-clause-within
put_back-requires-clause-within g c =
    let limit = c.new-ahead.ensures.limit ∙ (c.read_ahead.ensures ∙ (ap limit_of c.deref.ensures ∙ c.args.self.now.own.1)) in
    turned_within _ _ _ _ _ (turns_at _ _ _ _ limit refl _ _ _ c.take_turn-turn.ensures) (same_within _ _ _ c.deref_mut.ensures.value c.in-Ok.ensures.within)

pub put_back-requires-clause-mark : goal.put_back-requires-clause-mark
put_back-requires-clause-mark g c = turned_frontier _ _ _ _ _ c.take_turn-turn.ensures ∙ (ap (λ b. b.frontier) c.deref_mut.ensures.value ∙ sym c.in-Ok.ensures.mark)

pub put_back-requires-clause-owed : goal.put_back-requires-clause-owed
put_back-requires-clause-owed g c = c.in-Ok.ensures.owed

pub returns-clause-turn : goal.returns-clause-turn
returns-clause-turn g c = (turned_of _ _ _ _ (same_of _ _ _ _ c.in-Ok.ensures.board c.deref_mut.ensures.value) _ _ _ c.take_turn-turn.ensures).0

pub returns-clause-handled : goal.returns-clause-handled
returns-clause-handled g c =
    let limit = c.new-ahead.ensures.limit ∙ (c.read_ahead.ensures ∙ (ap limit_of c.deref.ensures ∙ c.args.self.now.own.1)) in
    let is_full = c.new-ahead.ensures.is_full ∙ (c.is_full.ensures ∙ ap (λ s. s.is_full) c.deref-2.ensures) in
    receipt_for _ _ _ _ _ _ _ c.put_back.ensures.slot c.put_back.ensures.taken c.in-Ok.ensures.lent c.deref_mut.ensures.value c.put_back.ensures.put
    (record {
      turns = turns_at _ _ _ _ limit is_full _ _ _ c.take_turn-turn.ensures;
      calls_workers = λ going. takers_at _ _ _ _ limit is_full _ _ c.deref-4.ensures _ (c.after_turn-calls.ensures.workers going);
      calls_walk = λ ready. c.after_turn-calls.ensures.ready (subst IsNextReady (sym c.deref-4.ensures) ready);
    })
