use Rattle.std.proofs.Common.{◌≡◌, ◌+◌, ◌∷◌, ◌++◌, [], map, take, get_or, sym, ap, ◌∙◌, subst, refl}
use Rattle.std.proofs.lemmas.List.{take_more, take_all}
use Rattle.std.specs.Option.{option_map}
use Rattle.jwalk_order.specs.IndexPath.{address}
use Rattle.jwalk_order.specs.Addressed.{addresses_of}
use Rattle.jwalk_board.specs.Plan.{specs_in_preorder}
use Rattle.jwalk_board.specs.Rehearsal.{Follows, MatchesRun}
use Rattle.jwalk_board.specs.Run.{move, run_of_moves}
use Rattle.jwalk_board.specs.Seen.{seen_item, seen_board}
use Rattle.jwalk_board.specs.Stage.{stage_of, rehearsed}
use Rattle.jwalk_board.specs.declared.board.moves.Move.TheVariants.{Take}
use Rattle.jwalk_board.proofs.Follow.{follows_start, moved-push, matches_run, in_order}
use Rattle.jwalk_board.proofs.Plays.{stage_as, map_none, seen_new}
use Rattle.jwalk_board.proofs.UnderWay.{begins}
use Rattle.jwalk_board.proofs.board.rehearsal.rehearse.Goals as goal

pub loop-next-init : goal.loop-next-init
loop-next-init g c = (
  begins c.args.roots.items c.in-Ok.board c.args.workers _ c.in-Ok.ensures.made c.in_ok-hands.ensures,
  λ given fixed.
      let t = g.P.Plan.tree c.args.plan.now given in
      let falls = g.met.P.Plan.falls c.args.plan.now given fixed in
      let v = (g.P.Plan.spec_value given) in
      let w = (g.P.Plan.reading_value given) in
      let roots = map (g.P.Plan.spec_value given) c.args.roots.items in
      stage_as t roots (run_of_moves (addresses_of (specs_in_preorder t roots)) c.args.workers []) _ _ _ _ _ _ _ _
      (ap (map (option_map (seen_item v))) c.in_ok-hands.ensures ∙ map_none (seen_item v) c.args.workers) (ap (map (seen_item w)) c.new-2.ensures.items) (ap (map address) c.new-3.ensures.items) refl
      (follows_start t roots falls c.args.workers (seen_board v w c.in-Ok.board) (seen_new v w c.args.roots.items c.in-Ok.board c.in-Ok.ensures.made)),
)

pub loop-next-preserved : goal.loop-next-preserved
loop-next-preserved g c = (
  c.in_ok-play.ensures.kept,
  λ given fixed.
      let t = g.P.Plan.tree c.args.plan.now given in
      let roots = map (g.P.Plan.spec_value given) c.args.roots.items in
      let all = addresses_of (specs_in_preorder t roots) in
      let moves = c.args.moves.now in
      let i = c.loop-next.next-index in
      let next = get_or moves i (Take 0) in
      let more : take (i + 1) moves ≡ take i moves ++ next ∷ [] = take_more moves i (Take 0) c.loop-next-test.true in
      let run : run_of_moves all c.args.workers (take (i + 1) moves) ≡ move all (run_of_moves all c.args.workers (take i moves)) next =
      ap (run_of_moves all c.args.workers) more ∙ moved-push all (run_of_moves all c.args.workers []) (take i moves) next in
      subst (λ r. Follows t roots r (stage_of (g.P.Plan.spec_value given) (g.P.Plan.reading_value given) c.play.new.stage)) (sym run)
      (c.in_ok-play.ensures.follows given fixed roots (run_of_moves all c.args.workers (take i moves)) (c.loop-next.invariant.1 given fixed)),
)

pub returns-clause-matches_run : goal.returns-clause-matches_run
returns-clause-matches_run g c = λ given fixed.
    let t = g.P.Plan.tree c.args.plan.now given in
    let roots = map (g.P.Plan.spec_value given) c.args.roots.items in
    let whole = take_all c.loop-next.next-index c.args.moves.now c.loop-next-test.false in
    subst (λ ms. MatchesRun t roots (run_of_moves (addresses_of (specs_in_preorder t roots)) c.args.workers ms) (rehearsed (g.P.Plan.spec_value given) (g.P.Plan.reading_value given) c.loop-next.stage.done)) whole
    (matches_run t (g.met.P.Plan.falls c.args.plan.now given fixed) roots _ _ (c.loop-next.invariant.1 given fixed))

pub returns-clause-in_order : goal.returns-clause-in_order
returns-clause-in_order g c = λ given fixed.
    in_order (g.P.Plan.tree c.args.plan.now given) (g.met.P.Plan.falls c.args.plan.now given fixed) (map (g.P.Plan.spec_value given) c.args.roots.items) _ _ (c.loop-next.invariant.1 given fixed)
