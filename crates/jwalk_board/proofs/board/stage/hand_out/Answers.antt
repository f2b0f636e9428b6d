use Rattle.std.proofs.Common.{◌∷◌, [], map, refl, ap, sym, ◌∙◌, subst}
use Rattle.std.proofs.lemmas.List.{map-append}
use Rattle.std.specs.List.{slice_get}
use Rattle.std.specs.Option.{option_map}
use Rattle.jwalk_order.specs.IndexPath.{address}
use Rattle.jwalk_order.specs.Addressed.{addresses_of}
use Rattle.jwalk_board.specs.Plan.{specs_in_preorder}
use Rattle.jwalk_board.specs.Rehearsal.{Follows}
use Rattle.jwalk_board.specs.Run.{hand_out_if_finished}
use Rattle.jwalk_board.specs.Seen.{seen_item, seen_board}
use Rattle.jwalk_board.specs.Stage.{stage_of}
use Rattle.jwalk_board.proofs.Plays.{stage_as, hand_out_refused, played_hand_out}
use Rattle.jwalk_board.proofs.board.stage.hand_out.Goals as goal

pub returns-in_ok-push-in-Ok-clause-follows : goal.returns-in_ok-push-in-Ok-clause-follows
returns-in_ok-push-in-Ok-clause-follows g c = λ given t roots falls r f.
    let v = (g.P.Plan.spec_value given) in
    let w = (g.P.Plan.reading_value given) in
    let done = c.args.stage.now.done in
    stage_as t roots (hand_out_if_finished r (slice_get (addresses_of (specs_in_preorder t roots)) r.handed_out)) _ _ _ _ _ _ _ _ refl
    (ap (map (seen_item w)) c.in_ok-push-in-Ok.ensures.items ∙ map-append (seen_item w) done.handed_out.items (c.in-Ok.item ∷ [])) refl refl
    (played_hand_out v w t falls roots r (map (option_map (seen_item v)) c.args.stage.now.hands.items) (map (seen_item w) done.handed_out.items) (map address done.taken.items) done.board c.hand_out.new.self c.in-Ok.item f c.in-Ok.ensures.handed_out)

pub returns-in_default-clause-follows : goal.returns-in_default-clause-follows
returns-in_default-clause-follows g c = λ given t roots falls r f.
    let v = (g.P.Plan.spec_value given) in
    let w = (g.P.Plan.reading_value given) in
    let same = hand_out_refused v w t falls roots r _ _ _ _ c.in-Err.refusal f c.in-Err.ensures.refused c.in_default.not-Memory in
    stage_as t roots (hand_out_if_finished r (slice_get (addresses_of (specs_in_preorder t roots)) r.handed_out)) _ _ _ _ _ _ _ _ refl refl refl (ap (seen_board v w) c.in-Err.ensures.unchanged)
    (subst (λ z. Follows t roots z (stage_of v w c.args.stage.now)) (sym same) f)
