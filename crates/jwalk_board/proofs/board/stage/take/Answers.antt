use Rattle.std.proofs.Common.{◌<◌, ◌∷◌, [], Some, length, map, refl, ap, sym, ◌∙◌, arith, subst}
use Rattle.std.proofs.lemmas.List.{map-append}
use Rattle.std.proofs.lemmas.Option.{slice_get-map}
use Rattle.std.specs.List.{slice_get}
use Rattle.std.specs.Option.{option_map}
use Rattle.std.proofs.lemmas.Result.{IfOk-from_err}
use Rattle.jwalk_order.specs.IndexPath.{address}
use Rattle.jwalk_order.specs.Addressed.{addresses_of}
use Rattle.jwalk_board.specs.Plan.{specs_in_preorder}
use Rattle.jwalk_board.specs.Rehearsal.{Follows}
use Rattle.jwalk_board.specs.Run.{take_by}
use Rattle.jwalk_board.specs.Seen.{seen_item, seen_board}
use Rattle.jwalk_board.specs.Stage.{stage_of}
use Rattle.jwalk_board.proofs.Follow.{busy_take}
use Rattle.jwalk_board.proofs.Plays.{stage_as, take_refused, played_take, get_read, none_is, some_is}
use Rattle.jwalk_board.proofs.UnderWay.{taken}
use Rattle.jwalk_board.proofs.board.stage.take.Goals as goal

pub returns-in_ok-push-in-Ok-clause-kept : goal.returns-in_ok-push-in-Ok-clause-kept
returns-in_ok-push-in-Ok-clause-kept g c =
    let hands = c.args.stage.now.hands in
    let there : c.args.worker < length hands.items = omega (arith, hands.ok.0, c.len.ensures) in
    let free = get_read hands.items c.args.worker c.index.result.now there c.index.ensures ∙ ap Some (none_is c.index.result.now (sym c.is_some.ensures ∙ c.if-is_some.false)) in
    taken hands.items c.args.stage.now.done.board c.take.new.self c.requires c.args.worker c.in-Ok.item free c.in-Ok.ensures.taken

pub returns-then-is_some-clause-follows : goal.returns-then-is_some-clause-follows
returns-then-is_some-clause-follows g c = λ given t roots falls r f.
    let v = (g.P.Plan.spec_value given) in
    let w = (g.P.Plan.reading_value given) in
    let hands = c.args.stage.now.hands in
    let k = c.args.worker in
    let there : k < length hands.items = omega (arith, hands.ok.0, c.len.ensures) in
    let x = some_is c.index.result.now (sym c.is_some.ensures ∙ c.if-is_some.true) in
    let held = get_read hands.items k c.index.result.now there c.index.ensures ∙ ap Some x.1 in
    let e = slice_get-map (option_map (seen_item v)) hands.items k ∙ ap (option_map (option_map (seen_item v))) held in
    subst (λ z. Follows t roots z (stage_of v w c.args.stage.now)) (sym (busy_take t falls roots r _ f k (seen_item v x.0) e)) f

pub returns-in_ok-push-in-Ok-clause-follows : goal.returns-in_ok-push-in-Ok-clause-follows
returns-in_ok-push-in-Ok-clause-follows g c = λ given t roots falls r f.
    let v = (g.P.Plan.spec_value given) in
    let w = (g.P.Plan.reading_value given) in
    let done = c.args.stage.now.done in
    let k = c.args.worker in
    let hands = c.args.stage.now.hands in
    let there : k < length hands.items = omega (arith, hands.ok.0, c.len.ensures) in
    let free = get_read hands.items k c.index.result.now there c.index.ensures ∙ ap Some (none_is c.index.result.now (sym c.is_some.ensures ∙ c.if-is_some.false)) in
    stage_as t roots (take_by (addresses_of (specs_in_preorder t roots)) r k (slice_get r.hands k)) _ _ _ _ _ _ _ _ refl refl
    (ap (map address) c.in_ok-push-in-Ok.ensures.items ∙ map-append address done.taken.items (c.in_ok-try_clone-in-Ok.field-0 ∷ [])) refl
    (played_take v w t falls roots r c.args.stage.now.hands.items (map (seen_item w) done.handed_out.items) (map address done.taken.items) done.board c.take.new.self k c.in-Ok.item
    (address c.in_ok-try_clone-in-Ok.field-0) f free c.in-Ok.ensures.taken c.in_ok-try_clone-in-Ok.ensures)

pub returns-in_default-clause-follows : goal.returns-in_default-clause-follows
returns-in_default-clause-follows g c = λ given t roots falls r f.
    let v = (g.P.Plan.spec_value given) in
    let w = (g.P.Plan.reading_value given) in
    let hands = c.args.stage.now.hands in
    let k = c.args.worker in
    let there : k < length hands.items = omega (arith, hands.ok.0, c.len.ensures) in
    let free = get_read hands.items k c.index.result.now there c.index.ensures ∙ ap Some (none_is c.index.result.now (sym c.is_some.ensures ∙ c.if-is_some.false)) in
    let e = slice_get-map (option_map (seen_item v)) hands.items k ∙ ap (option_map (option_map (seen_item v))) free in
    let same = take_refused v w t falls roots r _ _ _ _ k c.in-Err.refusal f e c.in-Err.ensures.refused c.in_default.not-Memory in
    stage_as t roots (take_by (addresses_of (specs_in_preorder t roots)) r k (slice_get r.hands k)) _ _ _ _ _ _ _ _ refl refl refl (ap (seen_board v w) c.in-Err.ensures.unchanged)
    (subst (λ z. Follows t roots z (stage_of v w c.args.stage.now)) (sym same) f)

pub returns-in_err-try_clone-in-Ok-clause-kept : goal.returns-in_err-try_clone-in-Ok-clause-kept
returns-in_err-try_clone-in-Ok-clause-kept g c = IfOk-from_err c.from_residual.result _ c.from_residual.ensures.0

pub returns-in_err-try_clone-in-Ok-clause-follows : goal.returns-in_err-try_clone-in-Ok-clause-follows
returns-in_err-try_clone-in-Ok-clause-follows g c = λ given t roots falls r f. IfOk-from_err c.from_residual.result _ c.from_residual.ensures.0

pub returns-in_err-push-in-Ok-clause-kept : goal.returns-in_err-push-in-Ok-clause-kept
returns-in_err-push-in-Ok-clause-kept g c = IfOk-from_err c.from_residual-in_err-push-in-Ok.result _ c.from_residual-in_err-push-in-Ok.ensures.0

pub returns-in_err-push-in-Ok-clause-follows : goal.returns-in_err-push-in-Ok-clause-follows
returns-in_err-push-in-Ok-clause-follows g c = λ given t roots falls r f. IfOk-from_err c.from_residual-in_err-push-in-Ok.result _ c.from_residual-in_err-push-in-Ok.ensures.0
