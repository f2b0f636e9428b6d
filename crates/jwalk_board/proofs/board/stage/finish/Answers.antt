use Rattle.std.proofs.Common.{◌≡◌, ◌<◌, Some, None, length, map, set, refl, ap, sym, ◌∙◌, arith, subst}
use Rattle.std.proofs.lemmas.Option.{slice_get-map}
use Rattle.std.specs.List.{slice_get}
use Rattle.std.specs.Option.{option_map}
use Rattle.std.proofs.lemmas.Result.{IfOk-from_err}
use Rattle.jwalk_order.specs.IndexPath.{address}
use Rattle.jwalk_board.specs.Rehearsal.{Follows}
use Rattle.jwalk_board.specs.Run.{finish_by}
use Rattle.jwalk_board.specs.Seen.{seen_item}
use Rattle.jwalk_board.specs.Stage.{stage_of, IsUnderWay}
use Rattle.jwalk_board.proofs.Follow.{free_finish}
use Rattle.jwalk_board.proofs.Plays.{stage_as, played_finish, get_read, set_same}
use Rattle.jwalk_board.proofs.UnderWay.{finished, only_memory}
use Rattle.jwalk_board.proofs.board.stage.finish.Goals as goal

pub unreachable-requires : goal.unreachable-requires
unreachable-requires g c =
    let hands = c.args.stage.now.hands in
    let there : c.args.worker < length hands.items = omega (arith, hands.ok.0, c.len.ensures) in
    let holds = get_read hands.items c.args.worker c.index_mut.result.now there c.index_mut.ensures.value ∙ ap Some (sym c.take.ensures.value ∙ c.in-Some.is) in
    let wanting = only_memory hands.items c.args.stage.now.done.board c.requires.under_way c.args.worker c.in-Some.item holds c.in-Err.fault.cause c.in-Err.ensures.refused in
    c.in_default-cause.not-Memory wanting

pub returns-in-Ok-clause-kept : goal.returns-in-Ok-clause-kept
returns-in-Ok-clause-kept g c =
    let hands = c.args.stage.now.hands in
    let board = c.args.stage.now.done.board in
    let there : c.args.worker < length hands.items = omega (arith, hands.ok.0, c.len.ensures) in
    let holds = get_read hands.items c.args.worker c.index_mut.result.now there c.index_mut.ensures.value ∙ ap Some (sym c.take.ensures.value ∙ c.in-Some.is) in
    subst (λ z. IsUnderWay (set hands.items c.args.worker z) c.finish.new.self) (sym c.take.ensures.after)
    (finished hands.items board c.finish.new.self c.requires.under_way c.args.worker c.in-Some.item c.in_ok-reading.reading c.in_ok-reading.children.items holds c.in-Ok.ensures.finished)

pub returns-in_default-clause-follows : goal.returns-in_default-clause-follows
returns-in_default-clause-follows g c = λ given fixed roots r f.
    let v = (g.P.Plan.spec_value given) in
    let w = (g.P.Plan.reading_value given) in
    let t = g.P.Plan.tree c.args.plan.now given in
    let falls = g.met.P.Plan.falls c.args.plan.now given fixed in
    let hands = c.args.stage.now.hands in
    let done = c.args.stage.now.done in
    let k = c.args.worker in
    let there : k < length hands.items = omega (arith, hands.ok.0, c.len.ensures) in
    let free = get_read hands.items k c.index_mut.result.now there c.index_mut.ensures.value ∙ ap Some (sym c.take.ensures.value ∙ c.in_default.is) in
    let e = slice_get-map (option_map (seen_item v)) hands.items k ∙ ap (option_map (option_map (seen_item v))) free in
    let same : set hands.items k c.take.new.self ≡ hands.items = ap (set hands.items k) c.take.ensures.after ∙ set_same hands.items k None free in
    stage_as t roots (finish_by r k (slice_get r.hands k)) _ _ _ _ _ _ _ _ (ap (map (option_map (seen_item v))) same) refl refl refl
    (subst (λ z. Follows t roots z (stage_of v w c.args.stage.now)) (sym (free_finish t falls roots r _ f k e)) f)

pub returns-in-Ok-clause-follows : goal.returns-in-Ok-clause-follows
returns-in-Ok-clause-follows g c = λ given fixed roots r f.
    let v = (g.P.Plan.spec_value given) in
    let w = (g.P.Plan.reading_value given) in
    let t = g.P.Plan.tree c.args.plan.now given in
    let falls = g.met.P.Plan.falls c.args.plan.now given fixed in
    let hands = c.args.stage.now.hands in
    let done = c.args.stage.now.done in
    let k = c.args.worker in
    let there : k < length hands.items = omega (arith, hands.ok.0, c.len.ensures) in
    let holds = get_read hands.items k c.index_mut.result.now there c.index_mut.ensures.value ∙ ap Some (sym c.take.ensures.value ∙ c.in-Some.is) in
    let as_given = g.met.P.Plan.as_given c.args.plan.now c.in-Some.item.value c.in_ok-reading.reading c.in_ok-reading.children.items c.in_ok-reading.ensures given fixed in
    stage_as t roots (finish_by r k (slice_get r.hands k)) _ _ _ _ _ _ _ _ (ap (λ z. map (option_map (seen_item v)) (set hands.items k z)) c.take.ensures.after) refl refl refl
    (played_finish v w t falls roots r hands.items (map (seen_item w) done.handed_out.items) (map address done.taken.items) done.board c.finish.new.self k c.in-Some.item
    c.in_ok-reading.reading c.in_ok-reading.children.items f holds as_given.0 as_given.1 c.in-Ok.ensures.finished)

pub returns-then-worker-len-clause-kept : goal.returns-then-worker-len-clause-kept
returns-then-worker-len-clause-kept g c = c.requires.under_way

pub index_mut-requires : goal.index_mut-requires
index_mut-requires g c = subst (λ n. c.args.worker < n) c.len.ensures c.if-worker-len.false

pub returns-in_default-clause-kept : goal.returns-in_default-clause-kept
returns-in_default-clause-kept g c =
    let hands = c.args.stage.now.hands in
    let k = c.args.worker in
    let there : k < length hands.items = omega (arith, hands.ok.0, c.len.ensures) in
    let free = get_read hands.items k c.index_mut.result.now there c.index_mut.ensures.value ∙ ap Some (sym c.take.ensures.value ∙ c.in_default.is) in
    let same : set hands.items k c.take.new.self ≡ hands.items = ap (set hands.items k) c.take.ensures.after ∙ set_same hands.items k None free in
    subst (λ l. IsUnderWay l c.args.stage.now.done.board) (sym same) c.requires.under_way

pub returns-in_err-reading-clause-kept : goal.returns-in_err-reading-clause-kept
returns-in_err-reading-clause-kept g c = IfOk-from_err c.from_residual.result _ c.from_residual.ensures.0

pub returns-in_err-reading-clause-follows : goal.returns-in_err-reading-clause-follows
returns-in_err-reading-clause-follows g c = λ given fixed roots r f. IfOk-from_err c.from_residual.result _ c.from_residual.ensures.0

pub returns-in-Memory-clause-kept : goal.returns-in-Memory-clause-kept
returns-in-Memory-clause-kept g c = tt

pub returns-in-Memory-clause-follows : goal.returns-in-Memory-clause-follows
returns-in-Memory-clause-follows g c = λ given fixed roots r f. tt
