use Rattle.std.proofs.Common.{◌≡◌, ℕ, true, List, [], ◌++◌, map, length, eqb, Some, Err, sym, ap, subst, ◌∙◌, arith, ◌∷◌, ◌≤◌, None}
use Rattle.std.proofs.lemmas.Bool.{false≢true, eqb-true}
use Rattle.std.proofs.lemmas.List.{nil_from_length}
use Rattle.std.proofs.lemmas.Result.{err_from_is_err_and, IfOk-from_err, IfOk-weaker}
use Rattle.std.specs.Path.{path_components, components_remaining}
use Rattle.jwalk_model.specs.PathTexts.{component_read, component_seen, components_left}
use Rattle.jwalk_model.specs.Paths.{Component}
use Rattle.jwalk_model.proofs.PathFacts.{path_components-read, next_read}
use Rattle.jwalk_memory_fs.specs.declared.hit.Hit.{Hit as CodeHit}
use Rattle.jwalk_memory_fs.specs.Hit.{hit_seen, answer_seen}
use Rattle.jwalk_memory_fs.specs.Branch.{go_on, reached, LinkLeadsOn, IsWithin}
use Rattle.jwalk_memory_fs.specs.Table.{branches}
use Rattle.jwalk_memory_fs.proofs.WalkLemmas.{no_target, by_target, IsReady, ready-link, ready-plain, walk_on}
use Rattle.jwalk_memory_fs.proofs.memory_fs.MemoryFs.+links.Goals as goal
use Rattle.jwalk_memory_fs.proofs.memory_fs.MemoryFs.+links.Goals.{walk-in-Link+in_ok-end, walk-in_default}

no_bytes : (bytes : List ℕ) → eqb (length bytes) 0 ≡ true → bytes ≡ []
no_bytes bytes e = nil_from_length bytes (eqb-true (length bytes) 0 e)

pub followed-returns-then-is_empty-clause-value : goal.followed-returns-then-is_empty-clause-value
followed-returns-then-is_empty-clause-value g t c =
    no_target (branches c.args.self.now.table) c.args.links c.args.holder c.args.target.now c.if-links-eq0.false (no_bytes c.args.target.now (sym c.is_empty.ensures ∙ c.if-is_empty.true))

pub followed-returns-in_err-hit-clause-value : goal.followed-returns-in_err-hit-clause-value
followed-returns-in_err-hit-clause-value g t c =
    let p = err_from_is_err_and c.from_residual.result c.from_residual.ensures.1 in
    subst (LinkLeadsOn (branches c.args.self.now.table) c.args.links c.args.holder c.args.target.now) (c.in_err-hit.was ∙ sym (p.1 ∙ ap (λ e. Err e) p.2))
    (by_target (branches c.args.self.now.table) c.args.links c.args.holder c.args.target.now _ c.walk.result c.if-links-eq0.false
    (λ e. false≢true (sym c.if-is_empty.false ∙ c.is_empty.ensures ∙ ap (λ (p : List ℕ). eqb (length p) 0) e))
    (ap (map component_read) (c.components.ensures ∙ ap path_components c.new.ensures) ∙ path_components-read c.args.target.now) c.walk.ensures.value)

pub followed-returns-in-Link-clause-value : goal.followed-returns-in-Link-clause-value
followed-returns-in-Link-clause-value g t c = λ follow left is_followed.
    by_target (branches c.args.self.now.table) c.args.links c.args.holder c.args.target.now _ c.walk.result c.if-links-eq0.false
    (λ e. false≢true (sym c.if-is_empty.false ∙ c.is_empty.ensures ∙ ap (λ (p : List ℕ). eqb (length p) 0) e))
    (ap (map component_read) (c.components.ensures ∙ ap path_components c.new.ensures) ∙ path_components-read c.args.target.now) c.walk.ensures.value follow left is_followed
    ∙ ap (go_on (λ (r : CodeHit × ℕ). reached (branches c.args.self.now.table) follow r.1 (hit_seen r.0) left)) c.in_ok-hit.was
    ∙ ap (λ (h : CodeHit). reached (branches c.args.self.now.table) follow c.in_ok-hit.left (hit_seen h) left) c.in-Link.is
    ∙ c.followed.ensures.value follow left is_followed

pub followed-returns-in-Dir-clause-value : goal.followed-returns-in-Dir-clause-value
followed-returns-in-Dir-clause-value g t c = λ follow left is_followed.
    by_target (branches c.args.self.now.table) c.args.links c.args.holder c.args.target.now _ c.walk.result c.if-links-eq0.false
    (λ e. false≢true (sym c.if-is_empty.false ∙ c.is_empty.ensures ∙ ap (λ (p : List ℕ). eqb (length p) 0) e))
    (ap (map component_read) (c.components.ensures ∙ ap path_components c.new.ensures) ∙ path_components-read c.args.target.now) c.walk.ensures.value follow left is_followed
    ∙ ap (go_on (λ (r : CodeHit × ℕ). reached (branches c.args.self.now.table) follow r.1 (hit_seen r.0) left)) c.in_ok-hit.was

pub followed-returns-in-File-clause-value : goal.followed-returns-in-File-clause-value
followed-returns-in-File-clause-value g t c = λ follow left is_followed.
    by_target (branches c.args.self.now.table) c.args.links c.args.holder c.args.target.now _ c.walk.result c.if-links-eq0.false
    (λ e. false≢true (sym c.if-is_empty.false ∙ c.is_empty.ensures ∙ ap (λ (p : List ℕ). eqb (length p) 0) e))
    (ap (map component_read) (c.components.ensures ∙ ap path_components c.new.ensures) ∙ path_components-read c.args.target.now) c.walk.ensures.value follow left is_followed
    ∙ ap (go_on (λ (r : CodeHit × ℕ). reached (branches c.args.self.now.table) follow r.1 (hit_seen r.0) left)) c.in_ok-hit.was

pub walk-returns-in_err-hit-clause-value : goal.walk-returns-in_err-hit-clause-value
walk-returns-in_err-hit-clause-value g t c = λ follow left.
    let ready : IsReady (branches c.args.self.now.table) c.loop-component.left (hit_seen c.loop-component.hit) c.match-hit.left (hit_seen c.match-hit.hit) =
    elim c.match-hit.branch [
      | walk-in-Link+in_ok-end w ↦
          ready-link (branches c.args.self.now.table) c.loop-component.left w.in-Link.holder w.in-Link.target.now (hit_seen c.loop-component.hit) (ap hit_seen w.in-Link.is) w.followed.result
          w.in_ok-end.end c.match-hit.hit w.in_ok-end.fewer c.match-hit.left w.hit-is w.left-is w.followed.ensures.value w.in_ok-end.was w.followed.ensures.settled w.followed.ensures.fewer
      | walk-in_default w ↦ ready-plain (branches c.args.self.now.table) c.loop-component.left c.loop-component.hit c.match-hit.hit c.match-hit.left w.in_default.not-Link w.hit-is w.left-is
    ] in
    let p = err_from_is_err_and c.from_residual-in_err-hit.result c.from_residual-in_err-hit.ensures.1 in
    sym (walk_on (branches c.args.self.now.table) c.args.links c.loop-component.left c.match-hit.left (hit_seen c.args.from) (hit_seen c.loop-component.hit) (hit_seen c.match-hit.hit)
    (components_left c.args.components) (components_left c.loop-component.component-iterator) (components_left c.next.new.self) (component_seen c.in-Some.component) c.step.result
    c.loop-component.invariant.2 (next_read (components_remaining c.loop-component.component-iterator) (components_remaining c.next.new.self) (Some c.in-Some.component) c.in-Some.ensures.steps) ready c.step.ensures.value follow left)
    ∙ ap (λ r. go_on (λ next. reached (branches c.args.self.now.table) follow c.match-hit.left next (components_left c.next.new.self ++ left)) (answer_seen r)) c.in_err-hit.was
    ∙ sym (ap (go_on (λ (r : CodeHit × ℕ). reached (branches c.args.self.now.table) follow r.1 (hit_seen r.0) left)) (p.1 ∙ ap (λ e. Err e) p.2))

pub walk-loop-component-preserved : goal.walk-loop-component-preserved
walk-loop-component-preserved g t c =
    let ready : IsReady (branches c.args.self.now.table) c.loop-component.left (hit_seen c.loop-component.hit) c.match-hit.left (hit_seen c.match-hit.hit) =
    elim c.match-hit.branch [
      | walk-in-Link+in_ok-end w ↦
          ready-link (branches c.args.self.now.table) c.loop-component.left w.in-Link.holder w.in-Link.target.now (hit_seen c.loop-component.hit) (ap hit_seen w.in-Link.is) w.followed.result
          w.in_ok-end.end c.match-hit.hit w.in_ok-end.fewer c.match-hit.left w.hit-is w.left-is w.followed.ensures.value w.in_ok-end.was w.followed.ensures.settled w.followed.ensures.fewer
      | walk-in_default w ↦ ready-plain (branches c.args.self.now.table) c.loop-component.left c.loop-component.hit c.match-hit.hit c.match-hit.left w.in_default.not-Link w.hit-is w.left-is
    ] in (
      c.in_ok-hit.ensures.within,
      let a = ready.less in let b = c.loop-component.invariant.1 in omega arith,
      λ follow rest.
          ap (λ r. go_on (λ next. reached (branches c.args.self.now.table) follow c.match-hit.left next (components_left c.next.new.self ++ rest)) (answer_seen r)) (sym c.in_ok-hit.was)
          ∙ walk_on (branches c.args.self.now.table) c.args.links c.loop-component.left c.match-hit.left (hit_seen c.args.from) (hit_seen c.loop-component.hit) (hit_seen c.match-hit.hit)
          (components_left c.args.components) (components_left c.loop-component.component-iterator) (components_left c.next.new.self) (component_seen c.in-Some.component) c.step.result
          c.loop-component.invariant.2 (next_read (components_remaining c.loop-component.component-iterator) (components_remaining c.next.new.self) (Some c.in-Some.component) c.in-Some.ensures.steps) ready c.step.ensures.value follow rest,
    )

pub followed-returns-in_err-hit-clause-settled : goal.followed-returns-in_err-hit-clause-settled
followed-returns-in_err-hit-clause-settled g t c = IfOk-from_err c.from_residual.result _ c.from_residual.ensures.0

pub followed-returns-in_err-hit-clause-within : goal.followed-returns-in_err-hit-clause-within
followed-returns-in_err-hit-clause-within g t c = IfOk-from_err c.from_residual.result _ c.from_residual.ensures.0

pub followed-returns-in_err-hit-clause-fewer : goal.followed-returns-in_err-hit-clause-fewer
followed-returns-in_err-hit-clause-fewer g t c = IfOk-from_err c.from_residual.result _ c.from_residual.ensures.0

pub followed-returns-in-Link-clause-settled : goal.followed-returns-in-Link-clause-settled
followed-returns-in-Link-clause-settled g t c = c.followed.ensures.settled

pub followed-returns-in-Link-clause-within : goal.followed-returns-in-Link-clause-within
followed-returns-in-Link-clause-within g t c = c.followed.ensures.within

pub followed-returns-in-Link-clause-fewer : goal.followed-returns-in-Link-clause-fewer
followed-returns-in-Link-clause-fewer g t c =
    IfOk-weaker c.followed.result (λ (r : CodeHit × ℕ). r.1 ≤ c.in_ok-hit.left) (λ (r : CodeHit × ℕ). r.1 ≤ c.args.links) (λ r h. omega (arith, h, c.in_ok-hit.ensures.fewer))
    c.followed.ensures.fewer

pub followed-returns-in-Dir-clause-within : goal.followed-returns-in-Dir-clause-within
followed-returns-in-Dir-clause-within g t c = c.in_ok-hit.ensures.within

pub followed-returns-in-Dir-clause-fewer : goal.followed-returns-in-Dir-clause-fewer
followed-returns-in-Dir-clause-fewer g t c = omega (arith, c.in_ok-hit.ensures.fewer)

pub followed-returns-in-File-clause-within : goal.followed-returns-in-File-clause-within
followed-returns-in-File-clause-within g t c = c.in_ok-hit.ensures.within

pub followed-returns-in-File-clause-fewer : goal.followed-returns-in-File-clause-fewer
followed-returns-in-File-clause-fewer g t c = omega (arith, c.in_ok-hit.ensures.fewer)

pub walk-returns-in_err-end-clause-value : goal.walk-returns-in_err-end-clause-value
walk-returns-in_err-end-clause-value g t c = λ follow left.
    let table = branches c.args.self.now.table in
    let rest = component_seen c.in-Some.component ∷ components_left c.next.new.self ++ left in
    let p = err_from_is_err_and c.from_residual.result c.from_residual.ensures.1 in
    sym (c.loop-component.invariant.2 follow left)
    ∙ ap (λ (cs : List Component). reached table follow c.loop-component.left (hit_seen c.loop-component.hit) (cs ++ left))
    (next_read (components_remaining c.loop-component.component-iterator) (components_remaining c.next.new.self) (Some c.in-Some.component) c.in-Some.ensures.steps)
    ∙ ap (λ (h : CodeHit). reached table follow c.loop-component.left (hit_seen h) rest) c.in-Link.is
    ∙ c.followed.ensures.value follow rest tt
    ∙ ap (go_on (λ (r : CodeHit × ℕ). reached table follow r.1 (hit_seen r.0) rest)) c.in_err-end.was
    ∙ sym (ap (go_on (λ (r : CodeHit × ℕ). reached table follow r.1 (hit_seen r.0) left)) (p.1 ∙ ap (λ e. Err e) p.2))

pub walk-returns-in_err-end-clause-within : goal.walk-returns-in_err-end-clause-within
walk-returns-in_err-end-clause-within g t c = IfOk-from_err c.from_residual.result _ c.from_residual.ensures.0

pub walk-returns-in_err-end-clause-fewer : goal.walk-returns-in_err-end-clause-fewer
walk-returns-in_err-end-clause-fewer g t c = IfOk-from_err c.from_residual.result _ c.from_residual.ensures.0

pub walk-returns-in_err-hit-clause-within : goal.walk-returns-in_err-hit-clause-within
walk-returns-in_err-hit-clause-within g t c = IfOk-from_err c.from_residual-in_err-hit.result _ c.from_residual-in_err-hit.ensures.0

pub walk-returns-in_err-hit-clause-fewer : goal.walk-returns-in_err-hit-clause-fewer
walk-returns-in_err-hit-clause-fewer g t c = IfOk-from_err c.from_residual-in_err-hit.result _ c.from_residual-in_err-hit.ensures.0

pub walk-returns-clause-value : goal.walk-returns-clause-value
walk-returns-clause-value g t c = λ follow left.
    sym (c.loop-component.invariant.2 follow left)
    ∙ ap (λ (cs : List Component). reached (branches c.args.self.now.table) follow c.loop-component.left (hit_seen c.loop-component.hit) (cs ++ left))
    (next_read (components_remaining c.loop-component.component-iterator) (components_remaining c.next.new.self) None c.in-None.ensures.steps).0

pub walk-returns-clause-within : goal.walk-returns-clause-within
walk-returns-clause-within g t c = c.loop-component.invariant.0

pub walk-returns-clause-fewer : goal.walk-returns-clause-fewer
walk-returns-clause-fewer g t c = c.loop-component.invariant.1

pub walk-step-requires : goal.walk-step-requires
walk-step-requires g t c =
    elim c.match-hit.branch [
      | walk-in-Link+in_ok-end w ↦ subst (λ (h : CodeHit). IsWithin (branches c.args.self.now.table) (hit_seen h)) (sym w.hit-is) w.in_ok-end.ensures.within
      | walk-in_default w ↦ subst (λ (h : CodeHit). IsWithin (branches c.args.self.now.table) (hit_seen h)) (sym w.hit-is) c.loop-component.invariant.0
    ]
