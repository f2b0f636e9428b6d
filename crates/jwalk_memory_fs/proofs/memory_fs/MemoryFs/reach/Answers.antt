use Rattle.std.proofs.Common.{ℕ, [], Err, sym, ap, subst, ◌∙◌}
use Rattle.std.proofs.lemmas.Result.{err_from_is_err_and}
use Rattle.jwalk_model.specs.PathTexts.{components_left}
use Rattle.jwalk_memory_fs.specs.declared.hit.Hit.{Hit as CodeHit}
use Rattle.jwalk_memory_fs.specs.Hit.{hit_seen, answer_seen}
use Rattle.jwalk_memory_fs.specs.Branch.{go_on, reached, IsSettled}
use Rattle.jwalk_memory_fs.specs.Table.{branches}
use Rattle.jwalk_memory_fs.proofs.WalkLemmas.{whole, whole-end, settled-end, unfollowed-end}
use Rattle.jwalk_memory_fs.proofs.memory_fs.MemoryFs.reach.Goals as goal

pub returns-in_err-hit-clause-value : goal.returns-in_err-hit-clause-value
returns-in_err-hit-clause-value g c =
    let p = err_from_is_err_and c.from_residual.result c.from_residual.ensures.1 in
    ap answer_seen (p.1 ∙ ap (λ e. Err e) p.2)
    ∙ sym (whole (branches c.args.self.now.table) c.args.follow (components_left c.args.components) c.walk.result c.walk.ensures.value
    ∙ ap (go_on (λ (r : CodeHit × ℕ). reached (branches c.args.self.now.table) c.args.follow r.1 (hit_seen r.0) [])) c.in_err-hit.was)

pub returns-in-Dir-clause-value : goal.returns-in-Dir-clause-value
returns-in-Dir-clause-value g c =
    sym (whole-end (branches c.args.self.now.table) c.args.follow (components_left c.args.components) c.walk.result c.in_ok-hit.hit c.in_ok-hit.left c.walk.ensures.value c.in_ok-hit.was
    ∙ settled-end (branches c.args.self.now.table) c.args.follow c.in_ok-hit.left (hit_seen c.in_ok-hit.hit) (subst (λ (h : CodeHit). IsSettled (hit_seen h)) (sym c.in-Dir.is) tt))

pub returns-in-File-clause-value : goal.returns-in-File-clause-value
returns-in-File-clause-value g c =
    sym (whole-end (branches c.args.self.now.table) c.args.follow (components_left c.args.components) c.walk.result c.in_ok-hit.hit c.in_ok-hit.left c.walk.ensures.value c.in_ok-hit.was
    ∙ settled-end (branches c.args.self.now.table) c.args.follow c.in_ok-hit.left (hit_seen c.in_ok-hit.hit) (subst (λ (h : CodeHit). IsSettled (hit_seen h)) (sym c.in-File.is) tt))

pub returns-in_err-followed-in-Link-clause-value : goal.returns-in_err-followed-in-Link-clause-value
returns-in_err-followed-in-Link-clause-value g c =
    let p = err_from_is_err_and c.from_residual-in_err-followed-in-Link.result c.from_residual-in_err-followed-in-Link.ensures.1 in
    ap answer_seen (p.1 ∙ ap (λ e. Err e) p.2)
    ∙ sym (whole-end (branches c.args.self.now.table) c.args.follow (components_left c.args.components) c.walk.result c.in_ok-hit.hit c.in_ok-hit.left c.walk.ensures.value c.in_ok-hit.was
    ∙ ap (λ (h : CodeHit). reached (branches c.args.self.now.table) c.args.follow c.in_ok-hit.left (hit_seen h) []) c.in-Link.is
    ∙ c.followed.ensures.value c.args.follow [] c.if-follow.true
    ∙ ap (go_on (λ (r : CodeHit × ℕ). reached (branches c.args.self.now.table) c.args.follow r.1 (hit_seen r.0) [])) c.in_err-followed-in-Link.was)

pub returns-in_ok-followed-in-Link-clause-value : goal.returns-in_ok-followed-in-Link-clause-value
returns-in_ok-followed-in-Link-clause-value g c =
    let end = c.in_ok-followed-in-Link.field-0 in
    sym (whole-end (branches c.args.self.now.table) c.args.follow (components_left c.args.components) c.walk.result c.in_ok-hit.hit c.in_ok-hit.left c.walk.ensures.value c.in_ok-hit.was
    ∙ ap (λ (h : CodeHit). reached (branches c.args.self.now.table) c.args.follow c.in_ok-hit.left (hit_seen h) []) c.in-Link.is
    ∙ c.followed.ensures.value c.args.follow [] c.if-follow.true
    ∙ ap (go_on (λ (r : CodeHit × ℕ). reached (branches c.args.self.now.table) c.args.follow r.1 (hit_seen r.0) [])) c.in_ok-followed-in-Link.was
    ∙ settled-end (branches c.args.self.now.table) c.args.follow end.1 (hit_seen end.0) c.in_ok-followed-in-Link.ensures.settled)

pub returns-else-follow-clause-value : goal.returns-else-follow-clause-value
returns-else-follow-clause-value g c =
    sym (whole-end (branches c.args.self.now.table) c.args.follow (components_left c.args.components) c.walk.result c.in_ok-hit.hit c.in_ok-hit.left c.walk.ensures.value c.in_ok-hit.was
    ∙ unfollowed-end (branches c.args.self.now.table) c.args.follow c.in_ok-hit.left (hit_seen c.in_ok-hit.hit) c.if-follow.false)
