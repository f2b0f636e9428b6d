use Rattle.std.proofs.Common.{not, Some, ap, ap₂, ◌∙◌, sym, arith}
use Rattle.std.specs.Prelude.{nat_eq, nat_lt}
use Rattle.std.specs.Option.{option_eq}
use Rattle.jwalk_model.specs.Paths.{slash}
use Rattle.jwalk_changes.specs.AtPath.{whole, is_below}
use Rattle.jwalk_changes.proofs.TextFacts.{names_whole, names_below_root, below_differs, below_on, below_ends}
use Rattle.jwalk_changes.proofs.at_path.is_below.Goals as goal

pub returns-then-ne : goal.returns-then-ne
returns-then-ne g c =
    let p = c.path_parts-place.result in
    let q = c.path_parts-found.result in
    below_differs c.loop-at.at (whole p.0.now p.1.now) (whole q.0.now q.1.now) c.loop-at.invariant (omega arith)
    (sym (c.ne.ensures ∙ ap₂ (λ x y. not (option_eq nat_eq x y)) c.byte_at.ensures c.byte_at-in-loop-at.ensures) ∙ c.if-ne.true)
    ∙ ap₂ is_below (names_whole p.0.now p.1.now ∙ c.path_parts-place.ensures) (names_whole q.0.now q.1.now ∙ c.path_parts-found.ensures)

pub loop-at-preserved : goal.loop-at-preserved
loop-at-preserved g c =
    let p = c.path_parts-place.result in
    let q = c.path_parts-found.result in
    below_on c.loop-at.at (whole p.0.now p.1.now) (whole q.0.now q.1.now) c.loop-at.invariant (omega arith)
    (sym (c.ne.ensures ∙ ap₂ (λ x y. not (option_eq nat_eq x y)) c.byte_at.ensures c.byte_at-in-loop-at.ensures) ∙ c.if-ne.false)

pub returns : goal.returns
returns g c =
    let p = c.path_parts-place.result in
    let q = c.path_parts-found.result in
    c.eq.ensures
    ∙ ap (λ x. option_eq nat_eq x (Some slash)) c.byte_at-2.ensures
    ∙ below_ends c.loop-at.at (whole p.0.now p.1.now) (whole q.0.now q.1.now) c.loop-at.invariant c.whole_len-len.result (omega arith) (omega arith) (omega arith)
    ∙ ap₂ is_below (names_whole p.0.now p.1.now ∙ c.path_parts-place.ensures) (names_whole q.0.now q.1.now ∙ c.path_parts-found.ensures)

pub returns-then-len-eq0 : goal.returns-then-len-eq0
returns-then-len-eq0 g c =
    let p = c.path_parts-place.result in
    let q = c.path_parts-found.result in
    ap (nat_lt 0) c.whole_len.ensures
    ∙ sym (names_below_root (whole p.0.now p.1.now) (whole q.0.now q.1.now) (omega arith))
    ∙ ap₂ is_below (names_whole p.0.now p.1.now ∙ c.path_parts-place.ensures) (names_whole q.0.now q.1.now ∙ c.path_parts-found.ensures)
