use Rattle.std.proofs.Common.{◌+◌, ◌≤◌, ℕ, Bool, true, false, length, take, drop, ap, sym, ◌∙◌, arith}
use Rattle.jwalk_ignore_rules.specs.Rules.Line.{trimmed}
use Rattle.jwalk_ignore_rules.proofs.LineFacts.{a_beginning, from_start, at_end, next_end_at, whole_end}
use Rattle.jwalk_ignore_rules.proofs.rules.line.trimmed.Goals as goal
use Rattle.jwalk_ignore_rules.proofs.rules.line.trimmed.Goals.{then-is_kept, else-is_kept}

pub loop-place-init : goal.loop-place-init
loop-place-init c = record {
  within = omega arith;
  same = from_start (length (trimmed false c.args.text.now));
}

pub loop-place-preserved : goal.loop-place-preserved
loop-place-preserved c =
    let now : ℕ → Bool → ℕ = λ end escaped. whole_end end (c.loop-place.place + 1) (length (trimmed escaped (drop (c.loop-place.place + 1) c.args.text.now))) in
    elim c.if-is_kept.branch [
      | then-is_kept w ↦ record {
        within = omega (arith, w.end-is, c.loop-place.invariant.within);
        same = c.loop-place.invariant.same
            ∙ next_end_at c.loop-place.escaped true c.is_escape-escapes.result c.loop-place.end c.loop-place.place c.args.text.now c.loop-place-test.true w.if-is_kept.ensures c.is_escape-escapes.ensures
            ∙ ap (λ (end : ℕ). now end c.is_escape-escapes.result) (sym w.end-is)
            ∙ ap (λ (b : Bool). now c.if-is_kept.end b) (sym w.escaped-is);
      }
      | else-is_kept w ↦ record {
        within = omega (arith, w.end-is, c.loop-place.invariant.within);
        same = c.loop-place.invariant.same
            ∙ next_end_at c.loop-place.escaped false c.is_escape-escapes.result c.loop-place.end c.loop-place.place c.args.text.now c.loop-place-test.true w.if-is_kept.ensures c.is_escape-escapes.ensures
            ∙ ap (λ (end : ℕ). now end c.is_escape-escapes.result) (sym w.end-is)
            ∙ ap (λ (b : Bool). now c.if-is_kept.end b) (sym w.escaped-is);
      }
    ]

pub returns : goal.returns
returns c =
    let seen : length c.args.text.now ≤ c.loop-place.place = omega (arith, c.loop-place-test.false) in
    ap (λ (n : ℕ). take n c.args.text.now) (sym (c.loop-place.invariant.same ∙ at_end c.loop-place.end c.loop-place.place c.loop-place.escaped c.args.text.now seen))
    ∙ sym (a_beginning false c.args.text.now)
