use Rattle.std.proofs.Common.{ℕ, sym, ap, subst, ◌∙◌, take, drop, Some}
use Rattle.std.specs.Str.{IsUtf8}
use Rattle.jwalk_snapshot.proofs.ReadFacts.{not_its_sum, its_text}
use Rattle.jwalk_snapshot.proofs.snapshot.body_of.Goals as goal

pub returns-then-not-is_whole-clause-only : goal.returns-then-not-is_whole-clause-only
returns-then-not-is_whole-clause-only c = λ text utf8 e.
    let front = c.split_at.ensures.front ∙ ap (λ (n : ℕ). take n c.args.bytes.now) c.saturating_sub.ensures in
    let back = c.split_at.ensures.back ∙ ap (λ (n : ℕ). drop n c.args.bytes.now) c.saturating_sub.ensures in
    absurd (not_its_sum c.args.bytes.now c.split_at.result.0.now c.split_at.result.1.now text front back (sym c.in_ok-is_whole.ensures ∙ c.if-not-is_whole.true) e)

pub returns-in-Ok-clause-only : goal.returns-in-Ok-clause-only
returns-in-Ok-clause-only c = λ text utf8 e.
    let front = c.split_at.ensures.front ∙ ap (λ (n : ℕ). take n c.args.bytes.now) c.saturating_sub.ensures in
    ap Some (sym (c.in-Ok.ensures.cases.0 ∙ its_text c.args.bytes.now c.split_at.result.0.now text front e))

pub returns-in-Err-clause-only : goal.returns-in-Err-clause-only
returns-in-Err-clause-only c = λ text utf8 e.
    let front = c.split_at.ensures.front ∙ ap (λ (n : ℕ). take n c.args.bytes.now) c.saturating_sub.ensures in
    absurd (c.in-Err.ensures.cases.0 (subst IsUtf8 (sym (its_text c.args.bytes.now c.split_at.result.0.now text front e)) utf8))
