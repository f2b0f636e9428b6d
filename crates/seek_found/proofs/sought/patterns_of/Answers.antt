use Rattle.std.proofs.Common.{◌≡◌, ◌∙◌, ◌+◌, List, [], ◌∷◌, ◌++◌, ap, arith, length, subst, sym, take}
use Rattle.std.proofs.Math.Seq.{take-length}
use Rattle.program_parts.specs.Values.{texts_of}
use Rattle.seek_found.specs.BadPattern.{AreBadPatterns}
use Rattle.seek_found.specs.Sought.{ArePatternsOf}
use Rattle.seek_found.specs.declared.name_pattern.NamePattern.{NamePattern}
use Rattle.seek_found.proofs.SoughtFacts.{bad_at, next_pattern, returned}
use Rattle.seek_found.proofs.sought.patterns_of.Goals as goal

pub loop-text-preserved : goal.loop-text-preserved
loop-text-preserved c =
    let next = next_pattern c.args.asked.now c.args.texts.now c.loop-text.text-index _ c.loop-text.patterns.items _ c.loop-text-test.true c.loop-text.invariant c.in_ok-pattern.ensures.pattern in
    subst (λ (ps : List NamePattern). ArePatternsOf c.args.asked.now (texts_of (take (c.loop-text.text-index + 1) c.args.texts.now)) ps) (sym (c.push_reserved.ensures.items ∙ ap (λ (ps : List NamePattern). ps ++ c.in_ok-pattern.pattern ∷ []) c.reserve.ensures.items)) next

pub returns-in_err-pattern-clause-rejected : goal.returns-in_err-pattern-clause-rejected
returns-in_err-pattern-clause-rejected c =
    let bad = c.in_err-pattern.field-0.0 in
    returned (AreBadPatterns c.args.asked.now (texts_of c.args.texts.now)) c.from_residual.result bad c.from_residual.ensures.1
    (bad_at c.args.asked.now c.args.texts.now c.loop-text.text-index _ bad c.loop-text-test.true c.in_err-pattern.ensures.rejected)

pub returns-clause-patterns : goal.returns-clause-patterns
returns-clause-patterns c =
    let all : c.loop-text.text-index ≡ length c.args.texts.now = omega (arith, c.loop-text-test.false, c.loop-text.auto.text-index-end) in
    subst (λ (ts : _). ArePatternsOf c.args.asked.now (texts_of ts) c.loop-text.patterns.items) (ap (λ n. take n c.args.texts.now) all ∙ take-length c.args.texts.now) c.loop-text.invariant
