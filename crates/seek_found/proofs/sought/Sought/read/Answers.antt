use Rattle.std.proofs.Common.{ap, inl, inr, subst}
use Rattle.std.specs.Prelude.{List, ℕ}
use Rattle.program_parts.specs.Values.{texts_of}
use Rattle.seek_found.specs.BadPattern.{AreBadPatterns, IsBadFor}
use Rattle.seek_found.specs.Sought.{ArePatternsOf}
use Rattle.seek_found.proofs.SoughtFacts.{returned}
use Rattle.seek_found.proofs.sought.Sought.read.Goals as goal

pub returns-in_err-first-clause-rejected : goal.returns-in_err-first-clause-rejected
returns-in_err-first-clause-rejected c =
    returned (IsBadFor c.args.asked.now) c.from_residual.result c.in_err-first.field-0.0 c.from_residual.ensures.1 (inl c.in_err-first.ensures.rejected)

pub returns-in_err-others-clause-rejected : goal.returns-in_err-others-clause-rejected
returns-in_err-others-clause-rejected c =
    let bad = c.in_err-others.field-0.0 in
    returned (IsBadFor c.args.asked.now) c.from_residual-in_err-others.result bad c.from_residual-in_err-others.ensures.1
    (inr (inl (subst (λ (ts : List (List ℕ)). AreBadPatterns c.args.asked.now ts bad) (ap texts_of c.as_slice.ensures.value) c.in_err-others.ensures.rejected)))

pub returns-clause-sought : goal.returns-clause-sought
returns-clause-sought c = record {
  first = c.in_ok-first.ensures.pattern;
  others = subst (λ (ts : List (List ℕ)). ArePatternsOf c.args.asked.now ts c.in_ok-others.others.items) (ap texts_of c.as_slice.ensures.value) c.in_ok-others.ensures.patterns;
}
