use Rattle.std.proofs.Common.{◌∙◌, inl, inr, is_some, ap, arith}
use Rattle.jwalk.specs.tree_crew.Crew.{limit_of}
use Rattle.jwalk_laws.proofs.bound.ahead_over_crew.Goals as goal

-- the crew's limit is kept, and is what was set
pub returns : goal.returns
returns g c =
    let set = c.parallelism.ensures in
    let begun = c.in_ok-answers.ensures in
    let most = rw set.crew at begun.most in
    let limit = ap limit_of c.in-Ok.ensures.ok ∙ c.with_read_ahead.ensures.read_ahead in
    elim (begun.begins.reads (ap (λ o. o.parallelism) set.options) (ap is_some set.crew)) [
      | inl refused ↦ absurd cc
      | inr by ↦ omega (arith, c.ahead.ensures.crew by, most, limit)
    ]
