use Rattle.std.proofs.Common.{◌∙◌, ◌++◌, [], ◌∷◌, ap}
use Rattle.jwalk_ignore_rules.specs.declared.pattern.part.Part.{Part}
use Rattle.jwalk_ignore_rules.proofs.FitsFacts.{last_unfit, without_last}
use Rattle.jwalk_ignore_rules.proofs.pattern.search.take_back.Goals as goal

pub returns-in_default-take_last : goal.returns-in_default-take_last
returns-in_default-take_last g c = λ fits.
    let is = c.in-Some.ensures.cases.0 ∙ ap (λ (part : Part _). c.in-Some.front.now ++ part ∷ []) c.in-One.is in
    last_unfit g.T.ItemTest.takes c.loop-part.rest.now c.in-Some.front.now c.in-One.test is (g.T.ItemTest.items c.loop-part.left.now)
    c.in_default-take_last.ensures (c.loop-part.invariant.0 fits)

pub loop-part-preserved : goal.loop-part-preserved
loop-part-preserved g c =
    let is = c.in-Some.ensures.cases.0 ∙ ap (λ (part : Part _). c.in-Some.front.now ++ part ∷ []) c.in-One.is in
    let next = without_last g.T.ItemTest.takes c.loop-part.rest.now c.in-Some.front.now c.in-One.test is (g.T.ItemTest.items c.loop-part.left.now)
    (g.T.ItemTest.items c.in-Some-take_last.before.now) c.in-Some-take_last.ensures in
    ((λ fits. next.0 (c.loop-part.invariant.0 fits)), (λ fits. c.loop-part.invariant.1 (next.1 fits)))
