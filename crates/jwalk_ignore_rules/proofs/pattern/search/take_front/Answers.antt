use Rattle.std.proofs.Common.{drop, ◌≡◌, ◌∙◌, ◌∷◌, List, [], ap, sym, arith, subst}
use Rattle.std.proofs.lemmas.List.{nil_from_length}
use Rattle.jwalk_ignore_rules.specs.declared.pattern.part.Part.{Part}
use Rattle.jwalk_ignore_rules.specs.Pattern.Fits.{Fits}
use Rattle.jwalk_ignore_rules.proofs.FitsFacts.{first_unfit, one_enough, one_later}
use Rattle.jwalk_ignore_rules.proofs.pattern.search.take_front.Goals as goal

pub returns-in_default-part-clause-decides : goal.returns-in_default-part-clause-decides
returns-in_default-part-clause-decides g c =
    let is = c.in-Some.ensures.cases.0 ∙ ap (λ (part : Part _). part ∷ c.in-Some.behind.now) c.in_default-part.is in (
      (λ fits. subst (λ (ps : List (Part _)). Fits g.T.ItemTest.takes ps (g.T.ItemTest.items c.loop-part.left.now)) is (c.loop-part.invariant.later 0 fits)),
      (λ fits. c.loop-part.invariant.enough (subst (λ (ps : List (Part _)). Fits g.T.ItemTest.takes ps (g.T.ItemTest.items c.loop-part.left.now)) (sym is) fits)),
    )

pub returns-in_default-part-clause-later : goal.returns-in_default-part-clause-later
returns-in_default-part-clause-later g c = λ n fits.
    let is = c.in-Some.ensures.cases.0 ∙ ap (λ (part : Part _). part ∷ c.in-Some.behind.now) c.in_default-part.is in
    subst (λ (ps : List (Part _)). Fits g.T.ItemTest.takes ps (drop n (g.T.ItemTest.items c.loop-part.left.now))) is (c.loop-part.invariant.later n fits)

pub returns-in_default-take_first-clause-decides : goal.returns-in_default-take_first-clause-decides
returns-in_default-take_first-clause-decides g c = λ fits.
    let is = c.in-Some.ensures.cases.0 ∙ ap (λ (part : Part _). part ∷ c.in-Some.behind.now) c.in-One.is in
    first_unfit g.T.ItemTest.takes c.loop-part.rest.now c.in-One.test c.in-Some.behind.now is (g.T.ItemTest.items c.loop-part.left.now)
    c.in_default-take_first.ensures (c.loop-part.invariant.later 0 fits)

pub loop-part-preserved : goal.loop-part-preserved
loop-part-preserved g c =
    let is = c.in-Some.ensures.cases.0 ∙ ap (λ (part : Part _). part ∷ c.in-Some.behind.now) c.in-One.is in
    let left = g.T.ItemTest.items c.loop-part.left.now in
    let after = g.T.ItemTest.items c.in-Some-take_first.after.now in
    record {
      enough = λ fits. c.loop-part.invariant.enough (one_enough g.T.ItemTest.takes c.loop-part.rest.now c.in-One.test c.in-Some.behind.now is left after c.in-Some-take_first.ensures fits);
      later = λ n fits. one_later g.T.ItemTest.takes c.loop-part.rest.now c.in-One.test c.in-Some.behind.now is left after c.in-Some-take_first.ensures n (c.loop-part.invariant.later n fits);
      shorter = omega (arith, c.loop-part.invariant.shorter, c.in-Some.ensures.cases.1);
    }

pub returns-in-Some-skip_first-clause-decides : goal.returns-in-Some-skip_first-clause-decides
returns-in-Some-skip_first-clause-decides g c = λ fits.
    let none = nil_from_length c.loop-part.rest.now c.in_default.ensures.cases in
    let all : g.T.ItemTest.items c.loop-part.left.now ≡ [] =
    subst (λ (ps : List (Part _)). Fits g.T.ItemTest.takes ps (g.T.ItemTest.items c.loop-part.left.now)) none (c.loop-part.invariant.later 0 fits) in
    let (item, some) = c.in-Some-skip_first.ensures.items in
    cc
