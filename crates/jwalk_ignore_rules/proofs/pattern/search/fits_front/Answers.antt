use Rattle.std.proofs.Common.{◌≡◌, true, false, refl, subst}
use Rattle.jwalk_ignore_rules.specs.Pattern.Fits.{Fits}
use Rattle.jwalk_ignore_rules.specs.Pattern.Taken.{Decides}
use Rattle.jwalk_ignore_rules.specs.declared.pattern.taken.Taken.{Taken}
use Rattle.jwalk_ignore_rules.proofs.FitsFacts.{decides_same, misfits}
use Rattle.jwalk_ignore_rules.proofs.pattern.search.fits_front.Goals as goal

pub loop-taken-init : goal.loop-taken-init
loop-taken-init g c = c.take_front-taken.ensures.decides

pub loop-taken-preserved : goal.loop-taken-preserved
loop-taken-preserved g c =
    let all = Fits g.T.ItemTest.takes c.args.parts.now (g.T.ItemTest.items c.args.text.now) in
    let same = subst (λ (taken : Taken _). Decides g.T.ItemTest.takes g.T.ItemTest.items taken all) c.in-ToStar.is c.loop-taken.invariant in
    decides_same g.T.ItemTest.takes g.T.ItemTest.items c.take_behind_star-taken.result all _ same c.take_behind_star-taken.ensures.decides

pub returns-in-Whole : goal.returns-in-Whole
returns-in-Whole g c =
    let all = Fits g.T.ItemTest.takes c.args.parts.now (g.T.ItemTest.items c.args.text.now) in
    let fits = subst (λ (taken : Taken _). Decides g.T.ItemTest.takes g.T.ItemTest.items taken all) c.in-Whole.is c.loop-taken.invariant in
    ((λ _. fits), (λ _. refl))

pub returns-in_default-matches : goal.returns-in_default-matches
returns-in_default-matches g c =
    let all = Fits g.T.ItemTest.takes c.args.parts.now (g.T.ItemTest.items c.args.text.now) in
    let unfit = misfits g.T.ItemTest.takes g.T.ItemTest.items c.loop-taken.taken c.in_default-matches.not-Whole c.in_default.not-ToStar all c.loop-taken.invariant in
    ((λ yes. let clash : false ≡ true = yes in cc), (λ fits. absurd (unfit fits)))
