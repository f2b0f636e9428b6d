use Rattle.std.proofs.Common.{◌∙◌, refl, sym, ap, ap₂, subst}
use Rattle.std.proofs.lemmas.Result.{IfOk-weaker}
use Rattle.jwalk.specs.jwalk_model.Walk.{stateless_walk}
use Rattle.jwalk.specs.WalkDir.{options_of, root_of, stateless}
use Rattle.jwalk_usage.specs.Totals.{totals}
use Rattle.jwalk_usage.proofs.WholeTotals.{whole_counted}
use Rattle.example_proofs.proofs.totals.totals_of_walk.Goals as goal

pub returns : goal.returns
returns g c =
    let walk = c.new-walk.result in
    let made = c.new-walk.ensures in
    let begun = c.into_iter.ensures in
    let functions = g.S.FileSystem.functions in
    IfOk-weaker c.usage.result _ _
    (λ u counted fixed.
    whole_counted _ _ _ _ _ stateless c.args.fs u walk c.into_iter.result begun.own begun.starts begun.holds
    (record { file_system = subst (λ fs. g.S.FileSystem.IsFixed fs.now) (sym made.file_system) fixed; callback = λ depth path state list. refl; clones = λ x y is. refl; default = λ x is. refl })
    fixed counted
    ∙ ap (λ fs. totals (functions c.args.fs.now) (stateless_walk (functions fs.now) (options_of walk) (root_of walk))) made.file_system
    ∙ ap (totals (functions c.args.fs.now)) (ap₂ (stateless_walk (functions c.args.fs.now)) made.options made.root))
    c.usage.ensures.totals
