use Rattle.std.proofs.Common.{◌≡◌, ◌-◌, ◌^◌, ◌∙◌, refl, arith, subst, sym}
use Rattle.std.specs.Arc.{arc_value}
use Rattle.jwalk.specs.WalkDir.{file_system_of, stateless}
use Rattle.jwalk.specs.jwalk_model.Options.{defaults, with_parallelism}
use Rattle.jwalk.specs.jwalk_readings.Parallelism.{parallelism_value}
use Rattle.jwalk.proofs.WholeFacts.{steady_begun, stateless_of}
use Rattle.jwalk.proofs.CleanFacts.{filled_unless_busy}
use Rattle.jwalk.proofs.AlikeFacts.{stateless_however_read}
use Rattle.std.proofs.Common.{ap}
use Rattle.example_proofs.proofs.three_ways.walk_by.Goals as goal

-- a vector holds fewer than `usize::MAX`, so all that was to come is filled in
pub returns : goal.returns
returns g c = λ fixed none free.
    let walk = c.parallelism-walk.result in
    let begun = c.into_iter.ensures in
    let found = c.fill.new.out in
    let set = c.parallelism-walk.ensures in
    let made = c.with_crew.ensures in
    let by = parallelism_value c.args.parallelism in
    let over : file_system_of walk ≡ c.args.fs = set.file_system ∙ made.file_system in
    let over_fixed = subst (λ fs. g.S.FileSystem.IsFixed (arc_value fs)) (sym over) fixed in
    filled_unless_busy _ _ _ _ _ stateless walk c.into_iter.result found.items begun.begins.0 c.fill.new.self (2 ^ 64 - 1) c.in_ok-fill.field-0 c.new-found.result.items begun.begins.1.holds
    (steady_begun _ _ _ _ _ stateless walk c.into_iter.result begun.steady begun.starts (record { file_system = over_fixed; callback = λ depth path state list. refl; clones = λ x y is. refl; default = λ x is. refl }))
    begun.starts (record { file_system = over_fixed; callback = λ depth path state list. refl; clones = λ x y is. refl; default = λ x is. refl })
    c.in_ok-fill.ensures c.new-found.ensures.items (omega (arith, found.ok.0, found.ok.1, found.small)) none free
    ∙ stateless_of (λ fs. g.S.FileSystem.functions (arc_value fs)) walk c.args.fs (with_parallelism by defaults) _ over (set.options ∙ ap (with_parallelism by) made.options) (set.root ∙ made.root ∙ c.in_ok-root.ensures.ok)
    ∙ stateless_however_read by (g.S.FileSystem.functions (arc_value c.args.fs)) defaults _
