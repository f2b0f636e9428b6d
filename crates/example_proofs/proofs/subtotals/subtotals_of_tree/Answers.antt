use Rattle.std.proofs.Common.{◌∙◌, true, ap, ap₂, refl}
use Rattle.std.proofs.lemmas.Result.{IfOk-weaker}
use Rattle.jwalk.specs.WalkDir.{stateless}
use Rattle.jwalk.specs.jwalk_model.Options.{defaults, with_keep_metadata, with_parallelism}
use Rattle.jwalk.specs.jwalk_model.Tree.{functions_of}
use Rattle.jwalk.specs.jwalk_memory_fs.MemoryFs.{tree_of}
use Rattle.jwalk.specs.jwalk_readings.Parallelism.{parallelism_value}
use Rattle.jwalk.proofs.AlikeFacts.{stateless_however_read}
use Rattle.jwalk.proofs.WholeFacts.{stateless_of}
use Rattle.jwalk_subtotals.specs.Subtotals.{subtotals}
use Rattle.example_proofs.proofs.SubtotalFacts.{subtotals_whole}
use Rattle.example_proofs.proofs.subtotals.subtotals_of_tree.Goals as goal

pub returns : goal.returns
returns g c =
    let walk = c.parallelism-walk.result in
    let begun = c.into_iter.ensures in
    let made = c.subtotals-subtotals.ensures in
    let by = parallelism_value c.args.parallelism in
    let kept = with_keep_metadata true defaults in
    let set = c.parallelism-walk.ensures in
    let keeps = c.keep_metadata.ensures in
    let new = c.with_crew.ensures in
    IfOk-weaker c.take_all.result _ _
    (λ all calls clean.
    subtotals_whole _ _ _ _ _ stateless walk c.into_iter.result c.subtotals-subtotals.result c.take_all.new.subtotals all.items begun.begins.0 begun.starts begun.begins.1.holds begun.steady
    (record { file_system = tt; callback = λ depth path state list. refl; clones = λ x y is. refl; default = λ x is. refl })
    made.fresh made.answers calls clean
    ∙ ap₂ subtotals made.options
    (stateless_of (λ fs. functions_of (tree_of fs)) walk c.args.fs (with_parallelism by kept) _ (set.file_system ∙ keeps.file_system ∙ new.file_system)
    (set.options ∙ ap (with_parallelism by) (keeps.options ∙ ap (with_keep_metadata true) new.options)) (set.root ∙ keeps.root ∙ new.root)
    ∙ stateless_however_read by (functions_of (tree_of c.args.fs)) kept _))
    c.take_all.ensures
