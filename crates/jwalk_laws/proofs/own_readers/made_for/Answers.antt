use Rattle.std.proofs.Common.{◌∙◌, map, sym, ap, refl}
use Rattle.std.specs.Arc.{arc_value}
use Rattle.jwalk.specs.jwalk_job.ReadDirSpec.{spec}
use Rattle.jwalk_laws.proofs.OwnReadersFacts.{if_ok_both, roots_stacked}
use Rattle.jwalk_laws.proofs.own_readers.made_for.Goals as goal

pub returns : goal.returns
returns g c =
    let own = c.args.roots.now in
    let copies = c.in_ok-clone-2.field-0 in
    let cloned = c.in_ok-clone-2.ensures.cases in
    if_ok_both c.new.result _ _ _
    (λ readers job waiting. roots_stacked _ _ _ _ (record { job = arc_value c.args.job.now; roots = map spec own.items }) (arc_value readers.job) readers.waiting.items own.items copies.items (ap arc_value job ∙ c.in_ok-clone.ensures.cases) refl cloned.0 (sym copies.ok.0 ∙ cloned.1 ∙ own.ok.0) waiting)
    c.new.ensures.job c.new.ensures.waiting
