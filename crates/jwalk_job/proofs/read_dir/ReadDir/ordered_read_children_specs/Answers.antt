use Rattle.std.proofs.Common.{sym, ap, ◌∙◌, map, subst}
use Rattle.std.proofs.lemmas.Result.{IfOk-weaker}
use Rattle.std.proofs.lemmas.Simd.{map-map}
use Rattle.jwalk_model.specs.ReadDir.{children, AreClones}
use Rattle.jwalk_job.specs.ReadDirSpec.{spec}
use Rattle.jwalk_job.specs.ReadDir.{reading}
use Rattle.jwalk_job.proofs.read_dir.ReadDir.ordered_read_children_specs.Goals as goal

pub returns-clause-specs : goal.returns-clause-specs
returns-clause-specs g c =
    IfOk-weaker c.addressed.result _ _
    (λ v same. subst (AreClones g.C.ReadDirState.Clone.is_clone (children (reading c.args.self.now))) (sym (sym (map-map spec (λ x. x.value) v.items) ∙ ap (map spec) same)) c.in_ok-read_children_specs.ensures)
    c.addressed.ensures.same
