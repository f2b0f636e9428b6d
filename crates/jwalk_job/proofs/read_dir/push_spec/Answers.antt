use Rattle.std.proofs.Common.{◌≡◌, ◌++◌, ◌∷◌, [], ◌∙◌, ap, sym, map, subst}
use Rattle.std.proofs.lemmas.List.{map-append}
use Rattle.std.specs.Prelude.{option_to_list}
use Rattle.jwalk_model.specs.ReadDir.{spec_of, AreClones}
use Rattle.jwalk_job.specs.Entry.{item}
use Rattle.jwalk_job.specs.ReadDirSpec.{spec}
use Rattle.jwalk_job.proofs.ListFacts.{AreClones-append}
use Rattle.jwalk_job.proofs.read_dir.push_spec.Goals as goal

pub returns-in_ok-push-in-Some : goal.returns-in_ok-push-in-Some
returns-in_ok-push-in-Some g c = λ asked before.
    let old = c.args.specs.now.items in
    let one = rw c.in-Some.is at c.in_ok-spec.ensures in
    let same : map spec c.push.new.self.items ≡ map spec old ++ spec c.in-Some.spec ∷ [] = ap (map spec) c.in_ok-push-in-Some.ensures.items ∙ map-append spec old (c.in-Some.spec ∷ []) in
    subst (AreClones g.C.ReadDirState.Clone.is_clone (asked ++ option_to_list (spec_of c.args.state.now (item c.args.found.now)))) (sym same)
    (AreClones-append g.C.ReadDirState.Clone.is_clone asked (map spec old) (option_to_list (spec_of c.args.state.now (item c.args.found.now))) (spec c.in-Some.spec ∷ []) before one)
