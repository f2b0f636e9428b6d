use Rattle.std.proofs.Common.{◌≡◌, ◌+◌, ◌<◌, ◌++◌, ◌∷◌, [], ◌∙◌, ap, sym, map, take, length, get_or, arith, subst}
use Rattle.std.proofs.lemmas.List.{map-append, take_more, take_all}
use Rattle.jwalk_model.specs.ReadDir.{children, AreClones}
use Rattle.jwalk_job.specs.Entry.{item}
use Rattle.jwalk_job.specs.ReadDirSpec.{spec}
use Rattle.jwalk_job.proofs.ListFacts.{children_more}
use Rattle.jwalk_job.proofs.read_dir.ReadDir.read_children_specs.Goals as goal

pub loop-found-init : goal.loop-found-init
loop-found-init g c = rw c.new-specs.ensures.items tt

pub loop-found-preserved : goal.loop-found-preserved
loop-found-preserved g c =
    let state = c.args.self.now.read_dir_state in
    let xs = c.args.self.now.results_list.items in
    let i = c.loop-found.found-index in
    let x = c.found-item.result in
    let lt : i < length xs = omega arith in
    let at : x ≡ get_or xs i x = cc in
    let gone : map item (take (i + 1) xs) ≡ map item (take i xs) ++ item x ∷ [] = ap (map item) (take_more xs i x lt ∙ ap (λ y. take i xs ++ y ∷ []) (sym at)) ∙ map-append item (take i xs) (x ∷ []) in
    let before = children (record { state = state; list = map item (take i xs) }) in
    subst (λ l. AreClones g.C.ReadDirState.Clone.is_clone l (map spec c.push_spec.new.specs.items))
    (sym (ap (λ l. children (record { state = state; list = l })) gone ∙ children_more state (map item (take i xs)) (item x)))
    (c.in_ok-push_spec.ensures before c.loop-found.invariant)

pub returns : goal.returns
returns g c =
    let state = c.args.self.now.read_dir_state in
    let xs = c.args.self.now.results_list.items in
    let all : take c.loop-found.found-index xs ≡ xs = take_all c.loop-found.found-index xs (omega arith) in
    subst (λ l. AreClones g.C.ReadDirState.Clone.is_clone (children (record { state = state; list = map item l })) (map spec c.loop-found.specs.items)) all c.loop-found.invariant
