use Rattle.std.proofs.Common.{refl, ap, ◌∙◌, Err}
use Rattle.std.proofs.lemmas.Result.{err_from_is_err_and}
use Rattle.jwalk_model.specs.Tree.{link, add}
use Rattle.jwalk_memory_fs.specs.Child.{Link}
use Rattle.jwalk_memory_fs.specs.Branch.{with_named}
use Rattle.jwalk_memory_fs.specs.MemoryFs.{tree_of}
use Rattle.jwalk_memory_fs.specs.Table.{branches, free_places}
use Rattle.jwalk_memory_fs.proofs.AddLemmas.{found-spot, refused-spot, refused-memory, was-added, Holds, holds-either, holds-leaf, built-grown}
use Rattle.jwalk_memory_fs.proofs.NewChildLemmas.{grows-leaf}
use Rattle.jwalk_memory_fs.proofs.memory_fs.MemoryFs.add_link.Goals as goal

pub add_link-requires-clause-free : goal.add_link-requires-clause-free
add_link-requires-clause-free g c =
    (found-spot (branches c.args.self.now.table) c.args.self.now.sound (link c.args.target.now) c.args.path.now c.in_ok-spot.spot.holder c.in_ok-spot.spot.name.now c.in_ok-spot.ensures.value).free

pub invariant_of-self : goal.invariant_of-self
invariant_of-self g c =
    let spot = found-spot (branches c.args.self.now.table) c.args.self.now.sound (link c.args.target.now) c.args.path.now c.in_ok-spot.spot.holder c.in_ok-spot.spot.name.now c.in_ok-spot.ensures.value in
    let before : Holds (branches c.args.self.now.table) (free_places c.args.self.now.table) = (c.args.self.now.sound, c.args.self.now.spare) in
    let holds = holds-either c.add_link.result (branches c.args.self.now.table) _ (branches c.add_link.new.self) (free_places c.args.self.now.table) (free_places c.add_link.new.self) c.add_link.ensures.ok c.add_link.ensures.err c.add_link.ensures.kept before
    (holds-leaf (branches c.args.self.now.table) (free_places c.args.self.now.table) before c.in_ok-spot.spot.holder c.in_ok-spot.spot.name.now c.in_ok-spot.ensures.within
    (add (link c.args.target.now) c.args.path.now (tree_of c.args.self.now)) (link c.args.target.now) spot (Link c.args.target.now) (λ other. refl) (λ index e. cc)) in
    record { sound = holds.0; spare = holds.1 }

pub returns-in_err-spot : goal.returns-in_err-spot
returns-in_err-spot g c =
    let p = err_from_is_err_and c.from_residual.result c.from_residual.ensures.1 in
    refused-spot (branches c.args.self.now.table) c.args.self.now.sound (link c.args.target.now) c.args.path.now c.in_err-spot.field-0.0 c.from_residual.result c.in_err-spot.ensures.value (p.1 ∙ ap (λ e. Err e) p.2)

pub returns-in_err-add_link : goal.returns-in_err-add_link
returns-in_err-add_link g c =
    let p = err_from_is_err_and c.from_residual-in_err-add_link.result c.from_residual-in_err-add_link.ensures.1 in
    refused-memory (branches c.args.self.now.table) c.args.self.now.sound (link c.args.target.now) c.args.path.now c.in_ok-spot.spot.holder c.in_ok-spot.spot.name.now c.in_ok-spot.ensures.value
    c.from_residual-in_err-add_link.result (branches c.add_link.new.self) (p.1 ∙ ap (λ e. Err e) p.2) c.in_err-add_link.ensures.err

pub returns : goal.returns
returns g c =
    let spot = found-spot (branches c.args.self.now.table) c.args.self.now.sound (link c.args.target.now) c.args.path.now c.in_ok-spot.spot.holder c.in_ok-spot.spot.name.now c.in_ok-spot.ensures.value in
    was-added (branches c.args.self.now.table) c.args.self.now.sound (link c.args.target.now) c.args.path.now c.in_ok-spot.spot.holder c.in_ok-spot.spot.name.now c.in_ok-spot.ensures.value (branches c.add_link.new.self)
    (built-grown (branches c.args.self.now.table) c.args.self.now.sound c.in_ok-spot.spot.holder c.in_ok-spot.spot.name.now (add (link c.args.target.now) c.args.path.now (tree_of c.args.self.now)) (link c.args.target.now) spot (Link c.args.target.now)
    (branches c.add_link.new.self) (with_named (branches c.args.self.now.table) c.in_ok-spot.spot.holder c.in_ok-spot.spot.name.now (Link c.args.target.now)) c.in_ok-add_link.ensures.ok
    (grows-leaf (branches c.args.self.now.table) c.in_ok-spot.spot.holder c.in_ok-spot.spot.name.now c.in_ok-spot.ensures.within spot.free (Link c.args.target.now) (λ other. refl)) refl)
