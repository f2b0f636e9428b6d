use Rattle.std.proofs.Common.{ap, ◌∙◌, Err, [], None}
use Rattle.std.proofs.lemmas.Result.{err_from_is_err_and}
use Rattle.jwalk_model.specs.Tree.{directory, add}
use Rattle.jwalk_memory_fs.specs.MemoryFs.{tree_of}
use Rattle.jwalk_memory_fs.specs.Table.{branches, free_places}
use Rattle.jwalk_memory_fs.proofs.AddLemmas.{found-spot, refused-spot, refused-memory, was-added, directory-either, directory-added}
use Rattle.jwalk_memory_fs.proofs.memory_fs.MemoryFs.add_dir.Goals as goal

pub add_directory-requires-clause-free : goal.add_directory-requires-clause-free
add_directory-requires-clause-free g c =
    (found-spot (branches c.args.self.now.table) c.args.self.now.sound (directory [] None) c.args.path.now c.in_ok-spot.spot.holder c.in_ok-spot.spot.name.now c.in_ok-spot.ensures.value).free

pub add_directory-requires-clause-spare : goal.add_directory-requires-clause-spare
add_directory-requires-clause-spare g c = c.args.self.now.spare

pub invariant_of-self : goal.invariant_of-self
invariant_of-self g c =
    let spot = found-spot (branches c.args.self.now.table) c.args.self.now.sound (directory [] None) c.args.path.now c.in_ok-spot.spot.holder c.in_ok-spot.spot.name.now c.in_ok-spot.ensures.value in
    let holds = directory-either c.add_directory.result (branches c.args.self.now.table) (free_places c.args.self.now.table) (c.args.self.now.sound, c.args.self.now.spare)
    c.in_ok-spot.spot.holder c.in_ok-spot.spot.name.now c.in_ok-spot.ensures.within (add (directory [] None) c.args.path.now (tree_of c.args.self.now)) spot
    (branches c.add_directory.new.self) (free_places c.add_directory.new.self) c.add_directory.ensures.ok c.add_directory.ensures.err c.add_directory.ensures.err_kept in
    record { sound = holds.0; spare = holds.1 }

pub returns-in_err-spot : goal.returns-in_err-spot
returns-in_err-spot g c =
    let p = err_from_is_err_and c.from_residual.result c.from_residual.ensures.1 in
    refused-spot (branches c.args.self.now.table) c.args.self.now.sound (directory [] None) c.args.path.now c.in_err-spot.field-0.0 c.from_residual.result c.in_err-spot.ensures.value (p.1 ∙ ap (λ e. Err e) p.2)

pub returns-in_err-add_directory : goal.returns-in_err-add_directory
returns-in_err-add_directory g c =
    let p = err_from_is_err_and c.from_residual-in_err-add_directory.result c.from_residual-in_err-add_directory.ensures.1 in
    refused-memory (branches c.args.self.now.table) c.args.self.now.sound (directory [] None) c.args.path.now c.in_ok-spot.spot.holder c.in_ok-spot.spot.name.now c.in_ok-spot.ensures.value
    c.from_residual-in_err-add_directory.result (branches c.add_directory.new.self) (p.1 ∙ ap (λ e. Err e) p.2) c.in_err-add_directory.ensures.err

pub returns : goal.returns
returns g c =
    let spot = found-spot (branches c.args.self.now.table) c.args.self.now.sound (directory [] None) c.args.path.now c.in_ok-spot.spot.holder c.in_ok-spot.spot.name.now c.in_ok-spot.ensures.value in
    was-added (branches c.args.self.now.table) c.args.self.now.sound (directory [] None) c.args.path.now c.in_ok-spot.spot.holder c.in_ok-spot.spot.name.now c.in_ok-spot.ensures.value (branches c.add_directory.new.self)
    (directory-added (branches c.args.self.now.table) (free_places c.args.self.now.table) (c.args.self.now.sound, c.args.self.now.spare)
    c.in_ok-spot.spot.holder c.in_ok-spot.spot.name.now c.in_ok-spot.ensures.within (add (directory [] None) c.args.path.now (tree_of c.args.self.now)) spot
    (branches c.add_directory.new.self) (free_places c.add_directory.new.self) c.in_ok-add_directory.ensures.ok).1
