use Rattle.std.proofs.Common.{sym, ap, ◌∙◌, Err}
use Rattle.std.proofs.lemmas.Result.{err_from_is_err_and}
use Rattle.jwalk_memory_fs.specs.Table.{branches, free_places}
use Rattle.jwalk_memory_fs.proofs.RemoveLemmas.{told-missing, told-taken, built-removed, holder-kept, sound-left, spare-left}
use Rattle.jwalk_memory_fs.proofs.memory_fs.MemoryFs.remove.Goals as goal

pub returns-in_default-clause-not_found : goal.returns-in_default-clause-not_found
returns-in_default-clause-not_found g c = told-missing (branches c.args.self.now.table) c.args.self.now.sound c.args.path.now c.in_default.ensures.value

pub remove-requires-clause-kept : goal.remove-requires-clause-kept
remove-requires-clause-kept g c =
    holder-kept (branches c.args.self.now.table) c.args.self.now.sound c.args.path.now (free_places c.args.self.now.table) _ c.args.self.now.spare c.in-Some.spot.holder c.in-Some.spot.name.now c.in-Some.ensures.value

pub invariant_of-self : goal.invariant_of-self
invariant_of-self g c = record {
  sound = sound-left c.remove.result (branches c.args.self.now.table) c.in-Some.spot.holder c.in-Some.spot.name.now (branches c.remove.new.self) (free_places c.remove.new.self) c.args.self.now.sound c.remove.ensures.ok c.remove.ensures.err;
  spare = spare-left c.remove.result (branches c.args.self.now.table) (free_places c.args.self.now.table) c.in-Some.spot.holder c.in-Some.spot.name.now (branches c.remove.new.self) (free_places c.remove.new.self) c.args.self.now.spare
      c.remove.ensures.ok c.remove.ensures.err c.remove.ensures.err_kept;
}

pub returns-in_err-remove-clause-not_found : goal.returns-in_err-remove-clause-not_found
returns-in_err-remove-clause-not_found g c =
    let p = err_from_is_err_and c.from_residual.result c.from_residual.ensures.1 in
    told-taken (branches c.args.self.now.table) c.args.self.now.sound c.args.path.now c.in-Some.spot.holder c.in-Some.spot.name.now c.in-Some.ensures.value c.from_residual.result
    (λ h. let is = p.1 ∙ ap (λ e. Err e) p.2 in let z = sym h ∙ is in cc)

pub returns-clause-removed : goal.returns-clause-removed
returns-clause-removed g c =
    built-removed (branches c.args.self.now.table) c.args.self.now.sound c.args.path.now c.in-Some.spot.holder c.in-Some.spot.name.now c.in-Some.ensures.value c.in-Some.ensures.within
    (branches c.remove.new.self) (free_places c.remove.new.self) c.in_ok-remove.ensures.ok

pub returns-clause-not_found : goal.returns-clause-not_found
returns-clause-not_found g c =
    told-taken (branches c.args.self.now.table) c.args.self.now.sound c.args.path.now c.in-Some.spot.holder c.in-Some.spot.name.now c.in-Some.ensures.value _ (λ h. cc)
