use Rattle.std.proofs.Common.{arith, refl, Ok, Err}
use Rattle.std.proofs.lemmas.Result.{IfOk-from_err}
use Rattle.std.specs.Prelude.{OnErr, Result}
use Rattle.jwalk_memory_fs.specs.Child.{Dir}
use Rattle.jwalk_memory_fs.specs.Directory.{branch}
use Rattle.jwalk_memory_fs.proofs.EditLemmas.{length-others}
use Rattle.jwalk_memory_fs.proofs.table.Table.add_directory_behind.Goals as goal

-- whatever is returned
on_err_always : {X E : Type 0} (r : Result X E) {P : Type 0} → P → OnErr r P
on_err_always (Ok x) p = tt
on_err_always (Err e) p = p

-- the room was made before
pub unreachable-requires : goal.unreachable-requires
unreachable-requires g c =
    let same = length-others (branch c.add.new.self.root) (branch c.args.self.now.root) c.add.new.self.others.items c.reserve.new.self.items c.args.holder c.args.name.now (Dir c.len-index.result) c.in_ok-add.ensures.ok in
    let full = c.in-Err.ensures.full in
    let room = c.in_ok-add.ensures.room in
    let reserved = c.in_ok-reserve.ensures.ok in
    omega arith

pub returns-in_err-reserve-clause-ok : goal.returns-in_err-reserve-clause-ok
returns-in_err-reserve-clause-ok g c = IfOk-from_err c.from_residual.result _ c.from_residual.ensures.0

pub returns-in_err-reserve-clause-err : goal.returns-in_err-reserve-clause-err
returns-in_err-reserve-clause-err g c = on_err_always c.from_residual.result (rw c.in_err-reserve.ensures.items refl)

pub add-requires-clause-within : goal.add-requires-clause-within
add-requires-clause-within g c = rw c.in_ok-reserve.ensures.items c.requires.within

pub returns-in_err-add-clause-ok : goal.returns-in_err-add-clause-ok
returns-in_err-add-clause-ok g c = IfOk-from_err c.from_residual-in_err-add.result _ c.from_residual-in_err-add.ensures.0

pub returns-in_err-add-clause-err : goal.returns-in_err-add-clause-err
returns-in_err-add-clause-err g c = on_err_always c.from_residual-in_err-add.result (rw c.in_ok-reserve.ensures.items at c.in_err-add.ensures.err)
