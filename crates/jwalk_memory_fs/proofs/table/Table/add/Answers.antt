use Rattle.std.proofs.lemmas.Result.{on_ok_weaker, on_err_weaker}
use Rattle.jwalk_memory_fs.specs.Child.{child_seen}
use Rattle.jwalk_memory_fs.specs.Branch.{with_child}
use Rattle.jwalk_memory_fs.specs.Directory.{branch}
use Rattle.jwalk_memory_fs.proofs.EditLemmas.{edited-set, same-set}
use Rattle.jwalk_memory_fs.proofs.table.Table.add.Goals as goal

pub returns-else-holder-eq0-clause-ok : goal.returns-else-holder-eq0-clause-ok
returns-else-holder-eq0-clause-ok g c =
    on_ok_weaker _ (edited-set (branch c.args.self.now.root) c.args.self.now.others.items (with_child c.args.name.now (child_seen c.args.child)) c.args.holder c.add-else-holder-eq0.new.self c.index_mut.result.now
    c.if-holder-eq0.false c.requires.within c.index_mut.ensures.value) c.add-else-holder-eq0.ensures.ok

pub returns-else-holder-eq0-clause-err : goal.returns-else-holder-eq0-clause-err
returns-else-holder-eq0-clause-err g c =
    on_err_weaker _ (same-set (branch c.args.self.now.root) c.args.self.now.others.items _ c.add-else-holder-eq0.new.self c.index_mut.result.now c.index_mut.ensures.value) c.add-else-holder-eq0.ensures.err
