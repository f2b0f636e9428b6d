use Rattle.jwalk_memory_fs.specs.Branch.{with_denied}
use Rattle.jwalk_memory_fs.specs.Directory.{branch}
use Rattle.jwalk_memory_fs.proofs.EditLemmas.{edited-set}
use Rattle.jwalk_memory_fs.proofs.table.Table.deny.Goals as goal

pub returns-else-index-eq0-clause-denied : goal.returns-else-index-eq0-clause-denied
returns-else-index-eq0-clause-denied g c =
    edited-set (branch c.args.self.now.root) c.args.self.now.others.items (with_denied c.args.kind) c.args.index c.deny-else-index-eq0.new.self c.index_mut.result.now
    c.if-index-eq0.false c.requires c.index_mut.ensures.value c.deny-else-index-eq0.ensures
