use Rattle.jwalk_memory_fs.specs.Branch.{without_name}
use Rattle.jwalk_memory_fs.specs.Directory.{branch}
use Rattle.jwalk_memory_fs.proofs.EditLemmas.{edited-set}
use Rattle.jwalk_memory_fs.proofs.table.Table.take.Goals as goal

pub returns-else-holder-eq0-clause-others : goal.returns-else-holder-eq0-clause-others
returns-else-holder-eq0-clause-others g c =
    edited-set (branch c.args.self.now.root) c.args.self.now.others.items (without_name c.args.name.now) c.args.holder c.remove-else-holder-eq0.new.self c.index_mut.result.now
    c.if-holder-eq0.false c.requires c.index_mut.ensures.value c.remove-else-holder-eq0.ensures.others
