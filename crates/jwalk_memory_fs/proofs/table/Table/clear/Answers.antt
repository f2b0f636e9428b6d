use Rattle.std.proofs.Common.{arith}
use Rattle.jwalk_memory_fs.specs.Branch.{empty_branch}
use Rattle.jwalk_memory_fs.specs.Directory.{branch}
use Rattle.jwalk_memory_fs.proofs.EditLemmas.{edited-set}
use Rattle.jwalk_memory_fs.proofs.table.Table.clear.Goals as goal

pub returns-clause-cleared : goal.returns-clause-cleared
returns-clause-cleared g c =
    edited-set (branch c.args.self.now.root) c.args.self.now.others.items (λ b. empty_branch 0) c.args.place c.new.result c.index_mut.result.now
    (λ e. let r = c.requires.below_root in omega arith) c.requires.within c.index_mut.ensures.value c.new.ensures
