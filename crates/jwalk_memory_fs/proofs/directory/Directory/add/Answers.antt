use Rattle.jwalk_memory_fs.proofs.DirectoryLemmas.{named-insert}
use Rattle.jwalk_memory_fs.proofs.directory.Directory.add.Goals as goal

pub returns-clause-ok : goal.returns-clause-ok
returns-clause-ok g c =
    named-insert c.args.self.now.children c.insert.new.self c.in_ok-text.text c.args.name.now c.args.child c.args.self.now.parent c.args.self.now.denied
    c.in_ok-text.ensures.ok c.requires c.in_ok-insert.ensures.entries
