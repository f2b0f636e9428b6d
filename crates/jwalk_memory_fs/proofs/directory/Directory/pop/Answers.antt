use Rattle.jwalk_memory_fs.proofs.DirectoryLemmas.{named-pop, if_some_weaker}
use Rattle.jwalk_memory_fs.proofs.directory.Directory.pop.Goals as goal

pub returns : goal.returns
returns g c = record {
  cases = named-pop c.pop.new.self.entries c.pop.result c.args.self.now.children.entries c.args.self.now.parent c.args.self.now.denied c.pop.ensures.entries c.pop.ensures.found
      (if_some_weaker _ _ c.pop.result (λ p h. h.1) c.pop.ensures.updates);
}
