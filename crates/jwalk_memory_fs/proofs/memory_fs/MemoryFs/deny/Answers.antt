use Rattle.std.proofs.Common.{◌∙◌, sym, subst}
use Rattle.jwalk_memory_fs.specs.Branch.{IsSound}
use Rattle.jwalk_memory_fs.specs.Table.{branches, free_places}
use Rattle.jwalk_memory_fs.proofs.DenyLemmas.{built-denied, sound-denied, spare-denied, told-refused, told-denied}
use Rattle.jwalk_memory_fs.proofs.memory_fs.MemoryFs.deny.Goals as goal

pub returns-in_default-clause-not_found : goal.returns-in_default-clause-not_found
returns-in_default-clause-not_found g c =
    told-refused (branches c.args.self.now.table) c.args.self.now.sound c.args.kind c.args.path.now (sym c.in_default.is ∙ c.directory.ensures.value)

pub invariant_of-self : goal.invariant_of-self
invariant_of-self g c = record {
  sound = subst IsSound (sym c.deny.ensures.denied) (sound-denied (branches c.args.self.now.table) c.in-Some.index c.args.kind c.in-Some.ensures.within c.args.self.now.sound);
  spare = spare-denied (branches c.args.self.now.table) (free_places c.args.self.now.table) c.args.self.now.sound c.args.self.now.spare c.args.kind c.args.path.now c.in-Some.index (sym c.in-Some.is ∙ c.directory.ensures.value) c.in-Some.ensures.within
      (branches c.deny.new.self) (free_places c.deny.new.self) c.deny.ensures.denied c.deny.ensures.kept;
}

pub returns-clause-denied : goal.returns-clause-denied
returns-clause-denied g c =
    built-denied (branches c.args.self.now.table) c.args.self.now.sound c.args.kind c.args.path.now c.in-Some.index (sym c.in-Some.is ∙ c.directory.ensures.value) c.in-Some.ensures.within
    (branches c.deny.new.self) c.deny.ensures.denied

pub returns-clause-not_found : goal.returns-clause-not_found
returns-clause-not_found g c =
    told-denied (branches c.args.self.now.table) c.args.self.now.sound c.args.kind c.args.path.now c.in-Some.index (sym c.in-Some.is ∙ c.directory.ensures.value)
