use Rattle.std.proofs.Common.{sym, ap, subst, ◌∙◌}
use Rattle.std.specs.Option.{option_map}
use Rattle.jwalk_memory_fs.specs.Child.{child_seen}
use Rattle.jwalk_memory_fs.specs.Hit.{hit_seen}
use Rattle.jwalk_memory_fs.specs.Branch.{Branch, child_named, IsWithin}
use Rattle.jwalk_memory_fs.specs.Table.{branches}
use Rattle.jwalk_memory_fs.proofs.TableLemmas.{within_hit}
use Rattle.jwalk_memory_fs.proofs.memory_fs.MemoryFs.step.Goals as goal

pub returns-in-Some-clause-within : goal.returns-in-Some-clause-within
returns-in-Some-clause-within g c =
    subst (IsWithin (branches c.args.self.now.table)) (sym c.hit.ensures)
    (within_hit (branches c.args.self.now.table) c.args.self.now.sound c.in-Dir.index
    (subst (λ h. IsWithin (branches c.args.self.now.table) (hit_seen h)) c.in-Dir.is c.requires)
    c.in-Normal.name.now (child_seen c.in-Some.child.now)
    (ap (λ (b : Branch). child_named b.children c.in-Normal.name.now) (sym c.directory-in-Normal.ensures) ∙ sym c.child.ensures ∙ ap (option_map (λ x. child_seen x.now)) c.in-Some.is))
