use Rattle.std.proofs.Common.{sym, ap, subst, ◌∙◌}
use Rattle.jwalk_memory_fs.specs.Branch.{IsSound, tree_of_table}
use Rattle.jwalk_memory_fs.specs.Table.{branches}
use Rattle.jwalk_memory_fs.proofs.TableLemmas.{sound-root, tree-root}
use Rattle.jwalk_memory_fs.proofs.SpareLemmas.{spare-none}
use Rattle.jwalk_memory_fs.proofs.memory_fs.MemoryFs.new.Goals as goal

pub invariant_of-result : goal.invariant_of-result
invariant_of-result g c = record { sound = subst IsSound (sym c.new.ensures.root) sound-root; spare = spare-none (branches c.new.result) _ c.new.ensures.free }

pub returns : goal.returns
returns g c = λ p. ap (λ t. tree_of_table t p) c.new.ensures.root ∙ tree-root p
