use Rattle.std.proofs.Common.{Some, refl, sym}
use Rattle.jwalk_memory_fs.specs.MemoryFs.{tree_of}
use Rattle.walk_run.proofs.source.source_of.Goals as goal

pub returns-then-tree-clause-over : goal.returns-then-tree-clause-over
returns-then-tree-clause-over g c = record {
  tree = Some (tree_of c.in_ok-read_tree.field-0);
  wanted = sym c.if-tree.true;
  builds = c.in_ok-read_tree.ensures.built;
  over = (c.in_ok-read_tree.field-0, refl, refl);
}
