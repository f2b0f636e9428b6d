use Rattle.std.proofs.Common.{map}
use Rattle.jwalk_memory_fs.specs.MemoryFs.{tree_of}
use Rattle.walk_text.specs.Built.{AddsAll}
use Rattle.walk_text.proofs.BuiltFacts.{text_of}
use Rattle.walk_text.proofs.tree.build_tree.Given as goal

abbrev pub invariant-loop-number : goal.invariant-loop-number
invariant-loop-number g l = AddsAll (map text_of l.yielded) (tree_of l.initial.fs) (tree_of l.fs)
