use Rattle.jwalk.specs.DirEntryIter.{weight_of}
use Rattle.examples.proofs.batch_walk.run.Given as goal

abbrev pub decreases-loop-answer : goal.decreases-loop-answer
decreases-loop-answer g l = weight_of l.walk
