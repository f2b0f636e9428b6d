use Rattle.std.proofs.Common.{◌≡◌, map, length}
use Rattle.jwalk_model.specs.FileSystem.{Functions}
use Rattle.jwalk_model.specs.Job.{looped_to}
use Rattle.jwalk_job.specs.Text.{text}
use Rattle.jwalk_job.specs.Ancestors.{texts, AreKnown}
use Rattle.jwalk_job.proofs.ancestors.Ancestors.nearest.Given as goal

-- the identities that are left are those of the paths that are left, and the nearest of these is the nearest of all
abbrev pub invariant-loop-last : goal.invariant-loop-last
invariant-loop-last g l = (fs : Functions) → AreKnown fs l.target (texts l.self) l.known
    → AreKnown fs l.target (map text l.left) l.identities × (looped_to fs l.target l.path (map text l.left) ≡ looped_to fs l.target l.path (texts l.self))

abbrev pub decreases-loop-last : goal.decreases-loop-last
decreases-loop-last g l = length l.left
