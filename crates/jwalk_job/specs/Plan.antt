-- A job as a plan.
use Rattle.std.specs.Prelude.{◌≡◌, ◌-◌, List}
use Rattle.jwalk_model.specs.ReadDir.{Spec, Outcome, children_of}
use Rattle.jwalk_model.specs.Job.{Job, reading}
use Rattle.jwalk_model.specs.Preorder.{preorder}
use Rattle.jwalk_board.specs.Plan.{PlanTree, readings_in_preorder, values}

-- the tree of a job's readings; a directory's height is the greatest depth less its own, or 0
abbrev pub tree_of : {R E : Type 0} → Job R E → PlanTree (Spec R) (Outcome R E)
tree_of job = record {
  reading = reading job;
  children = λ spec. children_of (reading job spec);
  height = λ spec. job.options.max_depth - spec.depth;
}

-- The readings of jobs' trees, without their addresses, are those that a walk goes over, in its order.
abbrev pub TreesAreWalked : Type 0 → Type 0 → Type 0
TreesAreWalked R E = (job : Job R E) (roots : List (Spec R)) →
    values (readings_in_preorder (tree_of job) roots) ≡ preorder (reading job) job.options.max_depth roots
