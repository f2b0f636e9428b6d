use Rattle.std.proofs.Common.{map, take}
use Rattle.jwalk_model.specs.ReadDir.{children, AreClones}
use Rattle.jwalk_job.specs.Entry.{item}
use Rattle.jwalk_job.specs.ReadDirSpec.{spec}
use Rattle.jwalk_job.proofs.read_dir.ReadDir.read_children_specs.Given as goal

-- the specifications so far are clones of those of the items gone over
abbrev pub invariant-loop-found : goal.invariant-loop-found
invariant-loop-found g l =
    AreClones g.C.ReadDirState.Clone.is_clone (children (record { state = l.self.read_dir_state; list = map item (take l.found-index l.self.results_list.items) })) (map spec l.specs.items)
