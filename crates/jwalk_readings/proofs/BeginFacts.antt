-- What a walk over a board begins with, over its directories.
use Rattle.std.proofs.Common.{◌≡◌, List, [], map, sym, ap, subst}
use Rattle.std.specs.Prelude.{All, Option, None, Result, Ok, Err, OnOk, OnErr}
use Rattle.std.specs.declared.clone.Clone as Clone
use Rattle.std.proofs.lemmas.List.Elements.{All-nil}
use Rattle.jwalk_board.specs.Board.{Board}
use Rattle.tree_walk.specs.BoardWalk as tree
use Rattle.tree_walk.specs.BoardWalk.{left_on}
use Rattle.tree_walk.specs.ReadAhead as trees
use Rattle.jwalk_job.specs.declared.read_dir_spec.ReadDirSpec.{ReadDirSpec}
use Rattle.jwalk_job.specs.ReadDirSpec.{spec}
use Rattle.jwalk_job.specs.declared.job.Job.{Job}
use Rattle.jwalk_readings.specs.Reads.{Read, IsMade}
use Rattle.jwalk_readings.specs.ReadAhead.{nothing_ahead, BeginsWith}
use Rattle.jwalk_readings.specs.BatchReads.{seen_made, to_read_on, early_on, ahead_of}
use Rattle.jwalk_readings.proofs.SeenFacts.{seen_begins}

module _ {C A R E X F : Type 0} where
  -- nothing was read early
  pub begun_early : (r : Result X F) (b : Option (Board (ReadDirSpec C A R E) (Read C A R E))) → OnOk r ((left_on b).made ≡ []) → OnErr r (b ≡ None) → early_on b ≡ []
  begun_early (Ok x) b none stopped = ap (map seen_made) none
  begun_early (Err e) b none stopped = ap early_on stopped

  -- so all of it was made lawfully
  pub begun_made : {S P : Type 0} (clone : Clone.Ghosts R) (job : Job C S P A R E) (r : Result X F) (b : Option (Board (ReadDirSpec C A R E) (Read C A R E))) → OnOk r ((left_on b).made ≡ []) → OnErr r (b ≡ None) → All (IsMade clone job) (early_on b)
  begun_made clone job r b none stopped = subst (All (IsMade clone job)) (sym (begun_early r b none stopped)) (All-nil _)

  pub begun_to_read : (r : Result X F) (roots : List (ReadDirSpec C A R E)) (b : Option (Board (ReadDirSpec C A R E) (Read C A R E))) → OnOk r ((left_on b).to_read ≡ roots) → OnOk r (to_read_on b ≡ map spec roots)
  begun_to_read (Ok x) roots b same = ap (map spec) same
  begun_to_read (Err e) roots b same = tt

  pub begun_ahead : (r : Result X F) (roots : List (ReadDirSpec C A R E)) (b : Option (Board (ReadDirSpec C A R E) (Read C A R E))) → OnOk r (trees.BeginsWith roots (tree.frontier_on b) (tree.ahead_of b)) → OnOk r (BeginsWith (map spec roots) (tree.frontier_on b) (ahead_of b))
  begun_ahead (Ok x) roots b begins = seen_begins spec roots (tree.frontier_on b) (tree.ahead_of b) begins
  begun_ahead (Err e) roots b begins = tt

  -- where memory ran out, nothing is left
  pub none_to_read : (r : Result X F) (b : Option (Board (ReadDirSpec C A R E) (Read C A R E))) → OnErr r (b ≡ None) → OnErr r (to_read_on b ≡ [])
  none_to_read (Ok x) b stopped = tt
  none_to_read (Err e) b stopped = ap to_read_on stopped

  pub none_ahead : (r : Result X F) (b : Option (Board (ReadDirSpec C A R E) (Read C A R E))) → OnErr r (b ≡ None) → OnErr r (ahead_of b ≡ nothing_ahead)
  none_ahead (Ok x) b stopped = tt
  none_ahead (Err e) b stopped = ap ahead_of stopped
