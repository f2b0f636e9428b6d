-- Readings of directories in preorder, made in batches, as a value.
use Rattle.std.specs.Prelude.{◌≡◌, ◌≢◌, ℕ, Option, None, Some, List, [], length, map}
use Rattle.std.specs.declared.clone.Clone as Clone
use Rattle.std.specs.declared.default.Default as Default
use Rattle.jwalk_model.specs.ReadDir.{Spec, Outcome, children_of}
use Rattle.jwalk_fs.specs.declared.file_system.FileSystem as FileSystem
use Rattle.jwalk_order.specs.Frontier.{passed, next_address}
use Rattle.jwalk_board.specs.Board.{Board}
use Rattle.tree_walk.specs.BoardWalk as tree
use Rattle.jwalk_job.specs.declared.process_read_dir.ProcessReadDir as ProcessReadDir
use Rattle.jwalk_job.specs.declared.read_dir_spec.ReadDirSpec.{ReadDirSpec}
use Rattle.jwalk_job.specs.ReadDirSpec.{spec}
use Rattle.jwalk_job.specs.Given.{Given}
use Rattle.jwalk_job.specs.declared.job.Job.{Job}
use Rattle.jwalk_readings.specs.Reads.{Read, IsSteadyWith}
use Rattle.jwalk_readings.specs.ReadAhead.{ReadAhead, seen_ahead, MakesReady}

-- What reads, how many directories are read together, and the board, which is gone once they were stopped.
pub record BatchReads (C S P A R E : Type 0) : Type 0 where
  pub job : Job C S P A R E
  pub width : ℕ
  pub board : Option (Board (ReadDirSpec C A R E) (Read C A R E))

module _ {C A R E : Type 0} where
  -- a reading, seen with the specifications of the directories below it
  abbrev pub seen_made : Read C A R E × List (ReadDirSpec C A R E) → Read C A R E × List (Spec R)
  seen_made m = (m.0, map spec m.1)

  -- the specifications whose readings are still to be given, the next one first, without those below them
  abbrev pub to_read_on : Option (Board (ReadDirSpec C A R E) (Read C A R E)) → List (Spec R)
  to_read_on b = map spec (tree.left_on b).to_read

  -- the readings that were made and not handed on, each with the specifications below it
  abbrev pub early_on : Option (Board (ReadDirSpec C A R E) (Read C A R E)) → List (Read C A R E × List (Spec R))
  early_on b = map seen_made (tree.left_on b).made

  -- what is queued and what is done
  abbrev pub ahead_of : Option (Board (ReadDirSpec C A R E) (Read C A R E)) → ReadAhead R
  ahead_of b = seen_ahead (tree.ahead_of b)

-- A reading is handed on, and the addresses of the directories in it take the place of the first; or nothing was left to be read and all stay.
abbrev pub PassesAddress : {R E : Type 0} → List (List ℕ) → Option (Outcome R E) → List (List ℕ) → Type 0
PassesAddress old (Some read) new = new ≡ passed old (length (children_of read))
PassesAddress old None new = new ≡ old

module _ {C S P A R E : Type 0} (w : BatchReads C S P A R E) where
  abbrev pub to_read : List (Spec R)
  to_read = to_read_on w.board

  abbrev pub early_of : List (Read C A R E × List (Spec R))
  early_of = early_on w.board

  abbrev pub read_ahead : ReadAhead R
  read_ahead = ahead_of w.board

  -- the addresses of the directories that are still to be entered, the next one first
  abbrev pub frontier_of : List (List ℕ)
  frontier_of = tree.frontier_on w.board

  -- the address of the next reading
  abbrev pub next_of : List ℕ
  next_of = next_address frontier_of

module _ {C S P A R E : Type 0} (files : FileSystem.Ghosts S) (process : ProcessReadDir.Ghosts P C A R E) (clone : Clone.Ghosts R) (defaults : Default.Ghosts E) where
  -- They are steady over what is given: the job is, and what was read early is what the definition gives.
  abbrev pub IsSteadyBatches : BatchReads C S P A R E → Given R E → Type 0
  IsSteadyBatches w = IsSteadyWith files process clone defaults w.job (early_of w)

  -- They stay steady over all that they were steady over.
  abbrev pub StaysSteady : BatchReads C S P A R E → BatchReads C S P A R E → Type 0
  StaysSteady old new = (given : Given R E) → IsSteadyBatches old given → IsSteadyBatches new given

  -- The next reading isn't made yet, and is made together with others. What is still to be given stays the same.
  pub record ReadsForNext (old new : BatchReads C S P A R E) : Type 0 where
    pub some : to_read old ≢ []
    pub same : to_read new ≡ to_read old
    pub frontier : frontier_of new ≡ frontier_of old
    pub ready : MakesReady files process clone defaults old.job old.width (next_of old) (read_ahead old) (read_ahead new)
