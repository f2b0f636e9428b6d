-- Walks whose answers are handed on by the builder's own calls.
use Rattle.std.specs.Prelude.{◌≡◌, ◌⊎◌, ◌++◌, false, List, Option, Some, Result, Ok, Err, MatchResult}
use Rattle.std.specs.declared.clone.Clone as Clone
use Rattle.std.specs.declared.default.Default as Default
use Rattle.std.specs.Iterator.{CallsOnEach, Drains, Yields, YieldsThen}
use Rattle.std.specs.List.{FoldsTo}
use denote.Param.Members.{Mut, Called}
use Rattle.jwalk_fs.specs.declared.file_system.FileSystem as FileSystem
use Rattle.jwalk_job.specs.declared.process_read_dir.ProcessReadDir as ProcessReadDir
use Rattle.jwalk_readings.specs.declared.readers.Readers as Readers
use Rattle.jwalk_iter.specs.DirEntryIter.{DirEntryIter, by_crew, IsRefused, StartsSteady}
use Rattle.jwalk.specs.declared.walk_dir.WalkDirGeneric.{WalkDirGeneric}
use Rattle.tree_crew.specs.declared.crew.Crew.{Crew}
use Rattle.jwalk.specs.WalkDir.{Starts, Holds, HoldsOne, HoldsRoot, KeepsBound, Begins}

module _ {C S P A W L R E : Type 0} (files : FileSystem.Ghosts S) (process : ProcessReadDir.Ghosts P C A R E) (clone : Clone.Ghosts R) (defaults : Default.Ghosts E) where
  -- The walk of a builder that has no crew, as `into_iter` begins it.
  pub record BeginsAlone (walk : WalkDirGeneric C S P A W R E) (it : DirEntryIter C S P A L R E) : Type 0 where
    pub own : by_crew it ≡ false
    pub starts : Starts walk it
    pub holds : IsRefused it ⊎ Holds files process clone defaults walk it
    pub one : HoldsOne process walk it
    pub root : HoldsRoot process walk it

module _ {C S P A H L R E : Type 0} (files : FileSystem.Ghosts S) (process : ProcessReadDir.Ghosts P C A R E) (clone : Clone.Ghosts R) (defaults : Default.Ghosts E) where
  -- The walk of a builder over a crew, as `into_iter` begins it.
  pub record BeginsOver (readers : Readers.Ghosts L C S P A R E) (walk : WalkDirGeneric C S P A (Crew H) R E) (it : DirEntryIter C S P A L R E) : Type 0 where
    pub starts : Starts walk it
    pub begins : (why_not : _) × Begins files process clone defaults walk why_not it
    pub one : HoldsOne process walk it
    pub root : HoldsRoot process walk it
    pub most : KeepsBound readers walk it
    pub steady : StartsSteady files process clone defaults readers it

module _ {I X : Type 0} (begins : I → Type 0) (next : I → Option X → I → Type 0) where
  -- A walk that began so yields answers until it ends, and `f` is called with each of them, in order.
  pub record CallsWithEach {F : Type 0} (call : Mut F (X × Unit {0}) (Unit {0})) (f : F) : Type 0 where
    pub walk : I
    pub begun : begins walk
    pub calls : CallsOnEach next call walk f

  -- A walk that began so yields answers, and `f` is called with each of them, in order. It returns `Ok` for these; then the walk ends, or `f` returns this error for the next answer.
  pub record CallsUntilError {F V : Type 0} (call : Mut F (X × Unit {0}) (Result (Unit {0}) V)) (f : F) (result : Result (Unit {0}) V) : Type 0 where
    pub walk : I
    pub begun : begins walk
    pub answered : List X
    pub last : F
    pub passes : FoldsTo (λ p x q. Called call p (x, tt) (Ok tt) q) f answered last
    pub ends : MatchResult result
        (λ _. Drains next walk answered)
        (λ error. (x : X) × (end : I) × (after : F) × YieldsThen next walk answered (Some x) end × Called call last (x, tt) (Err error) after)

  -- A walk that began so yields answers until it ends, and they are appended, in order. Or memory for one more runs out after these.
  pub record Appends {W : Type 0} (before : List X) (result : Result (Unit {0}) W) (after : List X) : Type 0 where
    pub walk : I
    pub begun : begins walk
    pub answered : List X
    pub appended : after ≡ before ++ answered
    pub calls : MatchResult result (λ _. Drains next walk answered) (λ _. (end : I) × Yields next walk answered end)
