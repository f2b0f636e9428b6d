-- How a builder's walk begins where a crew may read for it.
use Rattle.std.proofs.Common.{◌≡◌, ◌≤◌, ◌∙◌, ◌⊎◌, ◌+◌, ℕ, true, List, length, Option, Some, None, Result, Ok, Err, IfOk, IfSome, IsSome, IsSomeAnd, inl, inr, refl, sym, ap, subst, arith}
use Rattle.std.specs.Prelude.{option_map}
use Rattle.std.specs.Result.{result_ok}
use Rattle.std.specs.declared.clone.Clone as Clone
use Rattle.std.specs.declared.default.Default as Default
use Rattle.jwalk_model.specs.Error.{Failure, memory, busy}
use Rattle.jwalk_model.specs.Options.{Options, crew}
use Rattle.jwalk_model.specs.ReadDir.{Reading}
use Rattle.jwalk_model.specs.Counted.{Worth}
use Rattle.jwalk_model.specs.Listing.{paired}
use Rattle.jwalk_model.specs.Job as value
use Rattle.jwalk_model.specs.Job.{root_list}
use Rattle.jwalk_fs.specs.declared.file_system.FileSystem as FileSystem
use Rattle.jwalk_job.specs.declared.process_read_dir.ProcessReadDir as ProcessReadDir
use Rattle.jwalk_job.specs.declared.job.Job.{Job}
use Rattle.jwalk_job.specs.declared.read_dir.ReadDir.{ReadDir}
use Rattle.jwalk_job.specs.ReadDir.{reading}
use Rattle.jwalk_job.specs.Options.{width_of}
use Rattle.jwalk_job.specs.Given.{Given, IsOfRoot, counted_reading, KeepsLists}
use Rattle.jwalk_job.specs.Job as job
use Rattle.jwalk_job.specs.Job.{file_system, callback, job_by, IsSteady}
use Rattle.tree_crew.specs.declared.crew.NotStarted.{NotStarted}
use Rattle.tree_crew.specs.declared.crew.NotStarted.TheVariants.{Busy, Memory}
use Rattle.jwalk_iter.specs.DirEntryIter.{DirEntryIter, by_crew, held_by}
use Rattle.jwalk_readings.specs.CrewReads.{start_failure}
use Rattle.jwalk.specs.CrewStart.{HoldsList, IsFromRoot}
use Rattle.jwalk.specs.WalkDir.{file_system_of, callback_of, root_of, state_of, options_of, job_for, Starts, HoldsOne, HoldsRoot, HoldsBusy, HoldsUnless, Begins}
use Rattle.jwalk.specs.declared.walk_dir.WalkDirGeneric.{WalkDirGeneric}

-- what is held for a view is held for the value that is viewed
viewed : {X V H : Type 0} (view : X → V) (of : V → H) (held : H) (v : V) (o : Option X) → IsSomeAnd o (λ x. held ≡ of (view x)) → IfSome o (λ x. v ≡ view x) → held ≡ of v
viewed view of held v None some is = absurd some
viewed view of held v (Some x) some is = some ∙ ap of (sym is)

-- what is said of an `Ok` is said of its view as an option
pub if_some_view : {X F Y : Type 0} (view : X → Y) (P : Y → Type 0) (read : Result X F) (o : Option X) → o ≡ result_ok read → IfOk read (λ x. P (view x)) → IfSome (option_map view o) P
if_some_view view P (Ok x) o is h = rw is h
if_some_view view P (Err f) o is h = rw is tt

-- a walk fails to begin because memory ran out, or because the crew that it is to read by is busy
pub fails_by : (Told : Type 0) (why_not : NotStarted) (f : Failure) → f ≡ start_failure why_not → (◌≡◌ {A = Option NotStarted} (Some why_not) (Some Busy) → Told) → (f ≡ memory) ⊎ ((f ≡ busy) × Told)
fails_by Told Busy f is told = inr (is, told refl)
fails_by Told Memory f is told = inl is

-- where nothing is read ahead by a crew, each limit is kept
pub within_limit : {X : Type 0} (ahead : ℕ) (limit : X → ℕ) (o : Option X) → ahead ≡ 0 → IfSome o (λ x. ahead ≤ limit x + 1)
within_limit ahead limit None none = tt
within_limit ahead limit (Some x) none = omega (arith, none)

module _ {C S P A W L R E : Type 0} (files : FileSystem.Ghosts S) (process : ProcessReadDir.Ghosts P C A R E) (clone : Clone.Ghosts R) (defaults : Default.Ghosts E) (walk : WalkDirGeneric C S P A W R E) (it : DirEntryIter C S P A L R E) where
  -- what a job of the builder's file system and options makes of the builder's root
  same_root : (made : Job C S P A R E) → file_system made ≡ file_system_of walk → job.options_of made ≡ options_of walk → (given : Given R E) (path : List ℕ) → path ≡ root_of walk
      → root_list (job_by files given made) path (given.read_dir_state (state_of walk)) ≡ root_list (job_for files given walk) (root_of walk) (given.read_dir_state (state_of walk))
  same_root made fs options given path is =
      let over : S → Options → value.Job Worth Worth = λ f o. record { fs = files.functions f; options = o; processed = given.processed; default = given.new_entry } in
      let same : job_by files given made ≡ job_for files given walk = ap (λ f. over f (job.options_of made)) fs ∙ ap (over (file_system_of walk)) options in
      ap (λ k. root_list k path (given.read_dir_state (state_of walk))) same
      ∙ ap (λ p. root_list (job_for files given walk) p (given.read_dir_state (state_of walk))) is

  -- The list is that of the walk's root, if it was made.
  abbrev pub IsRootList : Option (Reading R E) → Type 0
  IsRootList read = (given : Given R E) → IsSteady files process clone defaults (file_system_of walk) (callback_of walk) given
      → IfSome read (λ r. root_list (job_for files given walk) (root_of walk) (given.read_dir_state (state_of walk)) ≡ counted_reading given r)

  -- the list that such a job makes is that of the walk's root
  pub made_root : (made : Job C S P A R E) → file_system made ≡ file_system_of walk → callback made ≡ callback_of walk → job.options_of made ≡ options_of walk → (path : List ℕ) → path ≡ root_of walk → (F : Type 0) → (read : Result (ReadDir C A R E) F) (o : Option (ReadDir C A R E)) → o ≡ result_ok read
      → ((given : Given R E) → IsSteady files process clone defaults (file_system made) (callback made) given → IfOk read (λ r. root_list (job_by files given made) path (given.read_dir_state (state_of walk)) ≡ counted_reading given (reading r)))
      → IsRootList (option_map reading o)
  made_root made fs by options path is F read o ok value = λ given steady.
      let list = root_list (job_for files given walk) (root_of walk) (given.read_dir_state (state_of walk)) in
      let told = value given (rw (fs, by) steady) in
      if_some_view reading (λ r. list ≡ counted_reading given r) read o ok (subst (λ v. IfOk read (λ r. v ≡ counted_reading given (reading r))) (same_root made fs options given path is) told)

  -- a busy crew's list is the root's, if it was made
  busy_from_root : (read : Option (Reading R E)) → IsRootList read → HoldsList clone read (Some Busy) it → HoldsBusy files process clone defaults walk it
  busy_from_root None root holds = absurd holds
  busy_from_root (Some r) root holds = record { list = r.list; depth = holds.0; holds = holds.1; value = λ given steady. sym (ap (λ k. k.list) (root given steady)) }

  holds_from_root : (read : Option (Reading R E)) (why_not : Option NotStarted) → IsRootList read → HoldsList clone read why_not it → HoldsUnless files process clone defaults why_not walk it
  holds_from_root read None root holds = λ given steady. viewed (counted_reading given) paired (held_by given it) (root_list (job_for files given walk) (root_of walk) (given.read_dir_state (state_of walk))) read (holds given steady.clones) (root given steady)
  holds_from_root read (Some Busy) root holds = busy_from_root read root holds
  holds_from_root read (Some Memory) root holds = holds

  module _ (begun : Job C S P A R E) (fs : file_system begun ≡ file_system_of walk) (by : callback begun ≡ callback_of walk) (options : job.options_of begun ≡ options_of walk) (read : Option (Reading R E)) (why_not : Option NotStarted) (is : IsFromRoot clone read begun why_not it) where
    -- whatever it holds, it starts as the builder says
    pub starts_from_root : Starts walk it
    starts_from_root = record {
      file_system = ap file_system is.job ∙ fs;
      callback = ap callback is.job ∙ by;
      options = ap job.options_of is.job ∙ options;
      within = is.within;
      sourced = is.sourced;
      placed = is.placed;
      start = is.start;
      width = is.width ∙ ap (λ o. width_of o.parallelism) options;
      ahead = is.ahead;
    }

    -- it holds one item where the callback keeps lists
    pub one_from_root : (made : (given : Given R E) → process.Makes (callback begun) given → KeepsLists given.processed → IfSome read (λ r. length r.list ≡ 1)) → HoldsOne process walk it
    one_from_root made given makes keeps = is.one (made given (rw by makes) keeps)

    -- and the root's item, where that drops nothing from the root's list
    pub root_from_root : (process.KeepsRoot (callback begun) → IfSome read (λ r. IsOfRoot r.list)) → HoldsRoot process walk it
    root_from_root made keeps = is.root (made (rw by keeps))

    -- and begins with its root's list
    pub begins_from_root : IsRootList read → ((options_of walk).parallelism ≡ crew → IsSome walk.crew → (why_not ≡ Some Memory) ⊎ (by_crew it ≡ true)) → Begins files process clone defaults walk why_not it
    begins_from_root root reads = record {
      holds = holds_from_root read why_not root is.holds;
      busy = λ busy. sym (ap (λ o. o.parallelism) options) ∙ is.busy busy;
      by = λ by. sym (ap (λ o. o.parallelism) options) ∙ is.by by;
      reads = reads;
    }
