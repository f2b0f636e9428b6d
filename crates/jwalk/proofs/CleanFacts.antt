-- A walk that a crew was to read for yielded the whole walk, unless one of its items reports that memory ran out or that the crew was busy.
use Rattle.std.proofs.Common.{◌≡◌, ◌<◌, ◌∙◌, ℕ, zero, suc, Bool, nat_le, cond, true, false, List, [], ◌∷◌, ◌++◌, map, length, Option, Some, None, option_map, Result, Ok, Err, is_ok, inl, inr, refl, sym, ap, ap₂, subst}
use Rattle.std.specs.Prelude.{is_some, if◌then◌else◌}
use Rattle.std.specs.Iterator.{Drains}
use Rattle.std.specs.List.{list_all}
use Rattle.std.specs.declared.clone.Clone as Clone
use Rattle.std.specs.declared.default.Default as Default
use Rattle.jwalk_model.specs.Error.{busy, memory}
use Rattle.jwalk_model.specs.Entry.{Entry, Item, Children, has_directory}
use Rattle.jwalk_model.specs.ReadDir.{Spec, Outcome}
use Rattle.jwalk_model.specs.Counted.{Worth, children_by, entry_by}
use Rattle.jwalk_model.specs.Listing.{Source, Pair, nothing, unread, was_read, pair, answers, below, listing}
use Rattle.jwalk_model.specs.Job.{reading, root_list}
use Rattle.jwalk_model.specs.Held as held_value
use Rattle.jwalk_model.specs.Held.{pair_up, first_source, after_first}
use Rattle.jwalk_model.specs.Walk.{whole_walk}
use Rattle.jwalk_model.proofs.CountedFacts.{counted-has_directory}
use Rattle.jwalk_fs.specs.declared.file_system.FileSystem as FileSystem
use Rattle.jwalk_job.specs.declared.process_read_dir.ProcessReadDir as ProcessReadDir
use Rattle.jwalk_job.specs.declared.error.Error.{Error}
use Rattle.jwalk_job.specs.declared.dir_entry.DirEntry.{DirEntry}
use Rattle.jwalk_job.specs.Given.{Given, counted_item, counted_spec, counted_outcome, counted_list}
use Rattle.jwalk_job.specs.Job.{greatest_depth, job_by, IsSteady}
use Rattle.tree_crew.specs.declared.crew.NotStarted.{NotStarted}
use Rattle.tree_crew.specs.declared.crew.NotStarted.TheVariants.{Busy, Memory}
use Rattle.jwalk_readings.specs.declared.readers.Readers as Readers
use Rattle.jwalk.specs.declared.walk_dir.WalkDirGeneric.{WalkDirGeneric}
use Rattle.jwalk.specs.CrewStart.{busied, busy_pair}
use Rattle.jwalk_iter.specs.DirEntryIter.{DirEntryIter, job_of, min_depth_of, held, held_by, refusal, items_of, unread_of, to_come, NoneRefused, IsSteadyWalk, Answers, Fills}
use Rattle.jwalk.specs.WalkDir.{file_system_of, callback_of, root_of, state_of, job_for, ReportsBusy, NoneBusy, Starts, HoldsBusy, HoldsUnless}
use Rattle.jwalk.proofs.WholeFacts.{all_answered, answered_whole, comes_whole, entries_tell, filled_came}

module _ {R E : Type 0} (reading : Spec R → Outcome R E) where
  below_nothing : (n : ℕ) → below reading n nothing ≡ []
  unfolding below
  below_nothing zero = refl
  below_nothing (suc n) = refl

  -- where the crew was busy, nothing is listed below the items
  busy_listed : (max_depth : ℕ) (l : List (Item R E)) → listing reading max_depth (map busy_pair l) ≡ map busied l
  busy_listed max_depth [] = refl
  busy_listed max_depth (x ∷ l) = rw (below_nothing 0) (ap (λ m. busied x ∷ m) (busy_listed max_depth l))

-- none of the items reports a busy crew
abbrev AllFree : {R E : Type 0} → List (Item R E) → Type 0
AllFree [] = Unit {0}
AllFree (x ∷ l) = (¬ ReportsBusy x) × AllFree l

module _ {R E : Type 0} (min_depth : ℕ) where
  rest_free : (e : Entry R E) (rest : List (Item R E)) → AllFree (answers min_depth (Ok e ∷ rest)) → AllFree (answers min_depth rest)
  rest_free e rest =
      let others = answers min_depth rest in
      elim (nat_le min_depth e.depth) as (λ b. AllFree (cond b (Ok e ∷ others) others) → AllFree others) [
        | true ↦ λ h. h.1
        | false ↦ λ h. h
      ]

  one_free : (state : R) (e : Entry R E) (below : Option (Children R)) (rest : List (Item R E)) → e.read_children ≡ below → AllFree (answers min_depth (busied (Ok e) ∷ rest)) → (busy_pair (Ok e) ≡ pair state (Ok e)) × AllFree (answers min_depth rest)
  one_free state e (Some c) rest is free = let here = subst (λ o. AllFree (answers min_depth ((if is_some o then Err busy else Ok e) ∷ rest))) is free in absurd (here.0 refl)
  one_free state e None rest is free = (rw is refl, rest_free e rest (subst (λ o. AllFree (answers min_depth ((if is_some o then Err busy else Ok e) ∷ rest))) is free))

  -- so where nothing that is yielded reports a busy crew, none of the items has a directory
  all_free : (state : R) (l : List (Item R E)) → AllFree (answers min_depth (map busied l)) → map busy_pair l ≡ map (pair state) l
  all_free state [] free = refl
  all_free state (Err f ∷ l) free = ap (λ m. pair state (Err f) ∷ m) (all_free state l free.1)
  all_free state (Ok e ∷ l) free =
      let first = one_free state e e.read_children (map busied l) refl free in
      ap₂ (λ p m. p ∷ m) first.0 (all_free state l first.1)

module _ {R E : Type 0} (given : Given R E) where
  counted_free : {C A : Type 0} (xs : List (Result (DirEntry C A R E) (Error A))) → NoneBusy xs → AllFree (counted_list given xs)
  counted_free [] free = tt
  counted_free (Ok e ∷ xs) free = (λ is. is, counted_free xs free.1)
  counted_free (Err f ∷ xs) free = (free.0, counted_free xs free.1)

  abbrev counted_source : Source R E → Source Worth Worth
  counted_source nothing = nothing
  counted_source (unread spec) = unread (counted_spec given spec)
  counted_source (was_read spec outcome) = was_read (counted_spec given spec) (counted_outcome given outcome)

  abbrev counted_pair : Pair R E → Pair Worth Worth
  counted_pair p = record { item = counted_item given p.item; source = counted_source p.source }

  counted_first : (b : Bool) (specs : List (Spec R)) → ◌≡◌ {A = Source Worth Worth} (first_source b (map (counted_spec given) specs)) (counted_source (first_source b specs))
  counted_first false specs = refl
  counted_first true [] = refl
  counted_first true (s ∷ specs) = refl

  counted_after : (b : Bool) (specs : List (Spec R)) → after_first b (map (counted_spec given) specs) ≡ map (counted_spec given) (after_first b specs)
  counted_after false specs = refl
  counted_after true [] = refl
  counted_after true (s ∷ specs) = refl

  counted_up : (items : List (Item R E)) (specs : List (Spec R)) → ◌≡◌ {A = List (Pair Worth Worth)} (pair_up (map (counted_item given) items) (map (counted_spec given) specs)) (map counted_pair (pair_up items specs))
  counted_up [] specs = refl
  counted_up (x ∷ items) specs =
      let first : Source Worth Worth → List (Pair Worth Worth) → List (Pair Worth Worth) = λ s m. record { item = counted_item given x; source = s } ∷ m in
      let l = map (counted_spec given) specs in
      ap (λ b. first (first_source b l) (pair_up (map (counted_item given) items) (after_first b l))) (counted-has_directory given.read_dir_state given.dir_entry_state x)
      ∙ ap₂ first (counted_first (has_directory x) specs) (ap (pair_up (map (counted_item given) items)) (counted_after (has_directory x) specs) ∙ counted_up items (after_first (has_directory x) specs))

  counted_held : (b : Bool) (items : List (Item R E)) (specs : List (Spec R)) → ◌≡◌ {A = List (Pair Worth Worth)} (refusal b ++ pair_up (map (counted_item given) items) (map (counted_spec given) specs)) (map counted_pair (refusal b ++ pair_up items specs))
  counted_held true items specs = ap (λ l. record { item = Err memory; source = nothing } ∷ l) (counted_up items specs)
  counted_held false items specs = counted_up items specs

  counted_busied : (x : Item R E) → counted_item given (busied x) ≡ busied (counted_item given x)
  counted_busied (Err f) = refl
  counted_busied (Ok e) =
      elim e.read_children as (λ o. counted_item given (if is_some o then Err busy else Ok e) ≡ (if is_some (option_map (children_by given.read_dir_state) o) then Err busy else Ok (entry_by given.read_dir_state given.dir_entry_state e))) [
        | None ↦ refl
        | Some c ↦ refl
      ]

  counted_busy : (l : List (Item R E)) → map counted_pair (map busy_pair l) ≡ map busy_pair (map (counted_item given) l)
  counted_busy [] = refl
  counted_busy (x ∷ l) =
      let first : Item Worth Worth → List (Pair Worth Worth) → List (Pair Worth Worth) = λ y m. record { item = y; source = nothing } ∷ m in
      ap₂ first (counted_busied x) (counted_busy l)

-- entries report none
entries_free : {C A R E : Type 0} (xs : List (Result (DirEntry C A R E) (Error A))) → list_all is_ok xs ≡ true → NoneBusy xs
entries_free [] all = tt
entries_free (Ok e ∷ xs) all = (λ is. is, entries_free xs all)
entries_free (Err f ∷ xs) all = let no : false ≡ true = all in absurd cc

-- what a walk holds whose crew was busy, by value
pub busy_by_value : {C S P A W L R E : Type 0} (files : FileSystem.Ghosts S) (process : ProcessReadDir.Ghosts P C A R E) (clone : Clone.Ghosts R) (defaults : Default.Ghosts E) (walk : WalkDirGeneric C S P A W R E) (it : DirEntryIter C S P A L R E) → HoldsBusy files process clone defaults walk it → (given : Given R E) → IsSteady files process clone defaults (file_system_of walk) (callback_of walk) given
    → held_by given it ≡ map busy_pair (root_list (job_for files given walk) (root_of walk) (given.read_dir_state (state_of walk))).list
busy_by_value files process clone defaults walk it left given steady =
    counted_held given it.refused (items_of it) (unread_of it)
    ∙ ap (map (counted_pair given)) left.holds
    ∙ counted_busy given left.list
    ∙ ap (map busy_pair) (left.value given steady)

module _ {C S P A W L R E : Type 0} (files : FileSystem.Ghosts S) (process : ProcessReadDir.Ghosts P C A R E) (clone : Clone.Ghosts R) (defaults : Default.Ghosts E) (readers : Readers.Ghosts L C S P A R E) (given : Given R E) (walk : WalkDirGeneric C S P A W R E) (it : DirEntryIter C S P A L R E) (xs : List (Result (DirEntry C A R E) (Error A))) where
  answered_unless : (why_not : Option NotStarted) → HoldsUnless files process clone defaults why_not walk it → Starts walk it → IsSteady files process clone defaults (file_system_of walk) (callback_of walk) given → NoneRefused xs → NoneBusy xs → to_come files given it ≡ counted_list given xs
      → counted_list given xs ≡ whole_walk (job_for files given walk) (root_of walk) (given.read_dir_state (state_of walk))
  answered_unless None holds starts steady none free came = answered_whole files process clone defaults readers given walk it xs starts (inr holds) steady none came
  answered_unless (Some Memory) refused starts steady none free came = answered_whole files process clone defaults readers given walk it xs starts (inl refused) steady none came
  answered_unless (Some Busy) left starts steady none free came =
      let list = root_list (job_for files given walk) (root_of walk) (given.read_dir_state (state_of walk)) in
      let holds = busy_by_value files process clone defaults walk it left given steady in
      let read = reading (job_by files given (job_of it)) in
      let listed : to_come files given it ≡ answers (min_depth_of it) (map busied list.list)
      = ap (held_value.to_come read (min_depth_of it) (greatest_depth (job_of it))) holds
      ∙ ap (answers (min_depth_of it)) (busy_listed read (greatest_depth (job_of it)) list.list) in
      sym came
      ∙ comes_whole files process clone defaults readers given walk it starts (holds ∙ all_free (min_depth_of it) list.state list.list (subst AllFree (sym came ∙ listed) (counted_free given xs free)))

  -- Calls up to `None` of a walk that was begun, or whose crew was busy, yielded the whole walk from its root, unless an item reports that memory ran out or that the crew was busy.
  pub whole_unless_busy : (why_not : Option NotStarted) → HoldsUnless files process clone defaults why_not walk it → IsSteadyWalk files process clone defaults readers it given → Starts walk it → IsSteady files process clone defaults (file_system_of walk) (callback_of walk) given → Drains (Answers files process clone defaults readers) it xs → NoneRefused xs → NoneBusy xs
      → counted_list given xs ≡ whole_walk (job_for files given walk) (root_of walk) (given.read_dir_state (state_of walk))
  whole_unless_busy why_not held steadily starts steady drains none free = answered_unless why_not held starts steady none free (all_answered files process clone defaults readers given xs it steadily drains none)

  -- So did a call of `fill` into an empty vector, which holds fewer items then than were asked for.
  pub filled_unless_busy : (why_not : Option NotStarted) (new : DirEntryIter C S P A L R E) (n k : ℕ) (before : List (Result (DirEntry C A R E) (Error A))) → HoldsUnless files process clone defaults why_not walk it → IsSteadyWalk files process clone defaults readers it given → Starts walk it → IsSteady files process clone defaults (file_system_of walk) (callback_of walk) given → Fills files process clone defaults readers n it before (Ok k) xs new → before ≡ [] → length xs < n → NoneRefused xs → NoneBusy xs
      → counted_list given xs ≡ whole_walk (job_for files given walk) (root_of walk) (given.read_dir_state (state_of walk))
  filled_unless_busy why_not new n k before held steadily starts steady fills empty fewer none free = answered_unless why_not held starts steady none free (filled_came files process clone defaults readers given it new n k before xs steadily fills empty fewer none)

  -- Entries report neither.
  pub clean_whole : (why_not : Option NotStarted) → HoldsUnless files process clone defaults why_not walk it → IsSteadyWalk files process clone defaults readers it given → Starts walk it → IsSteady files process clone defaults (file_system_of walk) (callback_of walk) given → Drains (Answers files process clone defaults readers) it xs → list_all is_ok xs ≡ true
      → counted_list given xs ≡ whole_walk (job_for files given walk) (root_of walk) (given.read_dir_state (state_of walk))
  clean_whole why_not held steadily starts steady drains clean = whole_unless_busy why_not held steadily starts steady drains (entries_tell xs clean) (entries_free xs clean)
