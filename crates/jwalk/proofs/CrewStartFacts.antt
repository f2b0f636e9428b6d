-- How a walk over a crew begins.
use Rattle.std.proofs.Common.{◌≡◌, ◌≤◌, ◌∙◌, ◌⊎◌, ℕ, suc, max, true, false, List, [], ◌∷◌, map, length, Option, Some, None, is_some, Result, Ok, Err, OnOk, OnErr, IfSome, IsSomeAnd, inl, inr, refl, sym, ap, subst, arith}
use Rattle.std.specs.Prelude.{option_map, if◌then◌else◌}
use Rattle.std.specs.Result.{result_err}
use Rattle.std.proofs.lemmas.List.{length-map}
use Rattle.std.specs.declared.clone.Clone as Clone
use Rattle.std.specs.declared.default.Default as Default
use Rattle.jwalk_model.specs.Error.{busy}
use Rattle.jwalk_model.specs.Entry.{Item, AtDepth, has_directory}
use Rattle.jwalk_model.specs.Options.{crew}
use Rattle.jwalk_model.specs.ReadDir.{Spec, Reading, children, AreClones}
use Rattle.jwalk_job.specs.declared.read_dir.ReadDir.{ReadDir}
use Rattle.jwalk_job.specs.ReadDir.{reading}
use Rattle.jwalk_model.specs.Listing.{Pair, nothing, paired}
use Rattle.jwalk_model.specs.Held.{pair_up, first_source, after_first}
use Rattle.jwalk_model.proofs.HeldFacts.{directories}
use Rattle.jwalk_fs.specs.declared.file_system.FileSystem as FileSystem
use Rattle.jwalk_job.specs.declared.process_read_dir.ProcessReadDir as ProcessReadDir
use Rattle.jwalk_job.specs.Given.{Given, counted_reading, ClonesCount, IsOfRoot, entries_in}
use Rattle.jwalk_job.specs.declared.job.Job.{Job}
use Rattle.jwalk_job.specs.Options as options
use Rattle.jwalk_job.specs.Job.{options_of, greatest_depth}
use Rattle.jwalk_readings.specs.declared.readers.Readers as Readers
use Rattle.tree_crew.specs.declared.crew.NotStarted.{NotStarted}
use Rattle.tree_crew.specs.declared.crew.NotStarted.TheVariants.{Busy, Memory}
use Rattle.jwalk_readings.specs.BatchReads.{BatchReads}
use Rattle.jwalk_readings.specs.ReadAhead.{BeginsWith}
use Rattle.jwalk_iter.specs.DirEntryIter.{DirEntryIter, reads_of, is_refused, by_crew, width_of, frontier_of, read_ahead, job_of, items_of, unread_of, held, held_by, IsWithin, IsSourced, IsPlaced, IsRefused}
use Rattle.jwalk_readings.specs.Sources.{Base, source_by}
use Rattle.jwalk_readings.specs.SourceFacts.{is_source_by}
use Rattle.jwalk_iter.specs.Entries.{ArePlaced}
use Rattle.jwalk.specs.CrewStart.{busied, busy_pair, left_of, IsToRead, IsBegun, HoldsList, IsFromRoot}
use Rattle.jwalk_readings.specs.CrewReads as reads_by
use Rattle.jwalk_readings.specs.declared.crew_reads.CrewReads.{CrewReads}
use Rattle.jwalk_readings.specs.ReadDirIter as readings
use Rattle.jwalk_readings.specs.declared.read_dir_iter.ReadDirIter.{ReadDirIter}
use Rattle.jwalk_readings.specs.declared.read_dir_iter.ReadDirIter.TheVariants.{Walk, CrewWalk}
use Rattle.jwalk_readings.proofs.CrewSteadyFacts.{starts_steady}
use Rattle.jwalk_iter.proofs.PlacedFacts.{list_placed, unread_placed, none_placed, root_placed}
use Rattle.jwalk_iter.proofs.AnswerFacts.{with_sourced}
use Rattle.jwalk_iter.proofs.StartFacts.{holds_refusal, refusal_sourced, list_sourced, holds_list, within_root}

module _ {R E : Type 0} where
  -- errors have no depth
  busied_depth : (depth : ℕ) (l : List (Item R E)) → AtDepth depth l → AtDepth depth (map busied l)
  busied_depth depth [] h = tt
  busied_depth depth (Err f ∷ l) h = busied_depth depth l h
  busied_depth depth (Ok e ∷ l) h =
      elim e.read_children as (λ o. AtDepth depth ((if is_some o then Err busy else Ok e) ∷ map busied l)) [
        | None ↦ (h.0, busied_depth depth l h.1)
        | Some c ↦ busied_depth depth l h.1
      ]

  busied_alone : (l : List (Item R E)) → length (entries_in (map busied l)) ≤ length (entries_in l)
  busied_alone [] = omega arith
  busied_alone (Err f ∷ l) = busied_alone l
  busied_alone (Ok e ∷ l) =
      elim e.read_children as (λ o. length (entries_in ((if is_some o then Err busy else Ok e) ∷ map busied l)) ≤ length (entries_in (Ok e ∷ l))) [
        | None ↦ omega (arith, busied_alone l)
        | Some c ↦ omega (arith, busied_alone l)
      ]

  -- and are no entries
  busied_root : (l : List (Item R E)) → IsOfRoot l → IsOfRoot (map busied l)
  busied_root l root = record { some = omega (arith, length-map l busied, root.some); alone = omega (arith, busied_alone l, root.alone) }

  left_depth : (why_not : Option NotStarted) (l : List (Item R E)) → AtDepth 0 l → AtDepth 0 (left_of why_not l)
  left_depth None l h = h
  left_depth (Some Busy) l h = busied_depth 0 l h
  left_depth (Some Memory) l h = tt

  -- and no directories
  none_below : (l : List (Item R E)) → directories (map busied l) ≡ 0
  none_below [] = refl
  none_below (Err f ∷ l) = omega (arith, none_below l)
  none_below (Ok e ∷ l) =
      elim (is_some e.read_children) as (λ b. is_some e.read_children ≡ b → directories ((if b then Err busy else Ok e) ∷ map busied l) ≡ 0) [
        | true ↦ λ some. omega (arith, none_below l)
        | false ↦ λ none. rw none (omega (arith, none_below l))
      ] refl

  -- where nothing is to be read, nothing is below an item
  unread_pairs : (l : List (Item R E)) → ◌≡◌ {A = List (Pair R E)} (pair_up l []) (map (λ x. record { item = x; source = nothing }) l)
  unread_pairs [] = refl
  unread_pairs (x ∷ l) =
      elim (has_directory x) as (λ b. ◌≡◌ {A = List (Pair R E)} (record { item = x; source = first_source b [] } ∷ pair_up l (after_first b [])) (record { item = x; source = nothing } ∷ map (λ x. record { item = x; source = nothing }) l)) [
        | true ↦ ap (λ t. record { item = x; source = nothing } ∷ t) (unread_pairs l)
        | false ↦ ap (λ t. record { item = x; source = nothing } ∷ t) (unread_pairs l)
      ]

  -- each item is in one pair
  pub pairs_count : (l : List (Item R E)) (specs : List (Spec R)) → length (pair_up l specs) ≡ length l
  pairs_count [] specs = refl
  pairs_count (x ∷ l) specs = ap suc (pairs_count l (after_first (has_directory x) specs))

  busy_pairs : (l : List (Item R E)) → ◌≡◌ {A = List (Pair R E)} (map (λ x. record { item = x; source = nothing }) (map busied l)) (map busy_pair l)
  busy_pairs [] = refl
  busy_pairs (x ∷ l) = ap (λ t. busy_pair x ∷ t) (busy_pairs l)

width_by : {C S P A L R E : Type 0} (reads : ReadDirIter C S P A L R E) → readings.by_crew reads ≡ true → readings.width_of reads ≡ 1
width_by (Walk walk) by = absurd cc
width_by (CrewWalk reads) by = refl

-- readings that no crew makes are the walk's own
pub reads_alone : {C S P A L R E : Type 0} (reads : ReadDirIter C S P A L R E) → readings.by_crew reads ≡ false → (walk : BatchReads C S P A R E) × (reads ≡ Walk walk)
reads_alone (Walk walk) own = (walk, refl)
reads_alone (CrewWalk reads) own = absurd cc

module _ {C S P A L R E : Type 0} where
  holds_started : (it : DirEntryIter C S P A L R E) → is_refused it ≡ false → held it ≡ pair_up (items_of it) (unread_of it)
  holds_started it started = rw started refl

  module _ (clone : Clone.Ghosts R) where
    -- what it holds is at the root's depth
    pub begun_depth : (read : Option (Reading R E)) (why_not : Option NotStarted) (it : DirEntryIter C S P A L R E) → IfSome read (λ r. AtDepth 0 r.list) → IsBegun clone read why_not it → AtDepth 0 (items_of it)
    begun_depth None why_not it depth begun = rw begun.2 tt
    begun_depth (Some r) why_not it depth begun = rw begun.1 (left_depth why_not r.list depth)

    -- and what is to be read are its directories
    pub begun_sourced : (read : Option (Reading R E)) (why_not : Option NotStarted) (it : DirEntryIter C S P A L R E) → IsBegun clone read why_not it → IsSourced it
    begun_sourced None why_not it begun = refusal_sourced it begun.1 begun.2 begun.3
    begun_sourced (Some r) None it begun = list_sourced clone r it begun.0 begun.1 begun.2
    begun_sourced (Some r) (Some Busy) it begun = with_sourced (unread_of it) it begun.0 (ap length begun.2 ∙ sym (none_below r.list) ∙ ap directories (sym begun.1))
    begun_sourced (Some r) (Some Memory) it begun = refusal_sourced it begun.0 begun.1 begun.2

    -- each below its item
    pub begun_placed : (read : Option (Reading R E)) (why_not : Option NotStarted) (it : DirEntryIter C S P A L R E) → IsBegun clone read why_not it → IsPlaced it
    begun_placed None why_not it begun = none_placed (items_of it) (unread_of it) begun.3
    begun_placed (Some r) None it begun = root_placed clone.is_clone r (items_of it) (unread_of it) begun.1 begun.2
    begun_placed (Some r) (Some Busy) it begun = none_placed (items_of it) (unread_of it) begun.2
    begun_placed (Some r) (Some Memory) it begun = none_placed (items_of it) (unread_of it) begun.2

    -- where memory ran out, it holds only the error that says so
    pub begun_refused : (read : Option (Reading R E)) (it : DirEntryIter C S P A L R E) → IsBegun clone read (Some Memory) it → IsRefused it
    begun_refused None it begun = record { tells = holds_refusal it begun.1 begun.2; nothing_unread = begun.3 }
    begun_refused (Some r) it begun = record { tells = holds_refusal it begun.0 begun.1; nothing_unread = begun.2 }

    -- a list of one item leaves one item
    begun_one : (read : Option (Reading R E)) (why_not : Option NotStarted) (it : DirEntryIter C S P A L R E) → IsBegun clone read why_not it → IfSome read (λ r. length r.list ≡ 1) → length (held it) ≡ 1
    begun_one None why_not it begun one = ap length (holds_refusal it begun.1 begun.2)
    begun_one (Some r) None it begun one = ap length (holds_started it begun.0) ∙ pairs_count (items_of it) (unread_of it) ∙ ap length begun.1 ∙ one
    begun_one (Some r) (Some Busy) it begun one = ap length (holds_started it begun.0) ∙ pairs_count (items_of it) (unread_of it) ∙ ap length begun.1 ∙ length-map r.list busied ∙ one
    begun_one (Some r) (Some Memory) it begun one = ap length (holds_refusal it begun.0 begun.1)

    -- the root's entry or errors alone are left of such a list
    begun_root : (read : Option (Reading R E)) (why_not : Option NotStarted) (it : DirEntryIter C S P A L R E) → IsBegun clone read why_not it → IfSome read (λ r. IsOfRoot r.list) → IsRefused it ⊎ IsOfRoot (items_of it)
    begun_root None why_not it begun root = inl (record { tells = holds_refusal it begun.1 begun.2; nothing_unread = begun.3 })
    begun_root (Some r) None it begun root = inr (rw begun.1 root)
    begun_root (Some r) (Some Busy) it begun root = inr (rw begun.1 (busied_root r.list root))
    begun_root (Some r) (Some Memory) it begun root = inl (begun_refused (Some r) it begun)

    -- where the readings began, it holds the root's list
    pub begun_holds : (given : Given R E) (read : Option (Reading R E)) (it : DirEntryIter C S P A L R E) → ClonesCount clone given → IsBegun clone read None it → IsSomeAnd read (λ r. held_by given it ≡ paired (counted_reading given r))
    begun_holds given None it counts begun = absurd (let no : ◌≡◌ {A = Option NotStarted} None (Some Memory) = begun.0 in cc)
    begun_holds given (Some r) it counts begun = holds_list clone r it given counts begun.0 begun.1 begun.2

    -- and where the crew was busy, the errors that report it in the place of entries with directories
    pub begun_busy : (read : Option (Reading R E)) (it : DirEntryIter C S P A L R E) → IfSome read (λ r. AtDepth 0 r.list) → IsBegun clone read (Some Busy) it → IsSomeAnd read (λ r. AtDepth 0 r.list × (held it ≡ map busy_pair r.list))
    begun_busy None it depth begun = absurd (let no : ◌≡◌ {A = Option NotStarted} (Some Busy) (Some Memory) = begun.0 in cc)
    begun_busy (Some r) it depth begun = (
      depth,
      holds_started it begun.0
          ∙ ap (λ l. pair_up l (unread_of it)) begun.1
          ∙ ap (pair_up (map busied r.list)) begun.2
          ∙ unread_pairs (map busied r.list)
          ∙ busy_pairs r.list,
    )

    -- so it holds what it is to, by why its readings didn't begin
    pub begun_list : (read : Option (Reading R E)) (why_not : Option NotStarted) (it : DirEntryIter C S P A L R E) → IfSome read (λ r. AtDepth 0 r.list) → IsBegun clone read why_not it → HoldsList clone read why_not it
    begun_list read None it depth begun = λ given counts. begun_holds given read it counts begun
    begun_list read (Some Busy) it depth begun = begun_busy read it depth begun
    begun_list read (Some Memory) it depth begun = begun_refused read it begun

  -- a crew's width is one
  crew_width : (it : DirEntryIter C S P A L R E) → by_crew it ≡ true → width_of it ≡ 1
  crew_width it by = width_by (reads_of it) by

  module _ (clone : Clone.Ghosts R) (read : Option (Reading R E)) (begun : Job C S P A R E) (it : DirEntryIter C S P A L R E) where
    -- a start at which memory ran out
    pub refused_from_root : by_crew it ≡ false → job_of it ≡ begun → is_refused it ≡ true → items_of it ≡ [] → unread_of it ≡ [] → width_of it ≡ options.width_of (options_of begun).parallelism → BeginsWith (unread_of it) (frontier_of it) (read_ahead it) → IsFromRoot clone read begun (Some Memory) it
    refused_from_root own job refused none nothing_unread width ahead =
        let refusal : IsRefused it = record { tells = holds_refusal it refused none; nothing_unread = nothing_unread } in
        record {
          job = job;
          within = rw none tt;
          sourced = refusal_sourced it refused none nothing_unread;
          placed = none_placed (items_of it) (unread_of it) nothing_unread;
          start = inl refusal;
          width = width;
          ahead = λ alone. ahead;
          holds = refusal;
          root = λ root. inl refusal;
          one = λ one. ap length refusal.tells;
          busy = λ is. absurd cc;
          by = λ is. absurd (let no : false ≡ true = sym own ∙ is in cc);
        }

    -- one that a crew is to read for
    pub by_from_root : (why_not : Option NotStarted) → (options_of begun).parallelism ≡ crew → IfSome read (λ r. AtDepth 0 r.list) → by_crew it ≡ true → job_of it ≡ begun → IsBegun clone read why_not it → IsFromRoot clone read begun why_not it
    by_from_root why_not mode depth by job is = record {
      job = job;
      within = within_root (greatest_depth (job_of it)) (items_of it) (begun_depth clone read why_not it depth is);
      sourced = begun_sourced clone read why_not it is;
      placed = begun_placed clone read why_not it is;
      start = inr (begun_depth clone read why_not it depth is);
      width = crew_width it by ∙ sym (ap options.width_of mode);
      ahead = λ alone. absurd (let no : false ≡ true = sym alone ∙ by in cc);
      holds = begun_list clone read why_not it depth is;
      root = begun_root clone read why_not it is;
      one = begun_one clone read why_not it is;
      busy = λ busy. mode;
      by = λ by. mode;
    }

    -- one that reads by itself
    pub alone_from_root : (why_not : Option NotStarted) → by_crew it ≡ false → ¬ (why_not ≡ Some Busy) → job_of it ≡ begun → IsWithin it → IsSourced it → IsPlaced it → IsRefused it ⊎ AtDepth 0 (items_of it) → width_of it ≡ options.width_of (options_of begun).parallelism → BeginsWith (unread_of it) (frontier_of it) (read_ahead it) → HoldsList clone read why_not it → (IfSome read (λ r. IsOfRoot r.list) → IsRefused it ⊎ IsOfRoot (items_of it)) → (IfSome read (λ r. length r.list ≡ 1) → length (held it) ≡ 1) → IsFromRoot clone read begun why_not it
    alone_from_root why_not own not_busy job within sourced placed start width ahead holds root one = record {
      job = job;
      within = within;
      sourced = sourced;
      placed = placed;
      start = start;
      width = width;
      ahead = λ alone. ahead;
      holds = holds;
      root = root;
      one = one;
      busy = λ is. absurd (not_busy is);
      by = λ is. absurd (let no : false ≡ true = sym own ∙ is in cc);
    }

-- what is said of a view is said of the value that is viewed
pub if_some_map : {X Y : Type 0} (view : X → Y) (P : Y → Type 0) (o : Option X) → IfSome o (λ x. P (view x)) → IfSome (option_map view o) P
if_some_map view P None h = h
if_some_map view P (Some x) h = h

some_and_map : {X Y : Type 0} (view : X → Y) (P : Y → Type 0) (o : Option X) → IsSomeAnd o (λ x. P (view x)) → IsSomeAnd (option_map view o) P
some_and_map view P None h = h
some_and_map view P (Some x) h = h

-- a walk that reads by itself and didn't run out of memory holds as many items as the root's list has
pub held_count : {C S P A L R E : Type 0} (read : Option (Reading R E)) (it : DirEntryIter C S P A L R E) → is_refused it ≡ false → IsSomeAnd read (λ r. items_of it ≡ r.list) → IfSome read (λ r. length r.list ≡ 1) → length (held it) ≡ 1
held_count None it started is one = absurd is
held_count (Some r) it started is one = ap length (holds_started it started) ∙ pairs_count (items_of it) (unread_of it) ∙ ap length is ∙ one

-- and the root's entry, or errors alone, if the list does
pub root_held : {C S P A L R E : Type 0} (read : Option (Reading R E)) (it : DirEntryIter C S P A L R E) → IsSomeAnd read (λ r. items_of it ≡ r.list) → IfSome read (λ r. IsOfRoot r.list) → IsOfRoot (items_of it)
root_held None it is root = absurd is
root_held (Some r) it is root = rw is root

pub list_of : {C S P A L R E : Type 0} (read : Option (ReadDir C A R E)) (it : DirEntryIter C S P A L R E) → IsSomeAnd read (λ r. items_of it ≡ (reading r).list) → IsSomeAnd (option_map reading read) (λ r. items_of it ≡ r.list)
list_of read it h = some_and_map reading (λ r. items_of it ≡ r.list) read h

pub held_of : {C S P A L R E : Type 0} (given : Given R E) (read : Option (ReadDir C A R E)) (it : DirEntryIter C S P A L R E) → IsSomeAnd read (λ r. held_by given it ≡ paired (counted_reading given (reading r))) → IsSomeAnd (option_map reading read) (λ r. held_by given it ≡ paired (counted_reading given r))
held_of given read it h = some_and_map reading (λ r. held_by given it ≡ paired (counted_reading given r)) read h

-- what is left of a root's list is paired with the directories that are to be read
pub left_placed : {C S P A R E : Type 0} (files : FileSystem.Ghosts S) (process : ProcessReadDir.Ghosts P C A R E) (clone : Clone.Ghosts R) (defaults : Default.Ghosts E) (base : Base C S P A R E) (r : Reading R E) (why_not : Option NotStarted) (items : List (Item R E)) (specs : List (Spec R)) → items ≡ left_of why_not r.list → IsToRead clone r why_not specs → ArePlaced (source_by files process clone defaults base).below items specs
left_placed files process clone defaults base r None items specs are clones = list_placed (source_by files process clone defaults base).copies (source_by files process clone defaults base).below (is_source_by files process clone defaults base).found_below r.state r.list items specs are clones
left_placed files process clone defaults base r (Some reason) items specs are none = unread_placed (source_by files process clone defaults base).copies (source_by files process clone defaults base).below (is_source_by files process clone defaults base).found_below items specs none

module _ {T C S P A L R E : Type 0} (old new : CrewReads C S P A L R E) where
  -- the directories of a root's list are to be read once the readings began, and none where they didn't
  pub left_to_read : (clone : Clone.Ghosts R) (r : Reading R E) (started : Result T NotStarted) → OnOk started (AreClones clone.is_clone (children r) (reads_by.to_read new)) → OnErr started (new ≡ old) → reads_by.to_read old ≡ [] → IsToRead clone r (result_err started) (reads_by.to_read new)
  left_to_read clone r (Ok done) clones same none = clones
  left_to_read clone r (Err why_not) clones same none = ap reads_by.to_read same ∙ none

  -- no more readings are ahead than the crew's limit allows, or than were before
  pub left_most : (most : L → ℕ) (limit : ℕ) (started : Result T NotStarted) → OnOk started (reads_by.most_ready most new.readers ≡ limit) → OnErr started (new ≡ old) → reads_by.most_ready most new.readers ≤ max (reads_by.most_ready most old.readers) limit
  left_most most limit (Ok done) is same = omega (arith, is)
  left_most most limit (Err why_not) is same = omega (arith, ap (λ (it : CrewReads C S P A L R E). reads_by.most_ready most it.readers) same)

  -- and the readings are steady either way
  pub left_steady : (files : FileSystem.Ghosts S) (process : ProcessReadDir.Ghosts P C A R E) (clone : Clone.Ghosts R) (defaults : Default.Ghosts E) (readers : Readers.Ghosts L C S P A R E) (started : Result T NotStarted) → OnOk started (reads_by.BeginsBy (reads_by.IsMadeFor readers) new) → OnErr started (new ≡ old)
      → reads_by.StartsSteady files process clone defaults readers old → reads_by.StartsSteady files process clone defaults readers new
  left_steady files process clone defaults readers (Ok done) begins same steady = starts_steady files process clone defaults readers new begins
  left_steady files process clone defaults readers (Err why_not) begins same steady = subst (reads_by.StartsSteady files process clone defaults readers) (sym same) steady
