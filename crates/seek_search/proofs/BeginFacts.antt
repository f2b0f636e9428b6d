-- What calls of a walk yield first is a beginning of the whole walk.
use Rattle.std.proofs.Common.{◌≡◌, ◌⊎◌, ◌∙◌, ℕ, zero, suc, Bool, true, false, cond, ◌||◌, List, [], ◌∷◌, ◌++◌, map, Option, Some, None, Result, Ok, Err, inl, inr, refl, sym, ap, subst}
use Rattle.std.specs.Iterator.{Yields}
use Rattle.std.specs.List.{list_any}
use Rattle.std.specs.declared.clone.Clone as Clone
use Rattle.std.specs.declared.default.Default as Default
use Rattle.jwalk.specs.jwalk_model.Counted.{Worth}
use Rattle.jwalk.specs.jwalk_model.Entry.{Children, Entry, Item}
use Rattle.jwalk.specs.jwalk_model.Error.{Failure, busy, memory}
use Rattle.jwalk.specs.jwalk_model.Held as held_value
use Rattle.jwalk.specs.jwalk_model.Held.{pair_up}
use Rattle.jwalk.specs.jwalk_model.Job.{reading, root_list}
use Rattle.jwalk.specs.jwalk_model.Listing.{Pair, answers, below, is_answered, levels_of, listing, nothing, pair, stands}
use Rattle.jwalk.specs.jwalk_model.Options.{Options}
use Rattle.jwalk.specs.jwalk_model.ReadDir.{Outcome, Spec}
use Rattle.jwalk.specs.jwalk_model.Walk.{whole_walk}
use Rattle.jwalk_model.proofs.HeldFacts.{alone}
use Rattle.jwalk.specs.jwalk_fs.declared.file_system.FileSystem as FileSystem
use Rattle.jwalk_job.specs.declared.process_read_dir.ProcessReadDir as ProcessReadDir
use Rattle.jwalk_job.specs.declared.dir_entry.DirEntry.{DirEntry}
use Rattle.jwalk_job.specs.declared.error.Error.{Error}
use Rattle.jwalk_job.specs.Error.{failure}
use Rattle.jwalk_job.specs.Given.{Given, counted_item, counted_list, counted_spec}
use Rattle.jwalk_job.specs.Job.{IsSteady, greatest_depth, job_by}
use Rattle.jwalk.specs.jwalk_readings.declared.readers.Readers as Readers
use Rattle.jwalk.specs.tree_crew.declared.crew.NotStarted.{NotStarted}
use Rattle.jwalk.specs.tree_crew.declared.crew.NotStarted.TheVariants.{Busy, Memory}
use Rattle.jwalk.specs.CrewStart.{busied, busy_pair}
use Rattle.jwalk.specs.ReadDirIter.{readings_by}
use Rattle.jwalk.specs.DirEntryIter.{Answers, DirEntryIter, IsRefused, IsSteadyWalk, NoneRefused, is_refused, items_of, job_of, min_depth_of, refusal, to_come, unread_of}
use Rattle.jwalk.specs.WalkDir.{HoldsUnless, NoneBusy, ReportsBusy, Starts, callback_of, file_system_of, job_for, options_of, root_of, state_of}
use Rattle.jwalk.specs.declared.walk_dir.WalkDirGeneric.{WalkDirGeneric}
use Rattle.jwalk.proofs.CleanFacts.{busy_by_value}
use Rattle.jwalk.proofs.FillFacts.{come}
use Rattle.jwalk.proofs.WholeFacts.{comes_whole, end_told}
use Rattle.seek_found.proofs.FirstFacts.{found_after, found_before}

-- none of the items reports a busy crew
abbrev AllFree : {R E : Type 0} → List (Item R E) → Type 0
AllFree [] = Unit {0}
AllFree (x ∷ l) = (¬ ReportsBusy x) × AllFree l

-- an item without a directory is left by a busy crew as it is; any other gives way to the error that says so
plain_with : {R E : Type 0} (state : R) (e : Entry R E) (children : Option (Children R)) → e.read_children ≡ children → (busy_pair (Ok e) ≡ pair state (Ok e)) ⊎ (busied (Ok e) ≡ Err busy)
plain_with state e None is = inl (rw is refl)
plain_with state e (Some c) is = inr (rw is refl)

plain_or_busy : {R E : Type 0} (state : R) (x : Item R E) → (busy_pair x ≡ pair state x) ⊎ (busied x ≡ Err busy)
plain_or_busy state (Err f) = inl refl
plain_or_busy state (Ok e) = plain_with state e e.read_children refl

module _ {R E : Type 0} (least : ℕ) where
  -- the answers of one list and then of another
  answers_then : (a b : List (Item R E)) → answers least (a ++ b) ≡ answers least a ++ answers least b
  answers_then [] b = refl
  answers_then (x ∷ a) b =
      elim (is_answered least x) as (λ c. cond c (x ∷ answers least (a ++ b)) (answers least (a ++ b)) ≡ cond c (x ∷ answers least a) (answers least a) ++ answers least b) [
        | true ↦ ap (λ l. x ∷ l) (answers_then a b)
        | false ↦ answers_then a b
      ]

  module _ (f : Item R E → Bool) where
    -- if one is found among answers, one is found where others follow the first item
    found_head : (y : Item R E) (a b : List (Item R E)) → (list_any f (answers least a) ≡ true → list_any f (answers least b) ≡ true) → list_any f (answers least (y ∷ a)) ≡ true → list_any f (answers least (y ∷ b)) ≡ true
    found_head y a b more =
        let first = answers least a in
        let second = answers least b in
        elim (is_answered least y) as (λ c. list_any f (cond c (y ∷ first) first) ≡ true → list_any f (cond c (y ∷ second) second) ≡ true) [
          | true ↦ elim (f y) as (λ h. (h || list_any f first) ≡ true → (h || list_any f second) ≡ true) [ true ↦ λ _. refl | false ↦ more ]
          | false ↦ more
        ]

  -- if answers begin with some, so do those where others follow the first item
  begins_head : (y x : Item R E) (a b xs rest : List (Item R E)) → ((zs : List (Item R E)) → AllFree zs → answers least a ≡ zs ++ rest → (r : List (Item R E)) × (zs ++ r ≡ answers least b)) → AllFree (x ∷ xs) → answers least (y ∷ a) ≡ x ∷ xs ++ rest
      → (r : List (Item R E)) × (x ∷ xs ++ r ≡ answers least (y ∷ b))
  begins_head y x a b xs rest more free =
      let first = answers least a in
      let second = answers least b in
      elim (is_answered least y) as (λ c. cond c (y ∷ first) first ≡ x ∷ xs ++ rest → (r : List (Item R E)) × (x ∷ xs ++ r ≡ cond c (y ∷ second) second)) [
        | true ↦ λ is.
            let same : y ≡ x = cc in
            let others : first ≡ xs ++ rest = cc in
            let next = more xs free.1 others in
            (next.0, ap (λ l. x ∷ l) next.1 ∙ ap (λ z. z ∷ second) (sym same))
        | false ↦ λ is. more (x ∷ xs) free is
      ]

module _ {R E : Type 0} (read : Spec R → Outcome R E) (least most : ℕ) (state : R) where
  nothing_below : (n : ℕ) → below read n nothing ≡ []
  unfolding below
  nothing_below zero = refl
  nothing_below (suc n) = refl

  abbrev whole_of : List (Item R E) → List (Item R E)
  whole_of l = listing read most (map (pair state) l)

  -- an item, and what is listed below it
  abbrev own_of : Item R E → List (Item R E)
  own_of x = let p : Pair R E = pair state x in stands read p.item p.source ∷ below read (levels_of most p.source) p.source

  -- an item without a directory is listed alone
  listed_alone : (x : Item R E) (l : List (Item R E)) → busy_pair x ≡ pair state x → whole_of (x ∷ l) ≡ busied x ∷ whole_of l
  listed_alone x l is = ap (λ p. listing read most (p ∷ map (pair state) l)) (sym is) ∙ ap (λ m. busied x ∷ m ++ whole_of l) (nothing_below 0)

  -- where the crew was busy, nothing is listed below the items
  listed_busy : (l : List (Item R E)) → listing read most (map busy_pair l) ≡ map busied l
  listed_busy [] = refl
  listed_busy (x ∷ l) = ap (λ m. busied x ∷ m ++ listing read most (map busy_pair l)) (nothing_below 0) ∙ ap (λ m. busied x ∷ m) (listed_busy l)

  -- what is found among what a busy crew leaves of a list is found in all that is listed
  found_listed : (f : Item R E → Bool) → f (Err busy) ≡ false → (l : List (Item R E)) → list_any f (answers least (map busied l)) ≡ true → list_any f (answers least (whole_of l)) ≡ true
  found_listed f none [] found = found
  found_listed f none (x ∷ l) found = elim (plain_or_busy state x) [
    | inl plain ↦
        subst (λ m. list_any f (answers least m) ≡ true) (sym (listed_alone x l plain)) (found_head least f (busied x) (map busied l) (whole_of l) (found_listed f none l) found)
    | inr is ↦
        let others : list_any f (answers least (map busied l)) ≡ true
        = sym (ap (λ y. list_any f (answers least (y ∷ map busied l))) is ∙ ap (λ b. b || list_any f (answers least (map busied l))) none) ∙ found in
        ap (list_any f) (answers_then least (own_of x) (whole_of l)) ∙ found_after f (answers least (own_of x)) (answers least (whole_of l)) (found_listed f none l others)
  ]

  -- what such answers begin with is a beginning of all that is listed, unless one of it reports the busy crew
  begins_listed : (l xs rest : List (Item R E)) → AllFree xs → answers least (map busied l) ≡ xs ++ rest → (r : List (Item R E)) × (xs ++ r ≡ answers least (whole_of l))
  begins_listed l [] rest free is = (answers least (whole_of l), refl)
  begins_listed [] (x ∷ xs) rest free is = absurd (cc)
  begins_listed (y ∷ l) (x ∷ xs) rest free is = elim (plain_or_busy state y) [
    | inl plain ↦
        let begins = begins_head least (busied y) x (map busied l) (whole_of l) xs rest (λ zs. begins_listed l zs rest) free is in
        (begins.0, begins.1 ∙ ap (answers least) (sym (listed_alone y l plain)))
    | inr busy_one ↦
        let told : Err busy ∷ answers least (map busied l) ≡ x ∷ xs ++ rest = sym (ap (λ z. answers least (z ∷ map busied l)) busy_one) ∙ is in
        let first : Err busy ≡ x = cc in
        absurd (free.0 (subst ReportsBusy first refl))
  ]

abbrev first_item : {R E : Type 0} → List (Pair R E) → Item R E
first_item [] = Err memory
first_item (p ∷ held) = p.item

refused_by : {R E : Type 0} (given : Given R E) (b : Bool) (items : List (Item R E)) (specs : List (Spec R)) → ◌≡◌ {A = List (Pair R E)} (refusal b ++ pair_up items specs) (record { item = Err memory; source = nothing } ∷ []) → ◌≡◌ {A = List (Pair Worth Worth)} (refusal b ++ pair_up (map (counted_item given) items) (map (counted_spec given) specs)) (record { item = Err memory; source = nothing } ∷ [])
refused_by given true [] specs is = refl
refused_by given true (x ∷ items) specs is = absurd cc
refused_by given false [] specs is = absurd cc
refused_by {R} {E} given false (Ok e ∷ items) specs is = absurd (let no : ◌≡◌ {A = Item R E} (Ok e) (Err memory) = ap first_item is in cc)
refused_by {R} {E} given false (Err f ∷ []) specs is =
    let same : ◌≡◌ {A = Item R E} (Err f) (Err memory) = ap first_item is in
    let told : f ≡ memory = cc in
    let one : Failure → List (Pair Worth Worth) = λ g. record { item = Err g; source = nothing } ∷ [] in
    ap one told
refused_by given false (Err f ∷ x ∷ items) specs is = absurd cc

module _ {C A R E : Type 0} (given : Given R E) where
  counted_free : (xs : List (Result (DirEntry C A R E) (Error A))) → NoneBusy xs → AllFree (counted_list given xs)
  counted_free [] free = tt
  counted_free (Ok e ∷ xs) free = (λ is. is, counted_free xs free.1)
  counted_free (Err f ∷ xs) free = (free.0, counted_free xs free.1)

  -- the error that says that memory ran out isn't the first of answers that don't say so
  none_first : (xs : List (Result (DirEntry C A R E) (Error A))) (rest : List (Item Worth Worth)) → NoneRefused xs → Err memory ∷ [] ≡ counted_list given xs ++ rest → counted_list given xs ≡ []
  none_first [] rest none is = refl
  none_first (Ok e ∷ xs) rest none is = absurd cc
  none_first (Err f ∷ xs) rest none is = let told : failure f ≡ memory = cc in absurd (none.0 told)

module _ {C S P A W L R E : Type 0} (files : FileSystem.Ghosts S) (process : ProcessReadDir.Ghosts P C A R E) (clone : Clone.Ghosts R) (defaults : Default.Ghosts E) (readers : Readers.Ghosts L C S P A R E) (given : Given R E) (walk : WalkDirGeneric C S P A W R E) (it : DirEntryIter C S P A L R E) (starts : Starts walk it) (steady : IsSteady files process clone defaults (file_system_of walk) (callback_of walk) given) where
  abbrev whole_here : List (Item Worth Worth)
  whole_here = whole_walk (job_for files given walk) (root_of walk) (given.read_dir_state (state_of walk))

  abbrev list_here : List (Item Worth Worth)
  list_here = (root_list (job_for files given walk) (root_of walk) (given.read_dir_state (state_of walk))).list

  refused_comes : IsRefused it → to_come files given it ≡ Err memory ∷ []
  refused_comes refused =
      ap (held_value.to_come (reading (job_by files given (job_of it))) (min_depth_of it) (greatest_depth (job_of it))) (refused_by given (is_refused it) (items_of it) (unread_of it) refused.tells)
      ∙ ap (answers (min_depth_of it)) (alone (reading (job_by files given (job_of it))) (greatest_depth (job_of it)) (Err memory) [] [] refl)

  -- what comes of a walk whose crew was busy, beside the whole walk
  busy_comes : HoldsUnless files process clone defaults (Some Busy) walk it → to_come files given it ≡ answers (options_of walk).min_depth (map busied list_here)
  busy_comes left =
      ap (held_value.to_come (reading (job_by files given (job_of it))) (min_depth_of it) (greatest_depth (job_of it))) (busy_by_value files process clone defaults walk it left given steady)
      ∙ ap (answers (min_depth_of it)) (listed_busy (reading (job_by files given (job_of it))) 0 (greatest_depth (job_of it)) (given.read_dir_state (state_of walk)) list_here)
      ∙ ap (λ (o : Options). answers o.min_depth (map busied list_here)) starts.options

  whole_listed : whole_here ≡ answers (options_of walk).min_depth (whole_of (reading (job_for files given walk)) 0 (options_of walk).max_depth (root_list (job_for files given walk) (root_of walk) (given.read_dir_state (state_of walk))).state list_here)
  unfolding whole_walk
  whole_listed = refl

  begins_unless : (why_not : Option NotStarted) → HoldsUnless files process clone defaults why_not walk it → (xs : List (Result (DirEntry C A R E) (Error A))) (rest : List (Item Worth Worth)) → NoneRefused xs → NoneBusy xs → to_come files given it ≡ counted_list given xs ++ rest
      → (r : List (Item Worth Worth)) × (counted_list given xs ++ r ≡ whole_here)
  begins_unless None holds xs rest none free came = (rest, sym came ∙ comes_whole files process clone defaults readers given walk it starts (holds given steady))
  begins_unless (Some Memory) refused xs rest none free came =
      (whole_here, ap (λ l. l ++ whole_here) (none_first given xs rest none (sym (refused_comes refused) ∙ came)))
  begins_unless (Some Busy) left xs rest none free came =
      let begins = begins_listed (reading (job_for files given walk)) (options_of walk).min_depth (options_of walk).max_depth (root_list (job_for files given walk) (root_of walk) (given.read_dir_state (state_of walk))).state list_here (counted_list given xs) rest (counted_free given xs free) (sym (busy_comes left) ∙ came) in
      (begins.0, begins.1 ∙ sym whole_listed)

  -- What calls of a walk yield that was begun, or whose crew was busy, is a beginning of the whole walk, unless an item
  -- reports that memory ran out or that the crew was busy.
  pub begins_whole : (why_not : Option NotStarted) → HoldsUnless files process clone defaults why_not walk it → IsSteadyWalk files process clone defaults readers it given
      → (xs : List (Result (DirEntry C A R E) (Error A))) (end : DirEntryIter C S P A L R E) → Yields (Answers files process clone defaults readers) it xs end → NoneRefused xs → NoneBusy xs → (r : List (Item Worth Worth)) × (counted_list given xs ++ r ≡ whole_here)
  begins_whole why_not holds steadily xs end calls none free =
      elim (come (readings_by files process clone defaults readers) given xs it end steadily calls) [
        | inl comes ↦ begins_unless why_not holds xs (to_come files given end) none free comes
        | inr ends ↦ absurd (end_told xs ends.before ends.told none)
      ]

  module _ (f : Item Worth Worth → Bool) (none : (k : Failure) → f (Err k) ≡ false) where
    found_unless : (why_not : Option NotStarted) → HoldsUnless files process clone defaults why_not walk it → list_any f (to_come files given it) ≡ true → list_any f whole_here ≡ true
    found_unless None holds found = ap (list_any f) (sym (comes_whole files process clone defaults readers given walk it starts (holds given steady))) ∙ found
    found_unless (Some Memory) refused found =
        let no : false ≡ true = sym (ap (list_any f) (refused_comes refused) ∙ ap (λ b. b || false) (none memory)) ∙ found in absurd (cc)
    found_unless (Some Busy) left found =
        ap (list_any f) whole_listed
        ∙ found_listed (reading (job_for files given walk)) (options_of walk).min_depth (options_of walk).max_depth (root_list (job_for files given walk) (root_of walk) (given.read_dir_state (state_of walk))).state f (none busy) list_here (sym (ap (list_any f) (busy_comes left)) ∙ found)

    -- what is found in front of the error that says that memory ran out
    found_told : (before : List (Item R E)) → list_any f (map (counted_item given) (before ++ Err memory ∷ [])) ≡ true → list_any f (map (counted_item given) before) ≡ true
    found_told [] found = let no : false ≡ true = sym (ap (λ b. b || false) (none memory)) ∙ found in absurd (cc)
    found_told (x ∷ before) found =
        let here = f (counted_item given x) in
        elim here as (λ h. (h || list_any f (map (counted_item given) (before ++ Err memory ∷ []))) ≡ true → (h || list_any f (map (counted_item given) before)) ≡ true) [
          | true ↦ λ _. refl
          | false ↦ found_told before
        ] found

    -- What is no error and is found among what calls of such a walk yield is found in the whole walk.
    pub found_in_whole : (why_not : Option NotStarted) → HoldsUnless files process clone defaults why_not walk it → IsSteadyWalk files process clone defaults readers it given
        → (xs : List (Result (DirEntry C A R E) (Error A))) (end : DirEntryIter C S P A L R E) → Yields (Answers files process clone defaults readers) it xs end → list_any f (counted_list given xs) ≡ true → list_any f whole_here ≡ true
    found_in_whole why_not holds steadily xs end calls found =
        found_unless why_not holds (elim (come (readings_by files process clone defaults readers) given xs it end steadily calls) [
          | inl comes ↦ ap (list_any f) comes ∙ found_before f (counted_list given xs) (to_come files given end) found
          | inr ends ↦
              let told : list_any f (map (counted_item given) (ends.before ++ Err memory ∷ [])) ≡ true = ap (λ l. list_any f (map (counted_item given) l)) (sym ends.told) ∙ found in
              ap (list_any f) ends.beginning ∙ found_before f (map (counted_item given) ends.before) ends.missed (found_told ends.before told)
        ])
