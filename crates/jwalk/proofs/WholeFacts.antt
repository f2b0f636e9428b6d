-- What a walk yields from its beginning to its end.
use Rattle.std.proofs.Common.{◌≡◌, ◌<◌, ◌⊎◌, ◌∙◌, ℕ, ◌+◌, Bool, true, false, List, [], ◌∷◌, ◌++◌, map, length, append-nil, Result, Ok, Err, is_ok, inl, inr, refl, sym, ap, subst, arith}
use lib.ListN.{length-append}
use Rattle.std.specs.Iterator.{Drains}
use Rattle.std.specs.List.{list_all}
use Rattle.std.specs.declared.clone.Clone as Clone
use Rattle.std.specs.declared.default.Default as Default
use Rattle.jwalk_model.specs.FileSystem.{Functions}
use Rattle.jwalk_model.specs.Error.{Failure, memory}
use Rattle.jwalk_model.specs.Entry.{Item}
use Rattle.jwalk_model.specs.Options.{Options}
use Rattle.jwalk_model.specs.ReadDir.{Spec}
use Rattle.jwalk_model.specs.Counted.{Worth}
use Rattle.jwalk_model.specs.Listing.{Pair, nothing, paired, answers}
use Rattle.jwalk_model.specs.Held as held_value
use Rattle.jwalk_model.specs.Held.{pair_up}
use Rattle.jwalk_model.specs.Job as value
use Rattle.jwalk_model.specs.Job.{reading, root_list}
use Rattle.jwalk_model.specs.Walk.{whole_walk, stateless_walk}
use Rattle.jwalk_model.proofs.HeldFacts.{alone}
use Rattle.jwalk_fs.specs.declared.file_system.FileSystem as FileSystem
use Rattle.jwalk_job.specs.declared.process_read_dir.ProcessReadDir as ProcessReadDir
use Rattle.jwalk_job.specs.declared.error.Error.{Error}
use Rattle.jwalk_job.specs.declared.dir_entry.DirEntry.{DirEntry}
use Rattle.jwalk_job.specs.Error.{failure}
use Rattle.jwalk_job.specs.Entry.{item}
use Rattle.jwalk_job.specs.Given.{Given, counted_item, counted_spec, counted_list}
use Rattle.jwalk_job.specs.Job.{options_of, greatest_depth, job_by, IsSteady}
use Rattle.jwalk_readings.specs.declared.readers.Readers as Readers
use Rattle.jwalk.specs.declared.walk_dir.WalkDirGeneric.{WalkDirGeneric}
use Rattle.jwalk_iter.specs.DirEntryIter.{DirEntryIter, by_crew, is_refused, job_of, min_depth_of, items_of, unread_of, held, held_by, refusal, to_come, TellsMemory, NoneRefused, IsRefused, StartsSteady, IsSteadyWalk, Answers, Fills}
use Rattle.jwalk.specs.WalkDir as builder
use Rattle.jwalk.specs.WalkDir.{file_system_of, callback_of, root_of, state_of, job_for, Starts, Holds}
use Rattle.jwalk_readings.specs.ReadDirIter.{readings_by}
use Rattle.jwalk_iter.proofs.AnswerFacts.{held_by_nothing}
use Rattle.jwalk_iter.proofs.StartFacts.{alone_steady}
use Rattle.jwalk_iter.proofs.FillFacts.{stays_steady, come}

module _ {C A R E : Type 0} where
  -- answers that end with the error that says that memory ran out say so
  pub end_told : (xs : List (Result (DirEntry C A R E) (Error A))) (before : List (Item R E)) → map item xs ≡ before ++ Err memory ∷ [] → NoneRefused xs → ⊥
  end_told [] [] is none = absurd cc
  end_told [] (b ∷ before) is none = absurd cc
  end_told (x ∷ xs) [] is none = let told : Err memory ≡ item x = cc in none.0 (subst TellsMemory told refl)
  end_told (x ∷ xs) (b ∷ before) is none = let rest : map item xs ≡ before ++ Err memory ∷ [] = cc in end_told xs before rest none.1

  -- entries don't say so
  pub entries_tell : (xs : List (Result (DirEntry C A R E) (Error A))) → list_all is_ok xs ≡ true → NoneRefused xs
  entries_tell [] all = tt
  entries_tell (Ok e ∷ xs) all = (λ is. is, entries_tell xs all)
  entries_tell (Err f ∷ xs) all = let no : false ≡ true = all in cc

  -- where none of two lists, one behind the other, says so, none of the second does
  last_tell : (before xs : List (Result (DirEntry C A R E) (Error A))) → NoneRefused (before ++ xs) → NoneRefused xs
  last_tell [] xs none = none
  last_tell (b ∷ before) xs none = last_tell before xs none.1

-- two lists one behind the other, as they count
counted_append : {C A R E : Type 0} (given : Given R E) (before xs : List (Result (DirEntry C A R E) (Error A))) → counted_list given (before ++ xs) ≡ counted_list given before ++ counted_list given xs
counted_append given [] xs = refl
counted_append given (b ∷ before) xs = ap (λ l. counted_item given (item b) ∷ l) (counted_append given before xs)

abbrev first_item : {R E : Type 0} → List (Pair R E) → Item R E
first_item [] = Err memory
first_item (p ∷ held) = p.item

refused_by : {R E : Type 0} (given : Given R E) (b : Bool) (items : List (Item R E)) (specs : List (Spec R)) → ◌≡◌ {A = List (Pair R E)} (refusal b ++ pair_up items specs) (record { item = Err memory; source = nothing } ∷ []) → ◌≡◌ {A = List (Pair Worth Worth)} (refusal b ++ pair_up (map (counted_item given) items) (map (counted_spec given) specs)) (record { item = Err memory; source = nothing } ∷ [])
refused_by given true [] specs is = refl
refused_by given true (x ∷ items) specs is = absurd cc
refused_by given false [] specs is = absurd cc
refused_by {R} {E} given false (Ok e ∷ items) specs is = absurd (let no : ◌≡◌ {A = Item R E} (Ok e) (Err memory) = ap first_item is in cc)
refused_by {R} {E} given false (Err f ∷ []) specs is =
    let same : ◌≡◌ {A = Item R E} (Err f) (Err memory) = ap first_item is in
    let told : f ≡ memory = cc in
    let one : Failure → List (Pair Worth Worth) = λ g. record { item = Err g; source = nothing } ∷ [] in
    ap one told
refused_by given false (Err f ∷ x ∷ items) specs is = absurd cc

-- what counts as the one answer that says that memory ran out is that answer
refusal_among : {C A R E : Type 0} (given : Given R E) (xs : List (Result (DirEntry C A R E) (Error A))) → counted_list given xs ≡ Err memory ∷ [] → NoneRefused xs → ⊥
refusal_among given [] is none = absurd cc
refusal_among given (Ok e ∷ xs) is none = absurd cc
refusal_among given (Err f ∷ xs) is none = let told : failure f ≡ memory = cc in none.0 told

module _ {C S P A L R E : Type 0} (files : FileSystem.Ghosts S) (process : ProcessReadDir.Ghosts P C A R E) (clone : Clone.Ghosts R) (defaults : Default.Ghosts E) (readers : Readers.Ghosts L C S P A R E) (given : Given R E) where
  -- a walk that ran out of memory at its start yields the error that says so, and nothing else
  to_come_refused : (it : DirEntryIter C S P A L R E) → IsRefused it → to_come files given it ≡ Err memory ∷ []
  to_come_refused it refused =
      ap (held_value.to_come (reading (job_by files given (job_of it))) (min_depth_of it) (greatest_depth (job_of it))) (refused_by given (is_refused it) (items_of it) (unread_of it) refused.tells)
      ∙ ap (answers (min_depth_of it)) (alone (reading (job_by files given (job_of it))) (greatest_depth (job_of it)) (Err memory) [] [] refl)

  -- calls up to `None` yield all that was to come, unless one of them says that memory ran out
  pub all_answered : (xs : List (Result (DirEntry C A R E) (Error A))) (it : DirEntryIter C S P A L R E) → IsSteadyWalk files process clone defaults readers it given → Drains (Answers files process clone defaults readers) it xs → NoneRefused xs → to_come files given it ≡ counted_list given xs
  all_answered xs it steady drains none =
      let last = drains.1.0 in
      let calls = drains.1.1 in
      let ended = drains.1.2 in
      let nothing_left : to_come files given last ≡ [] = ended.coming given (stays_steady (readings_by files process clone defaults readers) given xs it last calls steady) in
      elim (come (readings_by files process clone defaults readers) given xs it last steady calls) [
        | inl comes ↦ comes ∙ ap (λ l. counted_list given xs ++ l) nothing_left ∙ append-nil (counted_list given xs)
        | inr ends ↦ absurd (end_told xs ends.before ends.told none)
      ]

  -- A call of `fill` that returns less than it was asked for leaves all that was to come in the vector, behind what was there before. Or an answer says that memory ran out.
  pub all_filled : (n k : ℕ) (before after : List (Result (DirEntry C A R E) (Error A))) (it new : DirEntryIter C S P A L R E) → IsSteadyWalk files process clone defaults readers it given → Fills files process clone defaults readers n it before (Ok k) after new → k < n → NoneRefused after
      → counted_list given after ≡ counted_list given before ++ to_come files given it
  all_filled n k before after it new steady fills fewer none =
      let ended : held new ≡ [] = elim fills.all [ inl all ↦ absurd (omega (arith, all, fewer)) | inr over ↦ over ] in
      let coming : List (Pair Worth Worth) → List (Item Worth Worth) = held_value.to_come (reading (job_by files given (job_of new))) (min_depth_of new) (greatest_depth (job_of new)) in
      let nothing_left : to_come files given new ≡ [] = ap coming (held_by_nothing given (unread_of new) new ended) in
      let came : to_come files given it ≡ counted_list given fills.answered = elim (fills.coming given steady) [
        | inl comes ↦ comes ∙ ap (λ l. counted_list given fills.answered ++ l) nothing_left ∙ append-nil (counted_list given fills.answered)
        | inr ends ↦ absurd (end_told fills.answered ends.before ends.told (last_tell before fills.answered (subst NoneRefused fills.appended none)))
      ] in
      ap (counted_list given) fills.appended
      ∙ counted_append given before fills.answered
      ∙ ap (λ l. counted_list given before ++ l) (sym came)

  -- What a call of `fill` put into an empty vector, fewer items than were asked for, is all that was to come, unless one of them reports that memory ran out.
  pub filled_came : (it new : DirEntryIter C S P A L R E) (n k : ℕ) (before xs : List (Result (DirEntry C A R E) (Error A))) → IsSteadyWalk files process clone defaults readers it given → Fills files process clone defaults readers n it before (Ok k) xs new → before ≡ [] → length xs < n → NoneRefused xs → to_come files given it ≡ counted_list given xs
  filled_came it new n k before xs steadily fills empty fewer none =
      let among : length xs ≡ length before + length fills.answered = ap length fills.appended ∙ length-append before fills.answered in
      let filled = all_filled n k before xs it new steadily fills (omega (arith, among, fewer, fills.number.0)) none in
      sym (filled ∙ ap (λ l. counted_list given l ++ to_come files given it) empty)

module _ {C S P A W L R E : Type 0} (files : FileSystem.Ghosts S) (process : ProcessReadDir.Ghosts P C A R E) (clone : Clone.Ghosts R) (defaults : Default.Ghosts E) (readers : Readers.Ghosts L C S P A R E) (given : Given R E) where
  -- where the root's list is held, the whole walk is to come
  pub comes_whole : (walk : WalkDirGeneric C S P A W R E) (it : DirEntryIter C S P A L R E) → Starts walk it → held_by given it ≡ paired (root_list (job_for files given walk) (root_of walk) (given.read_dir_state (state_of walk))) → to_come files given it ≡ whole_walk (job_for files given walk) (root_of walk) (given.read_dir_state (state_of walk))
  unfolding whole_walk
  comes_whole walk it starts holds =
      let over : S → Options → value.Job Worth Worth = λ fs options. record { fs = files.functions fs; options = options; processed = given.processed; default = given.new_entry } in
      let coming : S → Options → List (Pair Worth Worth) → List (Item Worth Worth) = λ fs options held. held_value.to_come (reading (over fs options)) options.min_depth options.max_depth held in
      ap (λ fs. coming fs (options_of (job_of it)) (held_by given it)) starts.file_system
      ∙ ap (λ options. coming (file_system_of walk) options (held_by given it)) starts.options
      ∙ ap (coming (file_system_of walk) (builder.options_of walk)) holds

  -- A walk that was begun yielded the whole walk from its root, if its answers are all that was to come, and none says that memory ran out.
  pub answered_whole : (walk : WalkDirGeneric C S P A W R E) (it : DirEntryIter C S P A L R E) (xs : List (Result (DirEntry C A R E) (Error A))) → Starts walk it → IsRefused it ⊎ Holds files process clone defaults walk it → IsSteady files process clone defaults (file_system_of walk) (callback_of walk) given → NoneRefused xs → to_come files given it ≡ counted_list given xs
      → counted_list given xs ≡ whole_walk (job_for files given walk) (root_of walk) (given.read_dir_state (state_of walk))
  answered_whole walk it xs starts begun steady none came =
      elim begun [
        | inl refused ↦ absurd (refusal_among given xs (sym came ∙ to_come_refused files process clone defaults readers given it refused) none)
        | inr holds ↦ sym came ∙ comes_whole walk it starts (holds given steady)
      ]

  -- a walk that starts steady is steady, if it was begun over what is steady
  pub steady_begun : (walk : WalkDirGeneric C S P A W R E) (it : DirEntryIter C S P A L R E) → StartsSteady files process clone defaults readers it → Starts walk it → IsSteady files process clone defaults (file_system_of walk) (callback_of walk) given → IsSteadyWalk files process clone defaults readers it given
  steady_begun walk it steadily starts steady = steadily given (rw (starts.file_system, starts.callback) steady)

  -- and so is one that no crew reads for
  pub steady_start : (walk : WalkDirGeneric C S P A W R E) (it : DirEntryIter C S P A L R E) → by_crew it ≡ false → Starts walk it → IsSteady files process clone defaults (file_system_of walk) (callback_of walk) given → IsSteadyWalk files process clone defaults readers it given
  steady_start walk it own starts steady = steady_begun walk it (λ value steadily. alone_steady files process clone defaults readers it value own steadily (starts.ahead own).done) starts steady

  -- A walk that was begun and called up to `None`, where no answer says that memory ran out, yields the whole walk from its root.
  pub whole : (walk : WalkDirGeneric C S P A W R E) (it : DirEntryIter C S P A L R E) (xs : List (Result (DirEntry C A R E) (Error A))) → IsSteadyWalk files process clone defaults readers it given → Starts walk it → IsRefused it ⊎ Holds files process clone defaults walk it → IsSteady files process clone defaults (file_system_of walk) (callback_of walk) given → Drains (Answers files process clone defaults readers) it xs → NoneRefused xs
      → counted_list given xs ≡ whole_walk (job_for files given walk) (root_of walk) (given.read_dir_state (state_of walk))
  whole walk it xs steadily starts begun steady drains none =
      answered_whole walk it xs starts begun steady none (all_answered files process clone defaults readers given xs it steadily drains none)

  -- A walk is begun and filled into an empty vector, with fewer answers than were asked for. It yields the whole walk from its root, unless an answer says that memory ran out.
  pub filled_whole : (walk : WalkDirGeneric C S P A W R E) (it new : DirEntryIter C S P A L R E) (n k : ℕ) (before xs : List (Result (DirEntry C A R E) (Error A))) → IsSteadyWalk files process clone defaults readers it given → Starts walk it → IsRefused it ⊎ Holds files process clone defaults walk it → IsSteady files process clone defaults (file_system_of walk) (callback_of walk) given → Fills files process clone defaults readers n it before (Ok k) xs new → before ≡ [] → length xs < n → NoneRefused xs
      → counted_list given xs ≡ whole_walk (job_for files given walk) (root_of walk) (given.read_dir_state (state_of walk))
  filled_whole walk it new n k before xs steadily starts begun steady fills empty fewer none =
      answered_whole walk it xs starts begun steady none (filled_came files process clone defaults readers given it new n k before xs steadily fills empty fewer none)

  -- the same for one that no crew reads for
  pub whole_filled : (walk : WalkDirGeneric C S P A W R E) (it new : DirEntryIter C S P A L R E) (n k : ℕ) (before xs : List (Result (DirEntry C A R E) (Error A))) → by_crew it ≡ false → Starts walk it → IsRefused it ⊎ Holds files process clone defaults walk it → IsSteady files process clone defaults (file_system_of walk) (callback_of walk) given → Fills files process clone defaults readers n it before (Ok k) xs new → before ≡ [] → length xs < n → NoneRefused xs
      → counted_list given xs ≡ whole_walk (job_for files given walk) (root_of walk) (given.read_dir_state (state_of walk))
  whole_filled walk it new n k before xs own starts begun steady fills empty fewer none =
      filled_whole walk it new n k before xs (steady_start walk it own starts steady) starts begun steady fills empty fewer none

-- what a walk with no callback yields depends on the file system, the options and the root that its builder was given
pub stateless_of : {C S P A W R E : Type 0} (functions : S → Functions) (walk : WalkDirGeneric C S P A W R E) (fs : S) (options : Options) (root : List ℕ) → file_system_of walk ≡ fs → builder.options_of walk ≡ options → root_of walk ≡ root
    → stateless_walk (functions (file_system_of walk)) (builder.options_of walk) (root_of walk) ≡ stateless_walk (functions fs) options root
stateless_of functions walk fs options root fs_is options_are root_is =
    ap (λ f. stateless_walk (functions f) (builder.options_of walk) (root_of walk)) fs_is
    ∙ ap (λ o. stateless_walk (functions fs) o (root_of walk)) options_are
    ∙ ap (stateless_walk (functions fs) options) root_is
