-- Subtotals of all that a walk yields.
use Rattle.std.proofs.Common.{◌≡◌, ◌∙◌, true, false, List, [], ◌∷◌, ◌++◌, map, Option, Some, None, Result, Ok, Err, is_ok, ap, refl, subst, sym}
use Rattle.std.specs.Prelude.{flat_map}
use Rattle.std.specs.Iterator.{Drains, Yields, YieldsThen}
use Rattle.std.specs.List.{list_all, list_any}
use Rattle.std.specs.declared.clone.Clone as Clone
use Rattle.std.specs.declared.default.Default as Default
use Rattle.jwalk.specs.jwalk_model.Walk.{whole_walk}
use Rattle.jwalk.specs.jwalk_fs.declared.file_system.FileSystem as FileSystem
use Rattle.jwalk.specs.jwalk_job.declared.dir_entry.DirEntry.{DirEntry}
use Rattle.jwalk.specs.jwalk_job.declared.error.Error.{Error}
use Rattle.jwalk.specs.jwalk_job.declared.process_read_dir.ProcessReadDir as ProcessReadDir
use Rattle.jwalk.specs.jwalk_job.Entry.{item}
use Rattle.jwalk.specs.jwalk_job.Given.{Given}
use Rattle.jwalk.specs.jwalk_job.Job.{IsSteady}
use Rattle.jwalk.specs.jwalk_readings.declared.readers.Readers as Readers
use Rattle.jwalk.specs.DirEntryIter.{DirEntryIter}
use Rattle.jwalk.specs.jwalk_iter.DirEntryIter.{Answers, StartsSteady}
use Rattle.jwalk.specs.tree_crew.declared.crew.NotStarted.{NotStarted}
use Rattle.jwalk.specs.WalkDir.{HoldsUnless, Starts, callback_of, file_system_of, job_for, root_of, state_of}
use Rattle.jwalk.specs.declared.walk_dir.WalkDirGeneric.{WalkDirGeneric}
use Rattle.jwalk.proofs.CleanFacts.{clean_whole}
use Rattle.jwalk.proofs.WholeFacts.{steady_begun}
use Rattle.jwalk_subtotals.specs.Coming.{Gives, IsFresh, answers_of, ends_with, options_of, value}
use Rattle.jwalk_subtotals.specs.Subtotals.{subtotals, yielded_by}
use Rattle.jwalk_subtotals.specs.declared.error.SubtotalError.{SubtotalError}
use Rattle.jwalk_subtotals.specs.declared.iter.Subtotals.{Subtotals}
use Rattle.jwalk_subtotals.specs.declared.stack.WithSubtotal.{WithSubtotal}
use Rattle.jwalk_subtotals.proofs.ErrorFacts.{entries_alone}
use Rattle.jwalk_subtotals.proofs.StateFacts.{subtotals_same}
use Rattle.jwalk_subtotals.proofs.WholeFacts.{all_yielded}

-- one call more
pub one_called : {S X : Type 0} (steps : S → Option X → S → Type 0) (xs : List X) (x : X) (s t u : S) → Yields steps s xs t → steps t (Some x) u → Yields steps s (xs ++ x ∷ []) u
one_called steps [] x s t u same last = (u, subst (λ k. steps k (Some x) u) (sym same) last, refl)
one_called steps (y ∷ xs) x s t u (j, first, more) last = (j, first, one_called steps xs x j t u more last)

module _ {C A R E : Type 0} where
  -- behind what is no error more may come
  goes_on : (xs : List (Result (WithSubtotal C A R E) (SubtotalError A))) → list_all is_ok xs ≡ true → list_any ends_with xs ≡ false
  goes_on [] all = refl
  goes_on (Ok w ∷ xs) all = goes_on xs all
  goes_on (Err e ∷ xs) all = absurd (cc all)

  values_ok : (xs : List (Result (WithSubtotal C A R E) (SubtotalError A))) → list_all is_ok xs ≡ true → list_all is_ok (flat_map value xs) ≡ true
  values_ok [] all = refl
  values_ok (Ok w ∷ xs) all = values_ok xs all
  values_ok (Err e ∷ xs) all = absurd (cc all)

  items_ok : (xs : List (Result (DirEntry C A R E) (Error A))) → list_all is_ok (map item xs) ≡ true → list_all is_ok xs ≡ true
  items_ok [] all = refl
  items_ok (Ok e ∷ xs) all = items_ok xs all
  items_ok (Err f ∷ xs) all = absurd (cc all)

module _ {C S P A W L R E : Type 0} (files : FileSystem.Ghosts S) (process : ProcessReadDir.Ghosts P C A R E) (clone : Clone.Ghosts R) (defaults : Default.Ghosts E) (readers : Readers.Ghosts L C S P A R E) (given : Given R E) (walk : WalkDirGeneric C S P A W R E) (it : DirEntryIter C S P A L R E) where
  -- the subtotals of a steady walk, all of them entries, are those of the whole walk
  pub subtotals_whole : (start end : Subtotals C A (DirEntryIter C S P A L R E) R E) (yielded : List (Result (WithSubtotal C A R E) (SubtotalError A))) (why_not : Option NotStarted)
      → Starts walk it → HoldsUnless files process clone defaults why_not walk it → StartsSteady files process clone defaults readers it
      → IsSteady files process clone defaults (file_system_of walk) (callback_of walk) given
      → IsFresh start → answers_of start ≡ it → YieldsThen (Gives (Answers files process clone defaults readers)) start yielded None end → list_all is_ok yielded ≡ true
      → map (yielded_by given.read_dir_state given.dir_entry_state) (flat_map value yielded)
      ≡ subtotals (options_of start) (whole_walk (job_for files given walk) (root_of walk) (given.read_dir_state (state_of walk)))
  subtotals_whole start end yielded why_not starts holds steadily steady fresh same calls clean =
      let next = Answers files process clone defaults readers in
      let o = options_of start in
      let all = all_yielded next start end yielded fresh calls (goes_on yielded clean) in
      let xs = all.0 in
      let drains = subst (λ i. Drains next i xs) same all.1 in
      let ok = items_ok xs (entries_alone o [] (map item xs) (ap (list_all is_ok) all.2 ∙ values_ok yielded clean)) in
      ap (map (yielded_by given.read_dir_state given.dir_entry_state)) (sym all.2)
      ∙ sym (subtotals_same given.read_dir_state given.dir_entry_state o [] (map item xs))
      ∙ ap (subtotals o) (clean_whole files process clone defaults readers given walk it xs why_not holds (steady_begun files process clone defaults readers given walk it steadily starts steady) starts steady drains ok)
