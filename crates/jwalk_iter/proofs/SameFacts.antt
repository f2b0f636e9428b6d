-- Walks that have the same to come yield the same, call by call, however many directories are read together.
use Rattle.std.proofs.Common.{◌≡◌, ◌∙◌, List, [], ◌∷◌, Option, Some, None, IfSome, Result, inl, inr, refl, sym, ap, subst}
use Rattle.std.specs.Prelude.{option_map}
use Rattle.std.specs.declared.clone.Clone as Clone
use Rattle.std.specs.declared.default.Default as Default
use Rattle.jwalk_model.specs.Entry.{Item}
use Rattle.jwalk_model.specs.Counted.{Worth}
use Rattle.jwalk_model.specs.Held as value
use Rattle.jwalk_model.specs.Job.{reading}
use Rattle.jwalk_fs.specs.declared.file_system.FileSystem as FileSystem
use Rattle.jwalk_job.specs.declared.process_read_dir.ProcessReadDir as ProcessReadDir
use Rattle.jwalk_job.specs.declared.error.Error.{Error}
use Rattle.jwalk_job.specs.declared.dir_entry.DirEntry.{DirEntry}
use Rattle.jwalk_job.specs.Entry.{item}
use Rattle.jwalk_job.specs.Given.{Given, counted_item}
use Rattle.jwalk_job.specs.Job.{greatest_depth, job_by}
use Rattle.jwalk_readings.specs.declared.readers.Readers as Readers
use Rattle.jwalk_iter.specs.DirEntryIter.{DirEntryIter, job_of, unread_of, min_depth_of, to_come, TellsMemory, IsSteadyWalk, Answers}
use Rattle.jwalk_iter.proofs.AnswerFacts.{held_by_nothing}

module _ {C S P A R E : Type 0} (files : FileSystem.Ghosts S) (process : ProcessReadDir.Ghosts P C A R E) (clone : Clone.Ghosts R) (defaults : Default.Ghosts E) (given : Given R E) where
  -- what a call returns, as it counts
  abbrev pub counted_answer : Option (Result (DirEntry C A R E) (Error A)) → Option (Item Worth Worth)
  counted_answer answer = option_map (counted_item given) (option_map item answer)

  -- the answer and the rest make up what was to come, unless the answer says that memory ran out
  abbrev coming_from : Option (Item Worth Worth) → List (Item Worth Worth) → List (Item Worth Worth)
  coming_from None rest = rest
  coming_from (Some answer) rest = answer ∷ rest

  answered_first : {L : Type 0} (readers : Readers.Ghosts L C S P A R E) (old new : DirEntryIter C S P A L R E) (answer : Option (Result (DirEntry C A R E) (Error A))) → IsSteadyWalk files process clone defaults readers old given → Answers files process clone defaults readers old answer new → IfSome (option_map item answer) (λ a. ¬ TellsMemory a)
      → (to_come files given old ≡ coming_from (counted_answer answer) (to_come files given new)) × (answer ≡ None → to_come files given new ≡ [])
  answered_first readers old new None steady call told =
      let nothing_left : to_come files given new ≡ [] = ap (value.to_come (reading (job_by files given (job_of new))) (min_depth_of new) (greatest_depth (job_of new))) (held_by_nothing given (unread_of new) new call.ended) in
      (call.coming given steady ∙ sym nothing_left, λ none. nothing_left)
  answered_first readers old new (Some x) steady call told = elim (call.coming given steady) [
    | inl stops ↦ absurd (told (subst TellsMemory (sym stops.told) stops.tells))
    | inr first ↦ (first, λ none. cc)
  ]

  unmapped : (answer : Option (Result (DirEntry C A R E) (Error A))) → counted_answer answer ≡ None → answer ≡ None
  unmapped None none = refl
  unmapped (Some x) none = absurd cc

  same_by : (some other : Option (Item Worth Worth)) (rest others : List (Item Worth Worth)) → coming_from some rest ≡ coming_from other others → (some ≡ None → rest ≡ []) → (other ≡ None → others ≡ []) → (some ≡ other) × (rest ≡ others)
  same_by None None rest others same ends end = (refl, same)
  same_by None (Some y) rest others same ends end = let no : [] ≡ y ∷ others = sym (ends refl) ∙ same in cc
  same_by (Some x) None rest others same ends end = let no : x ∷ rest ≡ [] = same ∙ end refl in cc
  same_by (Some x) (Some y) rest others same ends end = (cc, cc)

  -- Two walks have the same to come, whatever reads their directories and however many together. They yield the same if neither says that memory ran out, and the same is to come then.
  pub same_answer : {L M : Type 0} (readers : Readers.Ghosts L C S P A R E) (its : Readers.Ghosts M C S P A R E) (old new : DirEntryIter C S P A L R E) (other next : DirEntryIter C S P A M R E) (answer told : Option (Result (DirEntry C A R E) (Error A)))
      → IsSteadyWalk files process clone defaults readers old given → IsSteadyWalk files process clone defaults its other given → Answers files process clone defaults readers old answer new → Answers files process clone defaults its other told next
      → IfSome (option_map item answer) (λ a. ¬ TellsMemory a) → IfSome (option_map item told) (λ a. ¬ TellsMemory a)
      → to_come files given old ≡ to_come files given other → (counted_answer answer ≡ counted_answer told) × (to_come files given new ≡ to_come files given next)
  same_answer readers its old new other next answer told steady steadily call call' plain plainly same =
      let one = answered_first readers old new answer steady call plain in
      let two = answered_first its other next told steadily call' plainly in
      same_by (counted_answer answer) (counted_answer told) (to_come files given new) (to_come files given next) (sym one.0 ∙ same ∙ two.0) (λ none. one.1 (unmapped answer none)) (λ none. two.1 (unmapped told none))
