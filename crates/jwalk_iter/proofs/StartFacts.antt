-- What a walk begins with.
use Rattle.std.proofs.Common.{◌≡◌, ◌∙◌, ℕ, Bool, false, true, [], ◌∷◌, ◌++◌, List, map, append-nil, Ok, Err, refl, sym, ap, subst, arith}
use Rattle.std.specs.declared.clone.Clone as Clone
use Rattle.std.specs.declared.default.Default as Default
use Rattle.jwalk_model.specs.Error.{memory}
use Rattle.jwalk_model.specs.Entry.{Item, AtDepth, NoDeeper}
use Rattle.jwalk_model.specs.ReadDir.{Spec, Reading, children, children_of, AreClones}
use Rattle.jwalk_model.specs.Listing.{nothing, paired}
use Rattle.jwalk_model.specs.Held.{pair_up, sources}
use Rattle.jwalk_model.proofs.CloneFacts.{same_length, counted_clones}
use Rattle.jwalk_model.proofs.CountedFacts.{counted-children_of}
use Rattle.jwalk_model.proofs.HeldFacts.{directories, as_many_of, pair_up-outcome}
use Rattle.jwalk_model.proofs.WithinFacts.{at_depth}
use Rattle.jwalk_fs.specs.declared.file_system.FileSystem as FileSystem
use Rattle.jwalk_job.specs.declared.process_read_dir.ProcessReadDir as ProcessReadDir
use Rattle.jwalk_job.specs.Given.{Given, counted_item, counted_spec, counted_reading, ClonesCount}
use Rattle.jwalk_job.specs.Job.{IsSteadyJob}
use Rattle.jwalk_readings.specs.declared.readers.Readers as Readers
use Rattle.jwalk_readings.specs.CrewReads.{IsNextBelow}
use Rattle.jwalk_readings.specs.Sources.{source_by}
use Rattle.jwalk_readings.specs.ReadDirIter.{base_of}
use Rattle.jwalk_iter.specs.DirEntryIter.{DirEntryIter, by_crew, job_of, items_of, unread_of, read_ahead, held, held_by, IsSourced, IsSteadyWalk}
use Rattle.jwalk_readings.proofs.RestFacts.{steady_at_rest}
use Rattle.jwalk_iter.proofs.PlacedFacts.{all_placed}
use Rattle.jwalk_iter.proofs.AnswerFacts.{held_refused, held_by_with, with_sourced}

-- where no crew reads, nothing is said of the item that a directory is below
below_alone : {R E : Type 0} (b : Bool) → b ≡ false → (x : Item R E) (s : Spec R) → IsNextBelow b x (s ∷ [])
below_alone false own x s = tt
below_alone true own x s = absurd cc

-- a walk that no crew reads for is steady over a steady job, if nothing was read early
pub alone_steady : {C S P A L R E : Type 0} (files : FileSystem.Ghosts S) (process : ProcessReadDir.Ghosts P C A R E) (clone : Clone.Ghosts R) (defaults : Default.Ghosts E) (readers : Readers.Ghosts L C S P A R E) (it : DirEntryIter C S P A L R E) (given : Given R E) → by_crew it ≡ false → IsSteadyJob files process clone defaults (job_of it) given → (read_ahead it).done ≡ [] → IsSteadyWalk files process clone defaults readers it given
alone_steady files process clone defaults readers it given own steady none = record { reads = steady_at_rest files process clone defaults readers it.reads given own steady none; placed = all_placed (source_by files process clone defaults (base_of it.reads)).below (below_alone (by_crew it) own) (items_of it) (unread_of it) }

module _ {C S P A L R E : Type 0} (it : DirEntryIter C S P A L R E) (refused : it.refused ≡ true) (none : items_of it ≡ []) where
  -- a walk that ran out of memory at its start, and has no items, holds only the error that says so
  pub holds_refusal : held it ≡ record { item = Err memory; source = nothing } ∷ []
  holds_refusal = held_refused (unread_of it) it refused ∙ ap (λ l. record { item = Err memory; source = nothing } ∷ pair_up l (unread_of it)) none

  pub refusal_sourced : unread_of it ≡ [] → IsSourced it
  refusal_sourced no_unread = record { each = rw holds_refusal (refl, tt); unread = no_unread ∙ sym (ap sources holds_refusal) }

module _ {C S P A L R E : Type 0} (clone : Clone.Ghosts R) (r : Reading R E) (it : DirEntryIter C S P A L R E) where
  -- a walk that has only a list, with its directories, holds the pairs of that list
  pub holds_list : (given : Given R E) → ClonesCount clone given → it.refused ≡ false → items_of it ≡ r.list → AreClones clone.is_clone (children r) (unread_of it) → held_by given it ≡ paired (counted_reading given r)
  holds_list given counts started all clones =
      let directories_too : map (counted_spec given) (unread_of it) ≡ children_of (Ok (counted_reading given r))
      = counted_clones clone.is_clone given.read_dir_state counts (children r) (unread_of it) clones
      ∙ sym (counted-children_of given.read_dir_state given.dir_entry_state (Ok r)) in
      held_by_with given (unread_of it) it started
      ∙ ap (λ l. pair_up (map (counted_item given) l) (map (counted_spec given) (unread_of it))) all
      ∙ ap (pair_up (map (counted_item given) r.list)) (directories_too ∙ sym (append-nil (children_of (Ok (counted_reading given r)))))
      ∙ ap (λ l. pair_up l (children_of (Ok (counted_reading given r)) ++ [])) (sym (append-nil (map (counted_item given) r.list)))
      ∙ pair_up-outcome (Ok (counted_reading given r)) [] []
      ∙ append-nil (paired (counted_reading given r))

  -- and only these are to be read
  pub list_sourced : it.refused ≡ false → items_of it ≡ r.list → AreClones clone.is_clone (children r) (unread_of it) → IsSourced it
  list_sourced started all clones = with_sourced (unread_of it) it started (same_length clone.is_clone (children r) (unread_of it) clones ∙ as_many_of (Ok r) ∙ ap directories (sym all))

-- a walk that took over its root's list holds the pairs of that list
pub holds_root : {C S P A L R E : Type 0} (clone : Clone.Ghosts R) (given : Given R E) (r : Reading R E) (before after begun : DirEntryIter C S P A L R E) → ClonesCount clone given → begun.refused ≡ false → items_of begun ≡ items_of after → unread_of begun ≡ unread_of after → items_of before ≡ [] → items_of after ≡ r.list ++ items_of before → AreClones clone.is_clone (children r) (unread_of after) → held_by given begun ≡ paired (counted_reading given r)
holds_root clone given r before after begun counts started same_items same_unread no_items items clones =
    holds_list clone r begun given counts started (same_items ∙ items ∙ ap (λ l. r.list ++ l) no_items ∙ append-nil r.list) (subst (AreClones clone.is_clone (children r)) (sym same_unread) clones)

-- a walk that holds only its root's list holds nothing too deep
pub at_root : {R E : Type 0} (l items before : List (Item R E)) → items ≡ l ++ before → before ≡ [] → AtDepth 0 l → AtDepth 0 items
at_root l items before all none depth = rw (all, none, append-nil l) depth

pub within_root : {R E : Type 0} (greatest : ℕ) (items : List (Item R E)) → AtDepth 0 items → NoDeeper greatest items
within_root greatest items depth = at_depth 0 greatest items (omega arith) depth

-- and only its directories are to be read
pub root_sourced : {C S P A L R E : Type 0} (clone : Clone.Ghosts R) (r : Reading R E) (before after begun : DirEntryIter C S P A L R E) → begun.refused ≡ false → items_of begun ≡ items_of after → unread_of begun ≡ unread_of after → items_of before ≡ [] → items_of after ≡ r.list ++ items_of before → AreClones clone.is_clone (children r) (unread_of after) → IsSourced begun
root_sourced clone r before after begun started same_items same_unread no_items items clones =
    list_sourced clone r begun started (same_items ∙ items ∙ ap (λ l. r.list ++ l) no_items ∙ append-nil r.list) (subst (AreClones clone.is_clone (children r)) (sym same_unread) clones)
