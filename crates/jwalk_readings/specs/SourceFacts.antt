-- What holds of these sources.
use Rattle.std.proofs.Common.{◌≡◌, ◌≤◌, ◌+◌, ℕ, Bool, true, false, [], ◌∷◌, ◌++◌, Some, Ok, Option, List, length, inl, inr, refl, ap, arith}
use Rattle.std.proofs.Math.Nat.{min-le_left}
use Rattle.std.proofs.lemmas.List.{length-map}
use Rattle.std.proofs.lemmas.List.Sorted.{length_permutation}
use Rattle.std.specs.declared.clone.Clone as Clone
use Rattle.std.specs.declared.default.Default as Default
use lib.ListN.{length-append}
use Rattle.jwalk_model.specs.Error.{Failure, memory}
use Rattle.jwalk_model.specs.Entry.{Entry, Children}
use Rattle.jwalk_model.specs.ReadDir.{Spec, spec_below, IsClone}
use Rattle.jwalk_fs.specs.declared.file_system.FileSystem as FileSystem
use Rattle.jwalk_order.specs.Addressed.{addresses_of}
use Rattle.jwalk_job.specs.declared.process_read_dir.ProcessReadDir as ProcessReadDir
use Rattle.jwalk_job.specs.declared.job.Job.{Job}
use Rattle.jwalk_readings.specs.ReadAhead.{ReadAhead, HandsOnAt, ReadsLeast}
use Rattle.jwalk_readings.specs.CrewReads.{IsBelow, IsNextBelow}
use Rattle.jwalk_readings.specs.Source.{IsSource}
use Rattle.jwalk_readings.specs.Sources.{Base, Tells, EntersBy, source_by}

-- any walk may end early because memory ran out
pub tells_memory : (b : Bool) (f : Failure) → f ≡ memory → Tells b f
tells_memory false f is = is
tells_memory true f is = inl is

-- the reading that is handed on leaves those that are done
one_leaves : {R : Type 0} (at : List ℕ) (old new : ReadAhead R) → HandsOnAt at old new → length old.done ≡ length new.done + 1
one_leaves at old new hands = omega (arith, length_permutation old.done (at ∷ new.done) hands.done)

-- a clone of the directory below an entry is below it
clone_below : {R E : Type 0} (is_clone : R → R → Type 0) (state : R) (e : Entry R E) (c : Children R) (made : Spec R) → IsClone is_clone (spec_below state e c) made → (o : Option (Children R)) → o ≡ Some c → e.read_children ≡ o → IsBelow (Ok e) made
clone_below is_clone state e c made clone o is same = rw (same, is) clone.0

pub found_there : {R E : Type 0} (is_clone : R → R → Type 0) (e : Entry R E) (c : Children R) (state : R) (made : Spec R) → e.read_children ≡ Some c → IsClone is_clone (spec_below state e c) made → IsBelow (Ok e) made
found_there is_clone e c state made is same = clone_below is_clone state e c made same e.read_children is refl

found_below : {R E : Type 0} (b : Bool) (is_clone : R → R → Type 0) (state : R) (e : Entry R E) (c : Children R) (made : Spec R) → e.read_children ≡ Some c → IsClone is_clone (spec_below state e c) made → IsNextBelow b (Ok e) (made ∷ [])
found_below false is_clone state e c made is same = tt
found_below true is_clone state e c made is same = found_there is_clone e c state made is same

module _ {C S P A R E : Type 0} (files : FileSystem.Ghosts S) (process : ProcessReadDir.Ghosts P C A R E) (clone : Clone.Ghosts R) (defaults : Default.Ghosts E) (job : Job C S P A R E) (width : ℕ) where
  least_join : (old new : ReadAhead R) → ReadsLeast files process clone defaults job width old new → length new.done ≤ length old.done + width
  least_join old new reads =
      omega (arith, length_permutation (addresses_of reads.batch ++ reads.left.done) new.done reads.join.done, length-append (addresses_of reads.batch) reads.left.done, length-map reads.batch (λ x. x.at), ap length reads.leave.done, reads.number, min-le_left width (length old.queue))

  -- A directory that is entered leaves those that are done, and at most the width of others join them.
  pub enters_fewer : (b : Bool) (at : List ℕ) (old new : ReadAhead R) → EntersBy files process clone defaults b job width at old new → length new.done + 1 ≤ length old.done + width
  enters_fewer true at old new enters = omega (arith, ap (λ a. length a.done) enters.0, enters.1)
  enters_fewer false at old new enters = elim enters [
    | inl before ↦ omega (arith, one_leaves at old new before.1)
    | inr reads ↦ omega (arith, least_join old reads.1.0 reads.1.1, one_leaves at reads.1.0 new reads.1.2)
  ]

module _ {C S P A R E : Type 0} (files : FileSystem.Ghosts S) (process : ProcessReadDir.Ghosts P C A R E) (clone : Clone.Ghosts R) (defaults : Default.Ghosts E) where
  pub is_source_by : (base : Base C S P A R E) → IsSource (source_by files process clone defaults base)
  is_source_by base = record {
    memory_told = tells_memory base.by_crew memory refl;
    fewer = enters_fewer files process clone defaults base.job base.width base.by_crew;
    found_below = λ e c state made. found_below base.by_crew clone.is_clone state e c made;
  }
