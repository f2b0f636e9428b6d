-- What readings come from, as far as a walk over them is concerned. It stays the same while they are read.
use Rattle.std.specs.Prelude.{◌≡◌, ◌≤◌, ◌+◌, ℕ, length, List, [], ◌∷◌, Option, Some, None, Ok}
use Rattle.jwalk_model.specs.Error.{Failure, memory}
use Rattle.jwalk_model.specs.Options.{Options}
use Rattle.jwalk_model.specs.Entry.{Entry, Children, Item}
use Rattle.jwalk_model.specs.ReadDir.{Spec, Outcome, spec_below, IsClone}
use Rattle.jwalk_model.specs.Counted.{Worth}
use Rattle.jwalk_job.specs.Given.{Given, counted_spec, counted_outcome}
use Rattle.jwalk_readings.specs.ReadAhead.{ReadAhead}

pub record Source (R E : Type 0) : Type 1 where
  -- what the walk goes by
  pub options : Options
  -- how many directories are read together
  pub width : ℕ
  -- a clone of a state
  pub copies : R → R → Type 0
  -- the reading of the definition, over what is given
  pub reading : Given R E → Spec Worth → Outcome Worth Worth
  -- what is known of the reading at an address, whatever the file system returns
  pub told : List ℕ → Spec R → Outcome R E → Type 0
  -- a directory is known to be the one below an item
  pub below : Item R E → Spec R → Type 0
  -- what entering the directory at an address does to what was read ahead
  pub enters : List ℕ → ReadAhead R → ReadAhead R → Type 0
  -- an error says why the readings may end early
  pub tells : Failure → Type 0

module _ {R E : Type 0} (source : Source R E) where
  -- What holds of every source.
  pub record IsSource : Type 0 where
    pub memory_told : source.tells memory
    pub fewer : (at : List ℕ) (old new : ReadAhead R) → source.enters at old new → length new.done + 1 ≤ length old.done + source.width
    pub found_below : (e : Entry R E) (c : Children R) (state : R) (made : Spec R) → e.read_children ≡ Some c → IsClone source.copies (spec_below state e c) made → source.below (Ok e) made

  -- Over all that counts as given, it is the reading of the definition; and what is known of it anyway.
  pub record IsKnown (counts : Given R E → Type 0) (at : List ℕ) (spec : Spec R) (outcome : Outcome R E) : Type 0 where
    pub told : source.told at spec outcome
    pub value : (given : Given R E) → counts given → counted_outcome given outcome ≡ source.reading given (counted_spec given spec)

  -- the directory that comes next, if one is left, is known to be the one below an item
  abbrev pub IsNextIn : Item R E → List (Spec R) → Type 0
  IsNextIn x [] = Unit {0}
  IsNextIn x (spec ∷ specs) = source.below x spec

  -- a directory is entered, or nothing was left to be read and all stays as it is
  abbrev pub EntersNextIn : {X : Type 0} → List ℕ → ReadAhead R → Option X → ReadAhead R → Type 0
  EntersNextIn at old (Some read) new = source.enters at old new
  EntersNextIn at old None new = new ≡ old
