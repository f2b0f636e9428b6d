-- One call of an iterator over readings, case by case.
use Rattle.std.proofs.Common.{◌≡◌, ◌≢◌, ◌∙◌, ◌<◌, ◌≤◌, ℕ, ◌+◌, List, [], ◌∷◌, ◌++◌, map, length, Option, Some, None, Result, Err, IfSome, inl, inr, refl, sym, ap, arith}
use Rattle.std.specs.Prelude.{option_map}
use Rattle.std.proofs.lemmas.List.{map-append}
use Rattle.jwalk_model.specs.Error.{Failure, memory, lost}
use Rattle.jwalk_model.specs.Entry.{Item}
use Rattle.jwalk_model.specs.ReadDir.{Spec, Outcome, children_of}
use Rattle.jwalk_model.specs.Preorder.{preorder}
use Rattle.jwalk_model.specs.Held.{spec_weight}
use Rattle.jwalk_model.proofs.CloneFacts.{counted_clones}
use Rattle.jwalk_model.proofs.CountedFacts.{counted-children_of, counted-IsLawfulReading}
use Rattle.jwalk_model.proofs.PreorderFacts.{preorder-first, fewer_to_read, heavy_specs}
use Rattle.jwalk_job.specs.declared.error.Error.{Error}
use Rattle.jwalk_job.specs.declared.read_dir.ReadDir.{ReadDir}
use Rattle.jwalk_job.specs.Error.{failure}
use Rattle.jwalk_job.specs.ReadDir.{outcome}
use Rattle.jwalk_job.specs.Given.{Given, counted_spec, counted_outcome}
use Rattle.jwalk_readings.specs.Reads.{ReadsFirstBy, ReadsNextBy}
use Rattle.jwalk_readings.specs.ReadAhead.{nothing_ahead}
use Rattle.jwalk_readings.specs.BatchReads.{PassesAddress}
use Rattle.jwalk_readings.specs.Source.{Source, IsNextIn, EntersNextIn}
use Rattle.jwalk_readings.specs.Gives.{GivesError, GivesPreorder, GivesFirst, source_of, next_address, Known, Gives, GivesOf}
use Rattle.jwalk_readings.specs.declared.readings.Readings as Readings
use Rattle.jwalk_readings.proofs.KnownFacts.{gives_of}

module _ {R E : Type 0} (source : Source R E) (known : Spec R → Outcome R E → Type 0) (old new : List (Spec R)) where
  abbrev max_depth : ℕ
  max_depth = source.options.max_depth

  module _ (given : Given R E) (cloned : (x y : R) → source.copies x y → given.read_dir_state y ≡ given.read_dir_state x) (as_given : (s : Spec R) (o : Outcome R E) → known s o → counted_outcome given o ≡ source.reading given (counted_spec given s)) where
    first_in_preorder : (read : Outcome R E) → ReadsFirstBy source.copies known max_depth old read new → preorder (source.reading given) max_depth (map (counted_spec given) old) ≡ counted_outcome given read ∷ preorder (source.reading given) max_depth (map (counted_spec given) new)
    first_in_preorder read reads =
        let view = given.read_dir_state in
        let mark = given.dir_entry_state in
        let left : children_of (counted_outcome given read) ++ map (counted_spec given) reads.rest ≡ map (counted_spec given) new
        = ap (λ l. l ++ map (counted_spec given) reads.rest) (counted-children_of view mark read ∙ sym (counted_clones source.copies view cloned (children_of read) reads.stacks.front reads.stacks.clones))
        ∙ sym (map-append (counted_spec given) reads.stacks.front reads.rest)
        ∙ sym (ap (map (counted_spec given)) reads.stacks.left) in
        ap (λ l. preorder (source.reading given) max_depth (map (counted_spec given) l)) reads.took
        ∙ preorder-first (source.reading given) max_depth (counted_spec given reads.first) (map (counted_spec given) reads.rest) (counted_outcome given read) (counted-IsLawfulReading view mark max_depth reads.first read reads.reading.lawful) (as_given reads.first read reads.reading.value)
        ∙ ap (λ l. counted_outcome given read ∷ preorder (source.reading given) max_depth l) left

    -- readings that are given one by one come in preorder
    pub read_in_preorder : (why : Failure → Type 0) (read : Option (Outcome R E)) → ReadsNextBy source.copies known max_depth old read new → GivesPreorder why (source.reading given) max_depth (map (counted_spec given) old) (option_map (counted_outcome given) read) (map (counted_spec given) new)
    read_in_preorder why None none = ap (λ l. preorder (source.reading given) max_depth (map (counted_spec given) l)) none.0
    read_in_preorder why (Some read) reads = inr (first_in_preorder read reads)

  -- what is to be read weighs less then
  pub gives_fewer : (read : Option (Outcome R E)) → GivesFirst source known old read new → IfSome read (λ _. spec_weight max_depth new < spec_weight max_depth old)
  gives_fewer None gives = tt
  gives_fewer (Some read) gives = elim gives [
    | inl refused ↦ rw refused.2 (heavy_specs max_depth old refused.1)
    | inr reads ↦ rw (reads.took, reads.stacks.left) (fewer_to_read max_depth source.copies reads.first reads.rest reads.stacks.front read reads.reading.lawful reads.reading.few reads.stacks.clones)
  ]

module _ {C A B R E : Type 0} (readings : Readings.Ghosts B C A R E) (old new : B) where
  module _ (base : readings.base new ≡ readings.base old) (ahead : length (readings.read_ahead new).done + 1 ≤ length (readings.read_ahead old).done + (source_of readings old).width) (most : readings.most new ≤ readings.most old) (steady : (given : Given R E) → readings.steady old given → readings.steady new given) where
    -- one call that read on
    pub gives_read : (read : Option (Result (ReadDir C A R E) (Error A)))
        → ReadsNextBy (source_of readings old).copies (Known readings old) (source_of readings old).options.max_depth (readings.to_read old) (option_map outcome read) (readings.to_read new)
        → EntersNextIn (source_of readings old) (next_address readings old) (readings.read_ahead old) (option_map outcome read) (readings.read_ahead new)
        → PassesAddress (readings.frontier old) (option_map outcome read) (readings.frontier new)
        → Gives readings (λ f. f ≡ memory) old read new
    gives_read read next enters passes = record {
      base = base;
      enters = inr enters;
      passes = inr passes;
      ahead = ahead;
      most = most;
      steady = steady;
      first = inr next;
      preorder = λ given counted. read_in_preorder (source_of readings old) (Known readings old) (readings.to_read old) (readings.to_read new) given (readings.clones old given counted) (λ s o known. known.value given counted) (λ f. f ≡ memory) (option_map outcome read) next;
    }

    -- one call that ends the readings early
    pub gives_stopped : (why : Failure → Type 0) (error : Error A) → (source_of readings old).tells (failure error) → ((given : Given R E) → readings.steady old given → why (failure error)) → readings.to_read old ≢ [] → readings.to_read new ≡ [] → readings.read_ahead new ≡ nothing_ahead
        → Gives readings why old (Some (Err error)) new
    gives_stopped why error tells steadily some none nothing =
        let told : GivesError {R = R} {E = E} (source_of readings old).tells (Some (Err (failure error))) = record { error = failure error; told = refl; tells = tells } in
        record {
          base = base;
          enters = inl (told, nothing);
          passes = inl told;
          ahead = ahead;
          most = most;
          steady = steady;
          first = inl (told, some, none);
          preorder = λ given counted. inl (record { error = failure error; told = refl; tells = steadily given counted }, ap (map (counted_spec given)) none);
        }

-- where fewer errors may end readings, more may
more_told : {R E : Type 0} (why more : Failure → Type 0) → ((f : Failure) → why f → more f) → (reading : Spec R → Outcome R E) (deepest : ℕ) (old new : List (Spec R)) (given : Option (Outcome R E)) → GivesPreorder why reading deepest old given new → GivesPreorder more reading deepest old given new
more_told why more within reading deepest old new None gives = gives
more_told why more within reading deepest old new (Some given) gives = elim gives [
  | inl ends ↦ inl (record { error = ends.0.error; told = ends.0.told; tells = within ends.0.error ends.0.tells }, ends.1)
  | inr comes ↦ inr comes
]

module _ {C A B R E : Type 0} (readings : Readings.Ghosts B C A R E) (old new : B) where
  -- so what is given where no reading may be lost may also be given where one may
  gives_any : (read : Option (Result (ReadDir C A R E) (Error A))) → Gives readings (λ f. f ≡ memory) old read new → Gives readings (source_of readings old).tells old read new
  gives_any read gives = record {
    base = gives.base;
    enters = gives.enters;
    passes = gives.passes;
    ahead = gives.ahead;
    most = gives.most;
    steady = gives.steady;
    first = gives.first;
    preorder = λ given steady. more_told (λ f. f ≡ memory) (source_of readings old).tells (λ f is. rw is (readings.sound (readings.base old)).memory_told) _ _ _ _ _ (gives.preorder given steady);
  }

  -- the reading of an item's directory, where that comes next
  pub gives_asked : (asked : Item R E) (read : Option (Result (ReadDir C A R E) (Error A))) → IsNextIn (source_of readings old) asked (readings.to_read old) → Gives readings (λ f. f ≡ memory) old read new → GivesOf readings old asked read new
  gives_asked asked read below gives = record {
    gives = gives_any read gives;
    next = λ _. gives;
    of = gives_of (source_of readings old) (Known readings old) asked (readings.to_read old) (option_map outcome read) (readings.to_read new) below gives.first;
  }

-- the error that reports that the reading is lost, where another directory comes next
pub lost_asked : {C A B R E : Type 0} (readings : Readings.Ghosts B C A R E) (old new : B) (asked : Item R E) (error : Error A) → failure error ≡ lost → (source_of readings old).tells lost → 1 ≤ (source_of readings old).width → readings.to_read old ≢ [] → ¬ IsNextIn (source_of readings old) asked (readings.to_read old)
    → readings.base new ≡ readings.base old → readings.most new ≤ readings.most old → ((given : Given R E) → readings.steady old given → readings.steady new given) → readings.to_read new ≡ [] → readings.read_ahead new ≡ nothing_ahead → GivesOf readings old asked (Some (Err error)) new
lost_asked readings old new asked error is tells wide some other base most steady none nothing =
    let told : (source_of readings old).tells (failure error) = rw is tells in
    record {
      gives = gives_stopped readings old new base (omega (arith, ap (λ a. length a.done) nothing, wide)) most steady (source_of readings old).tells error told (λ given counted. told) some none nothing;
      next = λ below. absurd (other below);
      of = inl (record { error = failure error; told = refl; tells = told }, some, none);
    }

-- what is said of any value is said of its view
pub some_of : {X Y : Type 0} (P : Type 0) (f : X → Y) (o : Option X) → IfSome (option_map f o) (λ _. P) → IfSome o (λ _. P)
some_of P f None h = tt
some_of P f (Some x) h = h
