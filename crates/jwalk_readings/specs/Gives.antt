-- What an iterator over readings gives, and what preparing one does.
use Rattle.std.specs.Prelude.{◌≡◌, ◌≢◌, ◌≤◌, ◌+◌, ◌⊎◌, ◌∷◌, ℕ, length, List, [], map, Option, Some, None, option_map, Result, Err, OnOk, OnErr}
use Rattle.jwalk_model.specs.Error.{Failure, memory}
use Rattle.jwalk_model.specs.Entry.{Item}
use Rattle.jwalk_model.specs.ReadDir.{Spec, Outcome}
use Rattle.jwalk_model.specs.Preorder.{preorder}
use Rattle.jwalk_order.specs.Frontier as frontier
use Rattle.jwalk_job.specs.declared.error.Error.{Error}
use Rattle.jwalk_job.specs.declared.read_dir.ReadDir.{ReadDir}
use Rattle.jwalk_job.specs.ReadDir.{outcome}
use Rattle.jwalk_job.specs.Given.{Given, counted_spec, counted_outcome}
use Rattle.jwalk_readings.specs.Reads.{ReadsNextBy}
use Rattle.jwalk_readings.specs.ReadAhead.{ReadAhead, nothing_ahead}
use Rattle.jwalk_readings.specs.BatchReads.{PassesAddress}
use Rattle.jwalk_readings.specs.Source.{Source, IsKnown, IsNextIn, EntersNextIn}
use Rattle.jwalk_readings.specs.declared.readings.Readings as Readings

-- An error is given that says why, and no reading.
pub record GivesError {R E : Type 0} (why : Failure → Type 0) (given : Option (Outcome R E)) : Type 0 where
  pub error : Failure
  pub told : given ≡ Some (Err error)
  pub tells : why error

-- Readings come in preorder. The first of those still to come is given and the rest is left, or an error says why they end early and nothing is left.
abbrev pub GivesPreorder : {R E : Type 0} → (Failure → Type 0) → (Spec R → Outcome R E) → ℕ → List (Spec R) → Option (Outcome R E) → List (Spec R) → Type 0
GivesPreorder why reading max_depth old None new = preorder reading max_depth old ≡ []
GivesPreorder why reading max_depth old (Some given) new =
    (GivesError why (Some given) × (new ≡ [])) ⊎ (preorder reading max_depth old ≡ given ∷ preorder reading max_depth new)

-- The addresses of the directories in what is given take the place of the first, or all stay where nothing is left to be read; or the readings end early.
abbrev pub PassesFirst : {R E : Type 0} → (Failure → Type 0) → List (List ℕ) → Option (Outcome R E) → List (List ℕ) → Type 0
PassesFirst why old given new = GivesError why given ⊎ PassesAddress old given new

module _ {R E : Type 0} (source : Source R E) where
  -- The first is read. Or an error that says why not is given, and nothing is left to be read.
  abbrev pub GivesFirst : (Spec R → Outcome R E → Type 0) → List (Spec R) → Option (Outcome R E) → List (Spec R) → Type 0
  GivesFirst known old given new = (GivesError source.tells given × (old ≢ []) × (new ≡ [])) ⊎ ReadsNextBy source.copies known source.options.max_depth old given new

  -- The directory at an address is entered, or nothing is left to be read. Or the readings end early, and nothing is left.
  abbrev pub EntersFirst : List ℕ → ReadAhead R → Option (Outcome R E) → ReadAhead R → Type 0
  EntersFirst at old given new = (GivesError source.tells given × (new ≡ nothing_ahead)) ⊎ EntersNextIn source at old given new

module _ {C A B R E : Type 0} (readings : Readings.Ghosts B C A R E) where
  abbrev pub source_of : B → Source R E
  source_of it = readings.source (readings.base it)

  -- the address of the directory that is entered next
  abbrev pub next_address : B → List ℕ
  next_address it = frontier.next_address (readings.frontier it)

  -- What is known of the reading that comes next.
  abbrev pub Known : B → Spec R → Outcome R E → Type 0
  Known it = IsKnown (source_of it) (readings.steady it) (next_address it)

  -- What is known of the reading by which an item's directory is entered.
  abbrev pub KnownOf : B → Item R E → Spec R → Outcome R E → Type 0
  KnownOf it x spec outcome = Known it spec outcome × (source_of it).below x spec

  -- The next reading is made ready: what is still to be given stays the same, and entering its directory does as much to what was read ahead as without that.
  pub record Readies (old new : B) : Type 0 where
    pub some : readings.to_read old ≢ []
    pub same : readings.to_read new ≡ readings.to_read old
    pub frontier : readings.frontier new ≡ readings.frontier old
    pub ready : (after : ReadAhead R) → (source_of old).enters (next_address old) (readings.read_ahead new) after → (source_of old).enters (next_address old) (readings.read_ahead old) after

  -- One call that prepares the next reading: it is made ready, or all stays as it is. The call fails only if something was left to be read, and then nothing is left.
  pub record Prepares {F : Type 0} (old : B) (result : Result (Unit {0}) F) (new : B) : Type 0 where
    pub base : readings.base new ≡ readings.base old
    pub wide : 1 ≤ (source_of old).width
    pub most : readings.most new ≤ readings.most old
    pub steady : (given : Given R E) → readings.steady old given → readings.steady new given
    pub prepared : OnOk result ((new ≡ old) ⊎ Readies old new)
    pub some : OnErr result (readings.to_read old ≢ [])
    pub stopped : OnErr result (readings.to_read new ≡ [])
    pub nothing : OnErr result (readings.read_ahead new ≡ nothing_ahead)

  -- One call of an iterator over readings. By value, what it gives comes in preorder, unless an error says why they end early.
  pub record Gives (why : Failure → Type 0) (old : B) (given : Option (Result (ReadDir C A R E) (Error A))) (new : B) : Type 0 where
    pub base : readings.base new ≡ readings.base old
    pub enters : EntersFirst (source_of old) (next_address old) (readings.read_ahead old) (option_map outcome given) (readings.read_ahead new)
    pub passes : PassesFirst (source_of old).tells (readings.frontier old) (option_map outcome given) (readings.frontier new)
    pub ahead : length (readings.read_ahead new).done + 1 ≤ length (readings.read_ahead old).done + (source_of old).width
    pub most : readings.most new ≤ readings.most old
    pub steady : (given : Given R E) → readings.steady old given → readings.steady new given
    pub first : GivesFirst (source_of old) (Known old) (readings.to_read old) (option_map outcome given) (readings.to_read new)
    pub preorder : (value : Given R E) → readings.steady old value
        → GivesPreorder why ((source_of old).reading value) (source_of old).options.max_depth (map (counted_spec value) (readings.to_read old)) (option_map (counted_outcome value) (option_map outcome given)) (map (counted_spec value) (readings.to_read new))

  -- One call that is asked for the reading of an item's directory. The readings may end with one that won't come only where that isn't the directory that comes next.
  pub record GivesOf (old : B) (asked : Item R E) (given : Option (Result (ReadDir C A R E) (Error A))) (new : B) : Type 0 where
    pub gives : Gives (source_of old).tells old given new
    pub next : IsNextIn (source_of old) asked (readings.to_read old) → Gives (λ f. f ≡ memory) old given new
    pub of : GivesFirst (source_of old) (KnownOf old asked) (readings.to_read old) (option_map outcome given) (readings.to_read new)
