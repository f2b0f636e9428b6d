-- What a walk over any readings holds, and what one of its answers does.
use Rattle.std.specs.Prelude.{◌≡◌, ◌≤◌, ◌<◌, ◌+◌, ◌-◌, ◌*◌, ◌^◌, ◌⊎◌, ℕ, suc, min, Bool, true, false, List, [], ◌∷◌, ◌++◌, drop, filter, length, map, reverse, take, if◌then◌else◌, Option, Some, None, option_to_list, All, IfSome, IfNone, IfOk, IfErr, OnOk, OnErr, IsSomeAnd, MatchBool, option_map, Result, Ok, Err}
use Rattle.std.specs.declared.alloc.AllocError.{AllocError}
use Rattle.std.specs.List.{prefix_len}
use Rattle.std.specs.Iterator.{Drains, Yields, YieldsThen}
use Rattle.jwalk_model.specs.Error.{Failure, memory}
use Rattle.jwalk_model.specs.Entry.{Item, has_directory, NoDeeper, IsBetween, AllBetween}
use Rattle.jwalk_model.specs.ReadDir.{Spec, Outcome, list_of, children_of}
use Rattle.jwalk_model.specs.Counted.{Worth}
use Rattle.jwalk_model.specs.Listing.{Pair, Source as DirectorySource, nothing, unread, was_read, after_reading, is_answered}
use Rattle.jwalk_model.specs.Held as value
use Rattle.jwalk_model.specs.Held.{pair_up, weight, sources, AnswersPlainly, AreSourced}
use Rattle.jwalk_job.specs.declared.error.Error.{Error}
use Rattle.jwalk_job.specs.declared.dir_entry.DirEntry.{DirEntry}
use Rattle.jwalk_job.specs.Entry.{item}
use Rattle.jwalk_job.specs.Given.{Given, counted_item, counted_spec}
use Rattle.jwalk_order.specs.Frontier as frontier
use Rattle.jwalk_order.specs.Frontier.{next_address}
use Rattle.jwalk_readings.specs.Reads.{ReadsFirstBy}
use Rattle.jwalk_readings.specs.ReadAhead.{ReadAhead}
use Rattle.jwalk_readings.specs.ReadAhead as left
use Rattle.jwalk_readings.specs.declared.readers.Missed.{Missed}
use Rattle.jwalk_readings.specs.CrewReads.{IsBelow, NotLost, failure_of}
use Rattle.jwalk_readings.specs.Gives.{Readies}
use Rattle.jwalk_readings.specs.Source.{Source, IsKnown}
use Rattle.jwalk_iter.specs.Skip.{drops, skip_behind}
use Rattle.jwalk_iter.specs.Step.{IsAtDirectory, ReadsUpTo, StopsAtDirectory}
use Rattle.jwalk_readings.specs.declared.readings.Readings as Readings
use Rattle.jwalk_iter.specs.declared.entries.Entries.{Entries}
use Rattle.jwalk_iter.specs.declared.skip.Skip.{Skip}

-- The item is the error that says that memory ran out.
abbrev pub TellsMemory : {R E : Type 0} → Item R E → Type 0
TellsMemory (Ok e) = ⊥
TellsMemory (Err f) = f ≡ memory

-- Where a walk is.
pub record Position (R E : Type 0) : Type 0 where
  -- the items that were received and not passed on, the next one first
  pub items : List (Item R E)
  -- the directories that aren't read yet
  pub unread : List (Spec R)
  -- the addresses of the directories that are still to be entered, the next one first
  pub frontier : List (List ℕ)
  -- what isn't read yet, and what was read and not handed on, by address
  pub ahead : ReadAhead R

-- An item is passed below which no directory is to be read: nothing else changes.
pub record PassesPlainly {R E : Type 0} (from : Position R E) (passed : Item R E) (to : Position R E) : Type 0 where
  pub rest : List (Item R E)
  pub first : from.items ≡ passed ∷ rest
  pub none_below : ¬ IsAtDirectory from.items from.unread
  pub others : to ≡ record from { items = rest }

-- what is held in front where memory ran out at the start: the error that says so
abbrev pub refusal : {R E : Type 0} → Bool → List (Pair R E)
refusal true = record { item = Err memory; source = nothing } ∷ []
refusal false = []

module _ {R E : Type 0} where
  -- The items that have a directory, and only they, have a source, and nothing else is unread.
  pub record AreAllSourced (pairs : List (Pair R E)) (specs : List (Spec R)) : Type 0 where
    pub each : AreSourced pairs
    pub unread : specs ≡ sources pairs

  -- The answer says why the walk ends early, and nothing is held, unread or read ahead any more.
  pub record StopsWith (why : Failure → Type 0) (answer : Item R E) (pairs : List (Pair R E)) (specs : List (Spec R)) (ahead : ReadAhead R) : Type 0 where
    pub error : Failure
    pub told : answer ≡ Err error
    pub tells : why error
    pub nothing_held : pairs ≡ []
    pub nothing_unread : specs ≡ []
    pub nothing_ahead : ahead ≡ left.nothing_ahead

module _ {C A R E : Type 0} where
  -- None of the answers says that memory ran out, which is all that ends a steady walk early.
  abbrev pub NoneRefused : List (Result (DirEntry C A R E) (Error A)) → Type 0
  NoneRefused [] = Unit {0}
  NoneRefused (x ∷ answered) = (¬ TellsMemory (item x)) × NoneRefused answered

module _ {R E : Type 0} (below : Item R E → Spec R → Type 0) where
  -- The directory that is to be read for an item, if there is one, is the one below it.
  abbrev pub IsSourceBelow : Item R E → DirectorySource R E → Type 0
  IsSourceBelow x nothing = Unit {0}
  IsSourceBelow x (unread spec) = below x spec
  IsSourceBelow x (was_read spec outcome) = below x spec

  -- the same for every pair
  abbrev pub AreBelow : List (Pair R E) → Type 0
  AreBelow [] = Unit {0}
  AreBelow (p ∷ held) = IsSourceBelow p.item p.source × AreBelow held

  -- Each directory that is to be read is paired with the item that it is below.
  abbrev pub ArePlaced : List (Item R E) → List (Spec R) → Type 0
  ArePlaced items specs = AreBelow (pair_up items specs)

module _ {C A B R E : Type 0} where
  -- the readings that it takes its items from
  abbrev pub reads_of : Entries C A B R E → B
  reads_of it = it.reads

  -- whether memory ran out at the start, and the error that says so wasn't yielded yet
  abbrev pub is_refused : Entries C A B R E → Bool
  is_refused it = it.refused

  -- the items that were received and not passed on, the next one first
  abbrev pub items_of : Entries C A B R E → List (Item R E)
  items_of it = map item (reverse it.items.items)

  -- which items a skip drops
  abbrev pub skip_of : Entries C A B R E → Skip
  skip_of it = it.skip

  -- how many of the items that are held a skip drops: the first ones, up to one that stays
  abbrev pub skipped : Entries C A B R E → ℕ
  skipped it = if it.refused then 0 else prefix_len (drops it.skip) (items_of it)

  -- these items
  abbrev pub dropped : Entries C A B R E → List (Item R E)
  dropped it = take (skipped it) (items_of it)

  -- these items, each with the directory below it, where these directories aren't read yet
  abbrev pub held_with : List (Spec R) → Entries C A B R E → List (Pair R E)
  held_with specs it = refusal it.refused ++ pair_up (items_of it) specs

  -- the same, with its states as they count
  abbrev pub counted_with : Given R E → List (Spec R) → Entries C A B R E → List (Pair Worth Worth)
  counted_with given specs it = refusal it.refused ++ pair_up (map (counted_item given) (items_of it)) (map (counted_spec given) specs)

module _ {C A B R E : Type 0} (readings : Readings.Ghosts B C A R E) where
  abbrev pub source_of : Entries C A B R E → Source R E
  source_of it = readings.source (readings.base it.reads)

  -- the directories that aren't read yet
  abbrev pub unread_of : Entries C A B R E → List (Spec R)
  unread_of it = readings.to_read it.reads

  abbrev pub position_of : Entries C A B R E → Position R E
  position_of it = record { items = items_of it; unread = unread_of it; frontier = readings.frontier it.reads; ahead = readings.read_ahead it.reads }

  -- the items that were received and not passed on, each with the directory below it
  abbrev pub held : Entries C A B R E → List (Pair R E)
  held it = held_with (unread_of it) it

  -- the same, with its states as they count
  abbrev pub held_by : Given R E → Entries C A B R E → List (Pair Worth Worth)
  held_by given it = counted_with given (unread_of it) it

  abbrev pub min_depth_of : Entries C A B R E → ℕ
  min_depth_of it = (source_of it).options.min_depth

  abbrev pub max_depth_of : Entries C A B R E → ℕ
  max_depth_of it = (source_of it).options.max_depth

  -- at most how many answers are to come
  abbrev pub weight_of : Entries C A B R E → ℕ
  weight_of it = weight (max_depth_of it) (held it)

  -- what is still to come, over what is given
  abbrev pub to_come : Given R E → Entries C A B R E → List (Item Worth Worth)
  to_come given it = value.to_come ((source_of it).reading given) (min_depth_of it) (max_depth_of it) (held_by given it)

  -- No entry that is held is below the greatest depth.
  abbrev pub IsWithin : Entries C A B R E → Type 0
  IsWithin it = NoDeeper (max_depth_of it) (items_of it)

  -- The items that have a directory, and only they, have a source, and nothing else is unread.
  abbrev pub IsSourced : Entries C A B R E → Type 0
  IsSourced it = AreAllSourced (held it) (unread_of it)

  -- The answer says why the walk ends early, and nothing is held, unread or read ahead any more.
  abbrev pub Stops : (Failure → Type 0) → Item R E → Entries C A B R E → Type 0
  Stops why answer new = StopsWith why answer (held new) (unread_of new) (readings.read_ahead new.reads)

  -- These answers are the first of what was to come, and the rest is to come then.
  abbrev pub ComesFirst : Given R E → Entries C A B R E → List (Item R E) → Entries C A B R E → Type 0
  ComesFirst given old answered new = to_come given old ≡ map (counted_item given) answered ++ to_come given new

  -- The first of what is to come is yielded and the rest is left, or memory runs out and the walk ends. `None` is returned where nothing is to come.
  abbrev pub AnswersFirst : Given R E → Entries C A B R E → Option (Item R E) → Entries C A B R E → Type 0
  AnswersFirst given old None new = to_come given old ≡ []
  AnswersFirst given old (Some answer) new = Stops (λ f. f ≡ memory) answer new ⊎ ComesFirst given old (answer ∷ []) new

  -- These answers are a beginning of what was to come, followed by the one error that says that memory ran out. Nothing is held then.
  pub record EndsEarly (given : Given R E) (old : Entries C A B R E) (answered : List (Item R E)) (new : Entries C A B R E) : Type 0 where
    pub before : List (Item R E)
    pub missed : List (Item Worth Worth)
    pub beginning : to_come given old ≡ map (counted_item given) before ++ missed
    pub told : answered ≡ before ++ Err memory ∷ []
    pub nothing_held : held new ≡ []

  -- Whatever the file system returns, each directory that is to be read is the one below its item.
  abbrev pub IsPlaced : Entries C A B R E → Type 0
  IsPlaced it = ArePlaced IsBelow (items_of it) (unread_of it)

  -- A walk is steady over what is given: its readings are, and are of the directories below its items.
  pub record IsSteadyWalk (it : Entries C A B R E) (given : Given R E) : Type 0 where
    pub reads : readings.steady it.reads given
    pub placed : ArePlaced (source_of it).below (items_of it) (unread_of it)

  -- What is known of the reading at an address, by which an item's directory is entered.
  abbrev pub KnownAt : Entries C A B R E → List ℕ → Item R E → Spec R → Outcome R E → Type 0
  KnownAt it at x spec outcome = IsKnown (source_of it) (readings.steady it.reads) at spec outcome × (source_of it).below x spec

  -- the same at some address
  abbrev pub Known : Entries C A B R E → Item R E → Spec R → Outcome R E → Type 0
  Known it x spec outcome = (at : List ℕ) × KnownAt it at x spec outcome

  -- Its readings stay steady over all that they were steady over.
  abbrev pub ReadsStaySteady : Entries C A B R E → Entries C A B R E → Type 0
  ReadsStaySteady old new = (given : Given R E) → readings.steady old.reads given → readings.steady new.reads given

  -- It stays steady over all that it was steady over.
  abbrev pub StaysSteady : Entries C A B R E → Entries C A B R E → Type 0
  StaysSteady old new = (given : Given R E) → IsSteadyWalk old given → IsSteadyWalk new given

  -- Whatever the file system returns: each directory passed takes the first unread specification, reads only that, and puts its children in front; or the walk ends early. If memory ran out at the start, nothing is read.
  abbrev pub ReadsItems : Entries C A B R E → Option (Item R E) → Entries C A B R E → Type 0
  ReadsItems old answer new =
      MatchBool old.refused
      (unread_of new ≡ unread_of old)
      (IsSomeAnd answer (λ a. Stops (source_of old).tells a new) ⊎ ReadsUpTo (source_of old).copies (Known old) (source_of old).options (items_of old) (unread_of old) answer (items_of new) (unread_of new))

  -- The directory below the first item is entered, by the reading at the first address of the frontier. Its items, its directories and their addresses take the place of the first ones.
  pub record EntersDirectory (it : Entries C A B R E) (from : Position R E) (passed : Item R E) (to : Position R E) : Type 0 where
    pub entry : Item R E
    pub rest : List (Item R E)
    pub first : from.items ≡ entry ∷ rest
    pub has : has_directory entry ≡ true
    pub outcome : Outcome R E
    pub reads : ReadsFirstBy (source_of it).copies (KnownAt it (next_address from.frontier) entry) (max_depth_of it) from.unread outcome to.unread
    pub told : passed ≡ after_reading outcome entry
    pub items : to.items ≡ list_of outcome ++ rest
    pub frontier : to.frontier ≡ frontier.passed from.frontier (length (children_of outcome))
    pub ahead : (source_of it).enters (next_address from.frontier) from.ahead to.ahead

  -- the next item is passed
  abbrev pub PassesOne : Entries C A B R E → Position R E → Item R E → Position R E → Type 0
  PassesOne it from passed to = PassesPlainly from passed to ⊎ EntersDirectory it from passed to

  -- These items are passed one after another, and this many directories are entered with them.
  pub data PassesMany (it : Entries C A B R E) : Position R E → List (Item R E) → ℕ → Position R E → Type 0 where
    none_passed : {at : Position R E} → PassesMany it at [] 0 at
    one_passed : {from mid to : Position R E} {x : Item R E} {passed : List (Item R E)} {entered : ℕ} → PassesPlainly from x mid → PassesMany it mid passed entered to → PassesMany it from (x ∷ passed) entered to
    one_entered : {from mid to : Position R E} {x : Item R E} {passed : List (Item R E)} {entered : ℕ} → EntersDirectory it from x mid → PassesMany it mid passed entered to → PassesMany it from (x ∷ passed) (suc entered) to

  -- The items that the least depth leaves out are passed, and then the answer, if there is one. With each directory that is entered what was read ahead grows by less than the width.
  pub record GrowsAhead (old : Entries C A B R E) (answer : Option (Item R E)) (new : Entries C A B R E) : Type 0 where
    pub left_out : List (Item R E)
    pub too_high : All (λ x. is_answered (min_depth_of old) x ≡ false) left_out
    pub entered : ℕ
    pub passes : PassesMany old (position_of old) (left_out ++ option_to_list answer) entered (position_of new)
    pub ahead : length (readings.read_ahead new.reads).done + entered ≤ length (readings.read_ahead old.reads).done + entered * (source_of old).width

  -- What every call leaves as it is.
  pub record Stays (old new : Entries C A B R E) : Type 0 where
    pub base : readings.base new.reads ≡ readings.base old.reads
    pub refused : new.refused ≡ old.refused
    pub most : readings.most new.reads ≤ readings.most old.reads
    pub steady : ReadsStaySteady old new

  -- The next item enters a directory whose reading was made ready: nothing else changes, and entering it does as much to what was read ahead as without that.
  pub record ReadiesNext (old new : Entries C A B R E) : Type 0 where
    pub at : IsAtDirectory (items_of old) (unread_of old)
    pub items : new.items ≡ old.items
    pub reads : Readies readings old.reads new.reads

  -- The next item is prepared: its reading is made ready, or all stays as it is. That fails only where a directory is to be read.
  pub record Prepares {F : Type 0} (old : Entries C A B R E) (result : Result (Unit {0}) F) (new : Entries C A B R E) : Type 0 where
    pub stays : Stays old new
    pub prepared : OnOk result ((new ≡ old) ⊎ ReadiesNext old new)
    pub stopped : OnErr result (IsAtDirectory (items_of old) (unread_of old))

  -- The next item is passed, if there is one, or the reading of its directory is missed.
  pub record Passes (old : Entries C A B R E) (result : Result (Option (Result (DirEntry C A R E) (Error A))) Missed) (new : Entries C A B R E) : Type 0 where
    pub stays : Stays old new
    pub end : IfOk result (λ o. IfNone o ((items_of old ≡ []) × (position_of new ≡ position_of old)))
    pub passed : IfOk result (λ o. IfSome o (λ x. PassesOne old (position_of old) (item x) (position_of new)))
    pub tells : IfErr result (λ missed. (source_of old).tells (failure_of missed))
    pub comes : IfErr result (NotLost (IsSteadyWalk old))
    pub stopped : OnErr result (IsAtDirectory (items_of old) (unread_of old))

  -- Items are passed up to the next that is yielded, if there is one, or a directory's reading is missed.
  pub record GoesOn (old : Entries C A B R E) (result : Result (Option (Result (DirEntry C A R E) (Error A))) Missed) (new : Entries C A B R E) : Type 0 where
    pub stays : Stays old new
    pub reads : IfOk result (λ answer. ReadsUpTo (source_of old).copies (Known old) (source_of old).options (items_of old) (unread_of old) (option_map item answer) (items_of new) (unread_of new))
    pub ahead : IfOk result (λ answer. GrowsAhead old (option_map item answer) new)
    pub tells : IfErr result (λ missed. (source_of old).tells (failure_of missed))
    pub comes : IfErr result (NotLost (IsSteadyWalk old))
    pub stopped : OnErr result (StopsAtDirectory (source_of old).copies (Known old) (source_of old).options (items_of old) (unread_of old))

  -- One call of a walk's `next`. A skip that follows goes by what was yielded.
  pub record Answers (old : Entries C A B R E) (answer : Option (Result (DirEntry C A R E) (Error A))) (new : Entries C A B R E) : Type 0 where
    pub base : readings.base new.reads ≡ readings.base old.reads
    pub depths : IsWithin old → IfSome (option_map item answer) (IsBetween (min_depth_of old) (max_depth_of old)) × IsWithin new
    pub sourced : IsSourced old → IsSourced new
    pub plain : AnswersPlainly (min_depth_of old) (held old) (option_map item answer) (held new)
    pub skip : IfSome (option_map item answer) (λ a. new.skip ≡ skip_behind a)
    pub ended : IfNone answer (held new ≡ [])
    pub lighter : IfSome answer (λ _. weight_of new < weight_of old)
    pub reads : ReadsItems old (option_map item answer) new
    pub most : readings.most new.reads ≤ readings.most old.reads
    pub ahead : old.refused ≡ false → ¬ IsSomeAnd (option_map item answer) (λ a. Stops (source_of old).tells a new) → GrowsAhead old (option_map item answer) new
    pub kept : old.refused ≡ true → readings.read_ahead new.reads ≡ readings.read_ahead old.reads
    pub placed : IsPlaced old → IsPlaced new
    pub steady : StaysSteady old new
    pub coming : (given : Given R E) → IsSteadyWalk old given → AnswersFirst given old (option_map item answer) new

  -- Where a walk went on from its start to what came, that is told as one call of `next` tells it.
  abbrev pub AnswersWhatCame : Result (Option (Result (DirEntry C A R E) (Error A))) Missed → Entries C A B R E → Option (Result (DirEntry C A R E) (Error A)) → Entries C A B R E → Type 0
  AnswersWhatCame came between answer new = (start : Entries C A B R E) → start.refused ≡ false → GoesOn start came between → Answers start answer new

  -- Calls of `next` returned these: all n that were asked for, or fewer, and the next call returned `None`. Or there was no memory for one more.
  abbrev pub FillCalls : ℕ → Entries C A B R E → List (Result (DirEntry C A R E) (Error A)) → Result ℕ AllocError → Entries C A B R E → Type 0
  FillCalls n old answered (Ok told) new = ((told ≡ n) × Yields Answers old answered new) ⊎ ((told < n) × YieldsThen Answers old answered None new)
  FillCalls n old answered (Err error) new = Yields Answers old answered new

  -- A call of `fill` for n answers appends what calls of `next` yield and returns their number: n, or fewer if nothing is held any more. Or memory for one more runs out. Each of them makes the walk lighter.
  pub record Fills (n : ℕ) (old : Entries C A B R E) (before : List (Result (DirEntry C A R E) (Error A))) (told : Result ℕ AllocError) (after : List (Result (DirEntry C A R E) (Error A))) (new : Entries C A B R E) : Type 0 where
    pub answered : List (Result (DirEntry C A R E) (Error A))
    pub appended : after ≡ before ++ answered
    pub number : IfOk told (λ k. (k ≡ length answered) × (k ≤ n))
    pub all : IfOk told (λ k. (k ≡ n) ⊎ (held new ≡ []))
    pub fewer : IfErr told (λ _. length answered < n)
    pub calls : FillCalls n old answered told new
    pub base : readings.base new.reads ≡ readings.base old.reads
    pub most : readings.most new.reads ≤ readings.most old.reads
    pub depths : IsWithin old → AllBetween (min_depth_of old) (max_depth_of old) (map item answered) × IsWithin new
    pub sourced : IsSourced old → IsSourced new
    pub lighter : weight_of new + length answered ≤ weight_of old
    pub steady : StaysSteady old new
    pub coming : (given : Given R E) → IsSteadyWalk old given
        → ComesFirst given old (map item answered) new ⊎ EndsEarly given old (map item answered) new

  -- Calls from here on return items until `None`, and n is their number, or `usize::MAX` if there are more.
  abbrev pub Counts : Entries C A B R E → ℕ → Type 0
  Counts start n =
      (answered : List (Result (DirEntry C A R E) (Error A))) × Drains Answers start answered × (n ≡ min (length answered) (2 ^ 64 - 1))

  -- what was still to come of what a skip drops, over what is given
  abbrev pub dropped_to_come : Given R E → Entries C A B R E → List (Item Worth Worth)
  dropped_to_come given it = value.to_come ((source_of it).reading given) (min_depth_of it) (max_depth_of it) (pair_up (map (counted_item given) (dropped it)) (map (counted_spec given) (unread_of it)))

  -- What dropping items leaves as it is. No more is read ahead then.
  pub record StaysBehind (old new : Entries C A B R E) : Type 0 where
    pub stays : Stays old new
    pub skip : new.skip ≡ old.skip
    pub ahead : length (readings.read_ahead new.reads).done ≤ length (readings.read_ahead old.reads).done

  -- The first items go, as a skip drops them, with the directories below them. If there are none, nothing changes.
  pub record DropsFirst (old new : Entries C A B R E) : Type 0 where
    pub gone : List (Item R E)
    pub items : items_of old ≡ gone ++ items_of new
    pub each : All (λ x. drops old.skip x ≡ true) gone
    pub unread : unread_of new ≡ drop (length (filter has_directory gone)) (unread_of old)
    pub unchanged : gone ≡ [] → new ≡ old

  -- The next item is dropped, with the directory below it, or a skip drops none and nothing changes.
  abbrev pub DropsNext : Entries C A B R E → Bool → Entries C A B R E → Type 0
  DropsNext old true new = DropsFirst old new × (length new.items.items < length old.items.items)
  DropsNext old false new = (new ≡ old) × (prefix_len (drops old.skip) (items_of old) ≡ 0)

  -- What a skip drops goes, with the directories below it. What was to come is what comes of it, and then what is to come now.
  pub record Drops (old new : Entries C A B R E) : Type 0 where
    pub refused : new.refused ≡ old.refused
    pub items : items_of new ≡ drop (skipped old) (items_of old)
    pub unread : unread_of new ≡ drop (length (filter has_directory (dropped old))) (unread_of old)
    pub coming : (given : Given R E) → to_come given old ≡ dropped_to_come given old ++ to_come given new

  -- Memory runs out: the error that says so is all that is to come.
  pub record RunsOut (new : Entries C A B R E) : Type 0 where
    pub held : held new ≡ refusal true
    pub nothing_unread : unread_of new ≡ []
    pub nothing_ahead : readings.read_ahead new.reads ≡ left.nothing_ahead

  -- One call of a walk's `skip_current_dir`. Where nothing is to be dropped nothing changes, and so it is behind the call.
  pub record Skips (old new : Entries C A B R E) : Type 0 where
    pub base : readings.base new.reads ≡ readings.base old.reads
    pub depths : IsWithin old → IsWithin new
    pub sourced : IsSourced old → IsSourced new
    pub lighter : weight_of new ≤ weight_of old
    pub most : readings.most new.reads ≤ readings.most old.reads
    pub ahead : length (readings.read_ahead new.reads).done ≤ length (readings.read_ahead old.reads).done
    pub placed : IsPlaced old → IsPlaced new
    pub steady : StaysSteady old new
    pub drops : Drops old new ⊎ RunsOut new
    pub unchanged : dropped old ≡ [] → new ≡ old
    pub again : dropped new ≡ []
