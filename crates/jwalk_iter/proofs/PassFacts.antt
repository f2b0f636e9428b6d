-- What a walk over any readings does when it passes items.
use Rattle.std.proofs.Common.{◌≡◌, ◌≢◌, ◌∙◌, ◌<◌, ◌≤◌, ℕ, suc, ◌+◌, ◌*◌, Bool, true, false, List, [], ◌∷◌, ◌++◌, length, append-nil, Option, Some, None, IsSome, Result, Ok, Err, OnErr, IfErr, IsErr, IsErrAnd, inl, inr, refl, sym, ap, subst, arith}
use Rattle.std.specs.Prelude.{All, option_map}
use Rattle.std.proofs.lemmas.List.Elements.{All-nil, All-cons, All-append}
use Rattle.jwalk_model.specs.Entry.{Item, has_directory}
use Rattle.jwalk_model.specs.ReadDir.{Spec, Outcome, IsLawfulReading, AreClones, children_of}
use Rattle.jwalk_model.specs.Listing.{is_answered}
use Rattle.jwalk_model.specs.Held.{pair_up, weight, first_source, is_plain}
use Rattle.jwalk_order.specs.Frontier.{next_address}
use Rattle.jwalk_job.specs.declared.error.Error.{Error}
use Rattle.jwalk_job.specs.declared.dir_entry.DirEntry.{DirEntry}
use Rattle.jwalk_job.specs.Entry.{item}
use Rattle.jwalk_job.specs.Given.{Given, counted_spec, counted_outcome}
use Rattle.jwalk_readings.specs.declared.readers.Missed.{Missed}
use Rattle.jwalk_readings.specs.declared.readers.Missed.TheVariants.{Memory}
use Rattle.jwalk_readings.specs.CrewReads.{failure_of}
use Rattle.jwalk_readings.specs.BatchReads.{PassesAddress}
use Rattle.jwalk_readings.specs.Reads.{ReadsFirstBy, ReadsNextBy}
use Rattle.jwalk_readings.specs.Source.{Source, IsSource, EntersNextIn}
use Rattle.jwalk_iter.specs.Step.{IsAtDirectory, Receives, PassesNext, passed_plainly, passed_entering, LeavesOut, none_left_out, one_left_out}
use Rattle.jwalk_readings.specs.declared.readings.Readings as Readings
use Rattle.jwalk_iter.specs.declared.entries.Entries.{Entries}
use Rattle.jwalk_iter.specs.Entries.{Position, ArePlaced, items_of, source_of, unread_of, position_of, min_depth_of, max_depth_of, Known, KnownAt, IsSteadyWalk, PassesOne, PassesMany, none_passed, one_passed, one_entered, Stays, Passes, GoesOn}
use Rattle.jwalk_readings.proofs.ResultFacts.{none_ok, on_err, fewer_not_lost, passed_not_lost}
use Rattle.jwalk_iter.proofs.AheadFacts.{alone_at, at_nothing, at_first, same_position}
use Rattle.jwalk_iter.proofs.PlacedFacts.{left_placed}
use Rattle.jwalk_iter.proofs.StepFacts.{next_over, next_lighter}

-- the first pair gives nothing, where no directory is to be read below it
plain_if : {R : Type 0} (E : Type 0) (b : Bool) (specs : List (Spec R)) → ¬ ((b ≡ true) × (specs ≢ [])) → is_plain (first_source {R = R} {E = E} b specs) ≡ true
plain_if E false specs none = refl
plain_if E true [] none = refl
plain_if E true (s ∷ specs) none = absurd (none (refl, λ is. cc))

-- and so it was where a reading was handed on
pub at_read : {X T F R E : Type 0} (copies : R → R → Type 0) (known : Spec R → Outcome R E → Type 0) (max_depth : ℕ) (view : X → Outcome R E) (read : Option X) (told : Result T F) (items rest : List (Item R E)) (x : Item R E) (specs left : List (Spec R)) → items ≡ x ∷ rest → has_directory x ≡ true → IsSome read → ReadsNextBy copies known max_depth specs (option_map view read) left → OnErr told (IsAtDirectory items specs)
at_read copies known max_depth view read (Ok done) items rest x specs left is dir some reads = tt
at_read copies known max_depth view None (Err refused) items rest x specs left is dir some reads = let no : false ≡ true = some in cc
at_read copies known max_depth view (Some o) (Err refused) items rest x specs left is dir some reads = at_first items rest x specs reads.rest reads.first is dir reads.took

-- where memory ran out, that is told
pub tells_refused : {T R E : Type 0} (source : Source R E) → IsSource source → (r : Result T Missed) → IsErrAnd r (λ m. m ≡ Memory) → IfErr r (λ m. source.tells (failure_of m))
tells_refused source is (Ok x) why = tt
tells_refused source is (Err m) why = rw why is.memory_told

pub tells_passed : {T R E : Type 0} (source : Source R E) (missed : Missed) (r : Result T Missed) → IsErrAnd r (λ m. m ≡ missed) → source.tells (failure_of missed) → IfErr r (λ m. source.tells (failure_of m))
tells_passed source missed (Ok x) why tells = tt
tells_passed source missed (Err m) why tells = rw why tells

module _ {C A B R E : Type 0} (readings : Readings.Ghosts B C A R E) where
  pub stays_by : (old new : Entries C A B R E) (mid : B) → new.reads ≡ mid → new.refused ≡ old.refused → readings.base mid ≡ readings.base old.reads → readings.most mid ≤ readings.most old.reads → ((given : Given R E) → readings.steady old.reads given → readings.steady mid given) → Stays readings old new
  stays_by old new mid same refused base most steady = record { base = rw same base; refused = refused; most = rw same most; steady = rw same steady }

  -- what is known later was known before
  known_before : (old new : Entries C A B R E) → Stays readings old new → (at : List ℕ) (x : Item R E) (s : Spec R) (o : Outcome R E) → KnownAt readings new at x s o → KnownAt readings old at x s o
  known_before old new stays at x s o known = (
    record {
      told = subst (λ b. (readings.source b).told at s o) stays.base known.0.told;
      value = λ given steady. subst (λ b. counted_outcome given o ≡ (readings.source b).reading given (counted_spec given s)) stays.base (known.0.value given (stays.steady given steady));
    },
    subst (λ b. (readings.source b).below x s) stays.base known.1,
  )

  -- what is read ahead grows by less than the width with each directory that is entered
  grows : (it : Entries C A B R E) {from to : Position R E} {passed : List (Item R E)} {entered : ℕ} → PassesMany readings it from passed entered to → length to.ahead.done + entered ≤ length from.ahead.done + entered * (source_of readings it).width
  grows it none_passed = omega arith
  grows it (one_passed {from} {mid} plain rest) =
      let same : length mid.ahead.done ≡ length from.ahead.done = ap (λ p. length p.ahead.done) plain.others in
      omega (arith, same, grows it rest)
  grows it (one_entered {from} {mid} enters rest) =
      omega (arith, grows it rest, (readings.sound (readings.base it.reads)).fewer (next_address from.frontier) from.ahead mid.ahead enters.ahead)

  -- one item more is passed
  one_more : (it : Entries C A B R E) {from mid to : Position R E} {passed : List (Item R E)} {entered : ℕ} {x : Item R E} → PassesMany readings it from passed entered mid → PassesOne readings it mid x to → (n : ℕ) × PassesMany readings it from (passed ++ x ∷ []) n to
  one_more it none_passed one = elim one [
    | inl plain ↦ (0, one_passed plain none_passed)
    | inr enters ↦ (1, one_entered enters none_passed)
  ]
  one_more it (one_passed plain rest) one = let more = one_more it rest one in (more.0, one_passed plain more.1)
  one_more it (one_entered enters rest) one = let more = one_more it rest one in (suc more.0, one_entered enters more.1)

  -- what is passed later is so by the walk as it was before
  pub passed_before : (old mid : Entries C A B R E) → Stays readings old mid → {from to : Position R E} {x : Item R E} → PassesOne readings mid from x to → PassesOne readings old from x to
  passed_before old mid stays {from} {to} one = elim one [
    | inl plain ↦ inl plain
    | inr enters ↦
        let at = next_address from.frontier in
        let reads = enters.reads in
        inr (record {
          entry = enters.entry;
          rest = enters.rest;
          first = enters.first;
          has = enters.has;
          outcome = enters.outcome;
          reads = record {
            first = reads.first;
            rest = reads.rest;
            took = reads.took;
            reading = record {
              lawful = subst (λ b. IsLawfulReading (readings.source b).options.max_depth reads.first enters.outcome) stays.base reads.reading.lawful;
              few = reads.reading.few;
              value = known_before old mid stays at enters.entry reads.first enters.outcome reads.reading.value;
            };
            stacks = record { front = reads.stacks.front; left = reads.stacks.left; clones = subst (λ b. AreClones (readings.source b).copies (children_of enters.outcome) reads.stacks.front) stays.base reads.stacks.clones };
          };
          told = enters.told;
          items = enters.items;
          frontier = enters.frontier;
          ahead = subst (λ b. (readings.source b).enters at from.ahead to.ahead) stays.base enters.ahead;
        })
  ]

  -- a directory's entry is passed, where this came of its reading
  pub passed_by_reading : (old new : Entries C A B R E) (x : Item R E) (rest : List (Item R E)) (read : Option (Outcome R E)) (answer : Item R E) (mid : B) → items_of old ≡ x ∷ rest → has_directory x ≡ true → new.reads ≡ mid
      → ReadsNextBy (source_of readings old).copies (KnownAt readings old (next_address (readings.frontier old.reads)) x) (max_depth_of readings old) (unread_of readings old) read (readings.to_read mid)
      → EntersNextIn (source_of readings old) (next_address (readings.frontier old.reads)) (readings.read_ahead old.reads) read (readings.read_ahead mid)
      → PassesAddress (readings.frontier old.reads) read (readings.frontier mid)
      → Receives read x rest answer (items_of new)
      → PassesOne readings old (position_of readings old) answer (position_of readings new)
  passed_by_reading old new x rest None answer mid items dir same reads enters passes received = inl (record {
    rest = rest;
    first = items ∙ ap (λ a. a ∷ rest) (sym received.0);
    none_below = at_nothing (items_of old) (unread_of readings old) reads.0;
    others = same_position received.1 (ap readings.to_read same ∙ reads.1 ∙ sym reads.0) (ap readings.frontier same ∙ passes) (ap readings.read_ahead same ∙ enters);
  })
  passed_by_reading old new x rest (Some outcome) answer mid items dir same reads enters passes received = inr (record {
    entry = x;
    rest = rest;
    first = items;
    has = dir;
    outcome = outcome;
    reads = subst (λ (r : B). ReadsFirstBy (source_of readings old).copies (KnownAt readings old (next_address (readings.frontier old.reads)) x) (max_depth_of readings old) (unread_of readings old) outcome (readings.to_read r)) (sym same) reads;
    told = received.0;
    items = received.1;
    frontier = ap readings.frontier same ∙ passes;
    ahead = subst (λ (r : B). (source_of readings old).enters (next_address (readings.frontier old.reads)) (readings.read_ahead old.reads) (readings.read_ahead r)) (sym same) enters;
  })

  -- an item without a directory is passed
  pub passed_alone : (old : Entries C A B R E) (from : Position R E) (x : Item R E) (rest : List (Item R E)) → from.items ≡ x ∷ rest → has_directory x ≡ false → PassesOne readings old from x (record from { items = rest })
  passed_alone old from x rest items none = inl (record { rest = rest; first = items; none_below = alone_at from.items rest x from.unread items none; others = refl })

  -- one item that is passed, by what is held
  next_of : (it : Entries C A B R E) {from to : Position R E} {x : Item R E} → PassesOne readings it from x to → PassesNext (source_of readings it).copies (KnownAt readings it (next_address from.frontier)) (source_of readings it).options from.items from.unread x to.items to.unread
  next_of it {from} {to} {x} one = elim one [
    | inl plain ↦
        let Next : List (Item R E) → Position R E → Type 0 = λ items after. PassesNext (source_of readings it).copies (KnownAt readings it (next_address from.frontier)) (source_of readings it).options items from.unread x after.items after.unread in
        let here : Next (x ∷ plain.rest) (record from { items = plain.rest }) = passed_plainly (plain_if E (has_directory x) from.unread (subst (λ l. ¬ IsAtDirectory l from.unread) plain.first plain.none_below)) in
        subst (λ l. Next l to) (sym plain.first) (subst (Next (x ∷ plain.rest)) (sym plain.others) here)
    | inr enters ↦ rw (enters.first, enters.told, enters.items) (passed_entering {outcome = enters.outcome} enters.has enters.reads)
  ]

  pub stays_same : (it : Entries C A B R E) → Stays readings it it
  stays_same it = record { base = refl; refused = refl; most = omega arith; steady = λ given steady. steady }

  pub stays_on : (old mid new : Entries C A B R E) → Stays readings old mid → Stays readings mid new → Stays readings old new
  stays_on old mid new one more = record { base = more.base ∙ one.base; refused = more.refused ∙ one.refused; most = omega (arith, one.most, more.most); steady = λ given steady. more.steady given (one.steady given steady) }

  -- What was passed over so far is left out.
  pub record PassedOver (old new : Entries C A B R E) : Type 0 where
    pub stays : Stays readings old new
    pub leaves : LeavesOut (source_of readings old).copies (Known readings old) (source_of readings old).options (items_of old) (unread_of readings old) (items_of new) (unread_of readings new)
    pub left_out : List (Item R E)
    pub too_high : All (λ x. is_answered (min_depth_of readings old) x ≡ false) left_out
    pub entered : ℕ
    pub passes : PassesMany readings old (position_of readings old) left_out entered (position_of readings new)

  pub none_passed_over : (it : Entries C A B R E) → PassedOver it it
  none_passed_over it = record { stays = stays_same it; leaves = none_left_out; left_out = []; too_high = All-nil _; entered = 0; passes = none_passed }

  -- if the walk was steady, it still is once items were passed over
  over_steady : (old mid : Entries C A B R E) → PassedOver old mid → (given : Given R E) → IsSteadyWalk readings old given → IsSteadyWalk readings mid given
  over_steady old mid over given steady = record {
    reads = over.stays.steady given steady.reads;
    placed = subst (λ b. ArePlaced (readings.source b).below (items_of mid) (unread_of readings mid)) (sym over.stays.base) (left_placed (source_of readings old).copies (source_of readings old).below (readings.sound (readings.base old.reads)).found_below (Known readings old) (source_of readings old).options (items_of old) (unread_of readings old) over.leaves steady.placed);
  }

  module _ (old mid new : Entries C A B R E) (passed : Result (DirEntry C A R E) (Error A)) (over : PassedOver old mid) (passes : Passes readings mid (Ok (Some passed)) new) where
    passes_on : PassesNext (source_of readings old).copies (Known readings old) (source_of readings old).options (items_of mid) (unread_of readings mid) (item passed) (items_of new) (unread_of readings new)
    passes_on =
        let at = next_address (readings.frontier mid.reads) in
        next_over (source_of readings old).copies (KnownAt readings old at) (source_of readings old).options (Known readings old) (λ x s o known. (at, known)) (next_of old (passed_before old mid over.stays passes.passed))

    many_on : (n : ℕ) × PassesMany readings old (position_of readings old) (over.left_out ++ item passed ∷ []) n (position_of readings new)
    many_on = one_more old over.passes (passed_before old mid over.stays passes.passed)

    pub one_passed_over : is_answered (min_depth_of readings new) (item passed) ≡ false → PassedOver old new
    one_passed_over out =
        let Out : Item R E → Type 0 = λ x. is_answered (min_depth_of readings old) x ≡ false in
        let left_out : Out (item passed) = subst (λ b. is_answered (readings.source b).options.min_depth (item passed) ≡ false) (passes.stays.base ∙ over.stays.base) out in
        record {
          stays = stays_on old mid new over.stays passes.stays;
          left_out = over.left_out ++ item passed ∷ [];
          too_high = All-append Out over.left_out (item passed ∷ []) over.too_high (All-cons Out (item passed) [] left_out (All-nil Out));
          entered = many_on.0;
          passes = many_on.1;
          leaves = one_left_out over.leaves passes_on left_out;
        }

    -- what was passed over, and then one item that is yielded
    pub goes_to_answer : is_answered (min_depth_of readings new) (item passed) ≡ true → GoesOn readings old (Ok (Some passed)) new
    goes_to_answer kept = record {
      stays = stays_on old mid new over.stays passes.stays;
      reads = (items_of mid, unread_of readings mid, over.leaves, (passes_on, subst (λ b. is_answered (readings.source b).options.min_depth (item passed) ≡ true) (passes.stays.base ∙ over.stays.base) kept));
      ahead = record { left_out = over.left_out; too_high = over.too_high; entered = many_on.0; passes = many_on.1; ahead = grows old many_on.1 };
      tells = tt;
      comes = tt;
      stopped = tt;
    }

  pub passes_lighter : (old new : Entries C A B R E) (passed : Result (DirEntry C A R E) (Error A)) → Passes readings old (Ok (Some passed)) new → weight (max_depth_of readings new) (pair_up (items_of new) (unread_of readings new)) < weight (max_depth_of readings old) (pair_up (items_of old) (unread_of readings old))
  passes_lighter old new passed passes = subst (λ b. weight (readings.source b).options.max_depth (pair_up (items_of new) (unread_of readings new)) < weight (max_depth_of readings old) (pair_up (items_of old) (unread_of readings old))) (sym passes.stays.base) (next_lighter (source_of readings old).copies (KnownAt readings old (next_address (readings.frontier old.reads))) (source_of readings old).options (next_of old passes.passed))

  -- or nothing that is left
  pub goes_to_end : (old mid new : Entries C A B R E) → PassedOver old mid → Passes readings mid (Ok None) new → GoesOn readings old (Ok None) new
  goes_to_end old mid new over passes =
      let same = passes.end.1 in
      let all = subst (λ p. PassesMany readings old (position_of readings old) over.left_out over.entered p) (sym same) over.passes in
      record {
        stays = stays_on old mid new over.stays passes.stays;
        reads = (items_of mid, unread_of readings mid, over.leaves, (passes.end.0, ap (λ p. p.items) same ∙ passes.end.0, ap (λ p. p.unread) same));
        ahead = record {
          left_out = over.left_out;
          too_high = over.too_high;
          entered = over.entered;
          passes = subst (λ l. PassesMany readings old (position_of readings old) l over.entered (position_of readings new)) (sym (append-nil over.left_out)) all;
          ahead = grows old all;
        };
        tells = tt;
        comes = tt;
        stopped = tt;
      }

  -- or a directory whose reading is missed
  pub goes_to_missed : (old mid new : Entries C A B R E) (missed : Missed) (told : Result (Option (Result (DirEntry C A R E) (Error A))) Missed) → IsErr told → IsErrAnd told (λ m. m ≡ missed) → PassedOver old mid → Passes readings mid (Err missed) new → GoesOn readings old told new
  goes_to_missed old mid new missed told failed why over passes = record {
    stays = stays_on old mid new over.stays passes.stays;
    reads = none_ok _ told failed;
    ahead = none_ok _ told failed;
    tells = tells_passed (source_of readings old) missed told why (subst (λ b. (readings.source b).tells (failure_of missed)) over.stays.base passes.tells);
    comes = passed_not_lost _ missed told why (fewer_not_lost _ _ missed (over_steady old mid over) passes.comes);
    stopped = on_err told (items_of mid, unread_of readings mid, over.leaves, passes.stopped);
  }
