-- What readers that read when they are asked keep of where their readings come from.
use Rattle.std.proofs.Common.{◌≡◌, ◌≢◌, ◌∙◌, ℕ, suc, ◌+◌, List, [], ◌∷◌, ◌++◌, map, length, append-nil, All, Option, Some, None, option_map, option_to_list, slice_get, Bool, true, false, Result, Ok, Err, is_err, IfOk, OnOk, MatchResult, inl, inr, refl, sym, ap, ap₂, subst, arith}
use Rattle.std.specs.Prelude.{MatchOption}
use Rattle.std.specs.Iterator.{Yields}
use Rattle.std.specs.List.{AllZip}
use Rattle.std.specs.declared.alloc.AllocError.{AllocError}
use Rattle.std.specs.declared.clone.Clone as Clone
use Rattle.std.specs.declared.default.Default as Default
use Rattle.std.proofs.lemmas.List.{nil_from_length, reverse-append, map-append, length-map}
use Rattle.std.proofs.lemmas.List.Elements.{All-nil, All-cons, All-head, All-tail, All-append}
use Rattle.std.proofs.lemmas.Option.{slice_get-map}
use Rattle.jwalk.specs.jwalk_model.Counted.{Worth}
use Rattle.jwalk.specs.jwalk_model.Error.{memory}
use Rattle.jwalk.specs.jwalk_model.Preorder.{preorder}
use Rattle.jwalk.specs.jwalk_model.ReadDir.{Spec, Outcome, children_of, IsClone, AreClones}
use Rattle.jwalk.specs.jwalk_fs.declared.file_system.FileSystem as FileSystem
use Rattle.jwalk.specs.jwalk_order.Addressed.{Addressed, addressed, addresses_of, numbered}
use Rattle.jwalk.specs.jwalk_order.Frontier.{children_from, passed, next_address, roots}
use Rattle.jwalk.specs.jwalk_order.IndexPath.{address}
use Rattle.jwalk.specs.jwalk_order.Ordered.{address_of, child_count_of}
use Rattle.jwalk.specs.jwalk_order.declared.index_path.IndexPath.{IndexPath}
use Rattle.jwalk.specs.jwalk_order.declared.ordered.Ordered.{Ordered}
use Rattle.jwalk.specs.jwalk_job.declared.process_read_dir.ProcessReadDir as ProcessReadDir
use Rattle.jwalk.specs.jwalk_job.declared.error.Error.{Error}
use Rattle.jwalk.specs.jwalk_job.declared.read_dir_spec.ReadDirSpec.{ReadDirSpec}
use Rattle.jwalk.specs.jwalk_job.ReadDirSpec.{spec}
use Rattle.jwalk.specs.jwalk_job.Given.{Given, counted_spec, counted_outcome}
use Rattle.jwalk.specs.jwalk_job.declared.job.Job.{Job}
use Rattle.jwalk.specs.jwalk_job.declared.read_dir.ReadDir.{ReadDir}
use Rattle.jwalk.specs.jwalk_job.Job.{IsReadingOf}
use Rattle.jwalk.specs.jwalk_job.ReadDir.{outcome}
use Rattle.jwalk.specs.jwalk_readings.Message.{Message, IsLawfulMessage}
use Rattle.jwalk.specs.jwalk_readings.Wanted.{Fits}
use Rattle.jwalk.specs.jwalk_readings.declared.wanted.Wanted.{Wanted}
use Rattle.jwalk.specs.jwalk_readings.Due.{IsDue}
use Rattle.jwalk.specs.jwalk_readings.Origin.{Origin, CountAlike, IsAt, IsMessageOf}
use Rattle.jwalk.specs.jwalk_readings.declared.readings.Readings as Readings
use Rattle.jwalk.specs.jwalk_readings.Gives.{Gives}
use Rattle.jwalk.proofs.OriginFacts.{below_read, child_at}
use Rattle.jwalk.proofs.DueFacts.{due_fits}
use Rattle.jwalk.proofs.CopyFacts.{alike_copies}
use Rattle.jwalk_laws.specs.OwnReaders.{placed, stacked, ReadsFor}

-- what holds of an `Ok` holds where a test says that it isn't an `Err`
pub was_ok : {T F : Type 0} (r : Result T F) (b : Bool) (P : Type 0) → b ≡ is_err r → b ≡ false → OnOk r P → P
was_ok (Ok x) b P is not h = h
was_ok (Err e) b P is not h = let no : true ≡ false = sym is ∙ not in absurd cc

-- numbered values have the addresses of children
pub addresses_numbered : {V : Type 0} (a : List ℕ) (i : ℕ) (xs : List V) → addresses_of (numbered a i xs) ≡ children_from i a (length xs)
addresses_numbered a i [] = refl
addresses_numbered a i (x ∷ xs) = ap (λ l. (a ++ i ∷ []) ∷ l) (addresses_numbered a (i + 1) xs)

-- two facts of an `Ok` give a third
pub if_ok_both : {T F : Type 0} (r : Result T F) (P Q W : T → Type 0) → ((x : T) → P x → Q x → W x) → IfOk r P → IfOk r Q → IfOk r W
if_ok_both (Ok x) P Q W both p q = both x p q
if_ok_both (Err e) P Q W both p q = tt

module _ {C A R E : Type 0} where
  -- what is put on a stack lies on top
  pub stacked_put : (waiting : List (IndexPath A × ReadDirSpec C A R E)) (w : IndexPath A × ReadDirSpec C A R E) → stacked (waiting ++ w ∷ []) ≡ placed w ∷ stacked waiting
  stacked_put waiting w = ap (map placed) (reverse-append waiting (w ∷ []))

  -- one more child is put in front of those behind it
  pub one_put : (a : List ℕ) (waiting : List (IndexPath A × ReadDirSpec C A R E)) (at : IndexPath A) (child : ReadDirSpec C A R E) (later : List (ReadDirSpec C A R E)) (before : List (Addressed (Spec R))) (k n : ℕ) → address at ≡ a ++ k ∷ [] → n ≡ k + 1
      → stacked waiting ≡ numbered a n (map spec later) ++ before → stacked (waiting ++ (at, child) ∷ []) ≡ numbered a k (map spec (child ∷ later)) ++ before
  one_put a waiting at child later before k n here next sofar =
      stacked_put waiting (at, child)
      ∙ ap₂ (λ b l. record { at = b; value = spec child; child_count = 0 } ∷ l) here (sofar ∙ ap (λ m. numbered a m (map spec later) ++ before) next)

  -- A directory is taken off a stack, and those below it are put there: their addresses come next.
  pub goes_on : (old mid new : List (IndexPath A × ReadDirSpec C A R E)) (at next : IndexPath A) (of : ReadDirSpec C A R E) (below : List (ReadDirSpec C A R E)) (n : ℕ) → old ≡ mid ++ (at, of) ∷ [] → stacked new ≡ numbered (address next) 0 (map spec below) ++ stacked mid → next ≡ at → n ≡ length below
      → addresses_of (stacked new) ≡ passed (addresses_of (stacked old)) n
  goes_on old mid new at next of below n took put here count =
      ap addresses_of put
      ∙ map-append (λ x. x.at) (numbered (address next) 0 (map spec below)) (stacked mid)
      ∙ ap (λ l. l ++ addresses_of (stacked mid)) (addresses_numbered (address next) 0 (map spec below) ∙ ap (children_from 0 (address next)) (length-map below spec ∙ sym count))
      ∙ ap (λ b. children_from 0 (address b) n ++ addresses_of (stacked mid)) here
      ∙ sym (ap (λ l. passed (addresses_of l) n) (ap stacked took ∙ stacked_put mid (at, of)))

module _ {C A R E : Type 0} (old new : List (IndexPath A × ReadDirSpec C A R E)) where
  -- A directory is taken off a stack, if there is one, and its address is passed.
  pub passes_on : (n m : ℕ) → n ≡ length old → (o : Option (IndexPath A × ReadDirSpec C A R E)) → old ≡ new ++ option_to_list o → MatchOption o ((n ≡ 0) × (m ≡ 0)) (λ x. m + 1 ≡ n) → addresses_of (stacked new) ≡ passed (addresses_of (stacked old)) 0
  passes_on n m long (Some w) took some = sym (ap (λ l. passed (addresses_of l) 0) (ap stacked took ∙ stacked_put new w))
  passes_on n m long None took none =
      let empty : old ≡ [] = nil_from_length old (sym long ∙ none.0) in
      ap (λ l. addresses_of (stacked l)) (sym (append-nil new) ∙ sym took ∙ empty) ∙ sym (ap (λ l. passed (addresses_of (stacked l)) 0) empty)

  -- What holds of all on a stack still does.
  pub all_left : (P : Addressed (Spec R) → Type 0) (o : Option (IndexPath A × ReadDirSpec C A R E)) → old ≡ new ++ option_to_list o → All P (stacked old) → All P (stacked new)
  all_left P None took all = subst (λ l. All P (stacked l)) (took ∙ append-nil new) all
  all_left P (Some w) took all = All-tail P (placed w) (stacked new) (subst (All P) (ap stacked took ∙ stacked_put new w) all)

clones_length : {R : Type 0} (is_clone : R → R → Type 0) (specs clones : List (Spec R)) → AreClones is_clone specs clones → length clones ≡ length specs
clones_length is_clone [] [] are = refl
clones_length is_clone [] (c ∷ clones) are = absurd are
clones_length is_clone (s ∷ specs) [] are = absurd are
clones_length is_clone (s ∷ specs) (c ∷ clones) are = ap suc (clones_length is_clone specs clones are.1)

module _ {C S P A R E : Type 0} (files : FileSystem.Ghosts S) (process : ProcessReadDir.Ghosts P C A R E) (clone : Clone.Ghosts R) (defaults : Default.Ghosts E) (origin : Origin C S P A R E) where
  abbrev At : Addressed (Spec R) → Type 0
  At w = IsAt files process clone defaults origin w.at w.value

  numbered_at : (a : List ℕ) (from : ℕ) (specs : List (Spec R)) → ((i : ℕ) (s : Spec R) → slice_get specs i ≡ Some s → IsAt files process clone defaults origin (a ++ (from + i) ∷ []) s) → All At (numbered a from specs)
  numbered_at a from [] each = All-nil At
  numbered_at a from (s ∷ specs) each =
      All-cons At (record { at = a ++ from ∷ []; value = s; child_count = 0 }) (numbered a (from + 1) specs)
      (let here : from + 0 ≡ from = omega arith in subst (λ k. IsAt files process clone defaults origin (a ++ k ∷ []) s) here (each 0 s refl))
      (numbered_at a (from + 1) specs (λ i y is. let there : from + suc i ≡ (from + 1) + i = omega arith in subst (λ k. IsAt files process clone defaults origin (a ++ k ∷ []) y) there (each (suc i) y is)))

  first_at : (a : List ℕ) (specs : List (Spec R)) → ((i : ℕ) (s : Spec R) → slice_get specs i ≡ Some s → IsAt files process clone defaults origin (a ++ i ∷ []) s) → All At (numbered a 0 specs)
  first_at a specs each = numbered_at a 0 specs (λ i s is. let here : i ≡ 0 + i = omega arith in subst (λ k. IsAt files process clone defaults origin (a ++ k ∷ []) s) here (each i s is))

  -- Directories that count as the walk's roots are at the addresses of roots,
  pub roots_at : (specs : List (Spec R)) → CountAlike clone specs origin.roots → All At (numbered [] 0 specs)
  roots_at specs alike = first_at [] specs (λ i s is given steady.
      ap (λ l. slice_get l i) (sym (alike given.read_dir_state steady.clones))
      ∙ slice_get-map (counted_spec given) specs i
      ∙ ap (option_map (counted_spec given)) is)

  -- and those that were found in a directory at the addresses of its children.
  below_at : (a : List ℕ) (of : Spec R) (r : Result (Result (ReadDir C A R E) (Error A)) AllocError) (job : Job C S P A R E) (below : List (ReadDirSpec C A R E)) → job ≡ origin.job → IsAt files process clone defaults origin a of
      → IfOk r (λ o. IsReadingOf files process clone defaults job of (outcome o)) → MatchResult r (λ o. AreClones clone.is_clone (children_of (outcome o)) (map spec below)) (λ _. below ≡ [])
      → All At (numbered a 0 (map spec below))
  below_at a of (Ok o) job below own there lawful clones =
      first_at a (map spec below) (λ i s is. child_at files process clone defaults origin a of (map spec below) i s there (below_read files process clone defaults origin job of (outcome o) (map spec below) own lawful clones) is)
  below_at a of (Err e) job below own there lawful none = subst (λ l. All At (numbered a 0 (map spec l))) (sym none) (All-nil At)

  -- A directory is taken off the stack and read, and those below it are put there.
  module _ (job : Job C S P A R E) (old mid new : List (IndexPath A × ReadDirSpec C A R E)) (at : IndexPath A) (of : ReadDirSpec C A R E) (item : Ordered (Message C S P A R E) A) (below : List (ReadDirSpec C A R E))
      (took : old ≡ mid ++ (at, of) ∷ []) (put : stacked new ≡ numbered (address_of item) 0 (map spec below) ++ stacked mid)
      (message : Message C S P A R E) (own : message.job ≡ job) (which : message.of ≡ of) (lawful : IsLawfulMessage files process clone defaults message) (found : MatchResult message.outcome (λ o. AreClones clone.is_clone (children_of (outcome o)) (map spec below)) (λ _. below ≡ []))
      (here : item.index_path ≡ at) (is : item.value ≡ message) (count : child_count_of item ≡ length below) where
    was : stacked old ≡ placed (at, of) ∷ stacked mid
    was = ap stacked took ∙ stacked_put mid (at, of)

    first : ReadsFor files process clone defaults job old origin → IsAt files process clone defaults origin (address at) (spec message.of)
    first comes = subst (λ s. IsAt files process clone defaults origin (address at) (spec s)) (sym which) (All-head At (placed (at, of)) (stacked mid) (subst (All At) was comes.at))

    counted : (r : Result (Result (ReadDir C A R E) (Error A)) AllocError) → MatchResult r (λ o. AreClones clone.is_clone (children_of (outcome o)) (map spec below)) (λ _. below ≡ []) → IfOk r (λ o. child_count_of item ≡ length (children_of (outcome o)))
    counted (Ok o) clones = count ∙ sym (length-map below spec) ∙ clones_length clone.is_clone (children_of (outcome o)) (map spec below) clones
    counted (Err e) none = tt

    -- The message is of the directory at its address,
    pub message_of : ReadsFor files process clone defaults job old origin → IsMessageOf files process clone defaults origin (addressed item)
    message_of comes =
        subst (λ b. IsMessageOf files process clone defaults origin (record { at = b; value = item.value; child_count = child_count_of item })) (sym (ap address here))
        (subst (λ m. IsMessageOf files process clone defaults origin (record { at = address at; value = m; child_count = child_count_of item })) (sym is)
        (record { job = own ∙ comes.own; at = first comes; count = counted message.outcome found }))

    -- the readers go on for the same walk,
    pub reads_on : ReadsFor files process clone defaults job old origin → ReadsFor files process clone defaults job new origin
    reads_on comes = record {
      own = comes.own;
      at = subst (All At) (sym (put ∙ ap (λ b. numbered (address b) 0 (map spec below) ++ stacked mid) here))
          (All-append At (numbered (address at) 0 (map spec below)) (stacked mid)
          (below_at (address at) (spec message.of) message.outcome message.job below (own ∙ comes.own) (first comes) lawful found)
          (All-tail At (placed (at, of)) (stacked mid) (subst (All At) was comes.at)));
    }

    -- and if it isn't the reading that is wanted, none is due.
    pub other_due : (wanted : Wanted A) → ¬ Fits wanted item → ReadsFor files process clone defaults job old origin → ¬ IsDue files process clone defaults origin (addresses_of (stacked old)) wanted
    other_due wanted other comes due =
        other (due_fits files process clone defaults origin (addresses_of (stacked old)) wanted item due (ap address here ∙ sym (ap (λ l. next_address (addresses_of l)) was)) (message_of comes))

  -- A stack of copies of the walk's roots makes readers of the walk, whose addresses are those of roots.
  pub roots_stacked : (job : Job C S P A R E) (waiting : List (IndexPath A × ReadDirSpec C A R E)) (specs copies : List (ReadDirSpec C A R E)) → job ≡ origin.job → origin.roots ≡ map spec specs → AllZip (λ x y. IsClone clone.is_clone (spec x) (spec y)) specs copies → length copies ≡ length specs → stacked waiting ≡ numbered [] 0 (map spec copies)
      → ReadsFor files process clone defaults job waiting origin × (addresses_of (stacked waiting) ≡ roots (length specs))
  roots_stacked job waiting specs copies own are cloned long put = (
    record { own = own; at = subst (All At) (sym put) (roots_at (map spec copies) (subst (CountAlike clone (map spec copies)) (sym are) (alike_copies clone specs copies cloned))) },
    ap addresses_of put ∙ addresses_numbered [] 0 (map spec copies) ∙ ap roots (length-map copies spec ∙ long),
  )

  -- With nothing on the stack none is due either.
  pub none_due : (waiting : List (IndexPath A × ReadDirSpec C A R E)) (wanted : Wanted A) → waiting ≡ [] → ¬ IsDue files process clone defaults origin (addresses_of (stacked waiting)) wanted
  none_due waiting wanted none due = due.some (ap (λ l. addresses_of (stacked l)) none)

  -- It reads for the walk where a directory was taken off the stack.
  pub left_reads : (job : Job C S P A R E) (old new : List (IndexPath A × ReadDirSpec C A R E)) (o : Option (IndexPath A × ReadDirSpec C A R E)) → old ≡ new ++ option_to_list o → ReadsFor files process clone defaults job old origin → ReadsFor files process clone defaults job new origin
  left_reads job old new o took comes = record { own = comes.own; at = all_left old new At o took comes.at }

  -- and it reads for any walk by its job
  pub none_reads : (job : Job C S P A R E) (old new : List (IndexPath A × ReadDirSpec C A R E)) → new ≡ [] → ReadsFor files process clone defaults job old origin → ReadsFor files process clone defaults job new origin
  none_reads job old new none comes = record { own = comes.own; at = subst (All At) (sym (ap stacked none)) (All-nil At) }
