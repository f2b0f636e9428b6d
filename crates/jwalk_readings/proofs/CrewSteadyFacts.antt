-- A crew's readings are those of the directories that are to be read.
use Rattle.std.proofs.Common.{◌≡◌, ◌≢◌, ◌∙◌, ℕ, suc, ◌+◌, List, [], ◌∷◌, ◌++◌, map, length, drop, Option, Some, None, slice_get, Result, Ok, IfOk, IsSomeAnd, refl, sym, ap, ap₂, subst, arith}
use Rattle.std.proofs.lemmas.List.{map-append, length-map}
use Rattle.std.proofs.lemmas.Option.{none-some}
use Rattle.std.specs.declared.alloc.AllocError.{AllocError}
use Rattle.std.specs.declared.clone.Clone as Clone
use Rattle.std.specs.declared.default.Default as Default
use Rattle.jwalk_model.specs.Options.{Options, ReadsAs}
use Rattle.jwalk_model.specs.Counted.{Worth, blank, spec_by}
use Rattle.jwalk_model.specs.Job as value
use Rattle.jwalk_model.specs.ReadDir.{Spec, Outcome, children_of, AreClones}
use Rattle.jwalk_model.proofs.CloneFacts.{same_length}
use Rattle.jwalk_fs.specs.declared.file_system.FileSystem as FileSystem
use Rattle.jwalk_order.specs.Frontier.{children_from, roots, passed, next_address}
use Rattle.jwalk_order.specs.Ordered.{address_of, child_count_of}
use Rattle.jwalk_order.specs.declared.ordered.Ordered.{Ordered}
use Rattle.jwalk_order.specs.Addressed.{addressed}
use Rattle.jwalk_job.specs.declared.process_read_dir.ProcessReadDir as ProcessReadDir
use Rattle.jwalk_job.specs.declared.job.Job.{Job}
use Rattle.jwalk_job.specs.declared.error.Error.{Error}
use Rattle.jwalk_job.specs.declared.read_dir.ReadDir.{ReadDir}
use Rattle.jwalk_job.specs.Given.{Given, counted_spec}
use Rattle.jwalk_job.specs.Options.{options_value}
use Rattle.jwalk_job.specs.Job.{options_of, job_by, IsSteadyJob, IsReadingOf, IsAsGiven}
use Rattle.jwalk_job.specs.declared.read_dir_spec.ReadDirSpec.{ReadDirSpec}
use Rattle.jwalk_job.specs.ReadDirSpec.{spec}
use Rattle.jwalk_job.specs.ReadDir.{outcome}
use Rattle.jwalk_readings.specs.declared.wanted.Wanted.{Wanted}
use Rattle.jwalk_readings.specs.Wanted.{IsFor}
use Rattle.jwalk_readings.specs.Due.{IsDue}
use Rattle.jwalk_readings.specs.Message.{Message}
use Rattle.jwalk_readings.specs.Origin.{Origin, CountAlike, spec_at, IsMessageOf}
use Rattle.jwalk_readings.specs.declared.readers.Readers as Readers
use Rattle.tree_crew.proofs.OriginFacts.{at_child}
use Rattle.jwalk_readings.proofs.OriginFacts.{below_read}
use Rattle.jwalk_readings.specs.CrewReads.{job_of, to_read, awaited, BeginsBy, IsMadeFor, IsSteadyOver, IsSteadyCrew, StartsSteady, ReadsSteadily}
use Rattle.jwalk_readings.specs.declared.crew_reads.CrewReads.{CrewReads}

-- these are at the addresses of children, if each child's address has the one of its index
placed : {X Y : Type 0} (at : List ℕ → Option Y) (a : List ℕ) (f : X → Y) (from : ℕ) (front : List X) → ((i : ℕ) → at (a ++ (from + i) ∷ []) ≡ slice_get (map f front) i) → map at (children_from from a (length front)) ≡ map (λ x. Some (f x)) front
placed at a f from [] each = refl
placed at a f from (x ∷ xs) each =
    ap₂ (λ y l. y ∷ l)
    (let here : from + 0 ≡ from = omega arith in subst (λ k. at (a ++ k ∷ []) ≡ Some (f x)) here (each 0))
    (placed at a f (from + 1) xs (λ i. let there : from + suc i ≡ (from + 1) + i = omega arith in subst (λ k. at (a ++ k ∷ []) ≡ slice_get (map f xs) i) there (each (suc i))))

placed_first : {X Y : Type 0} (at : List ℕ → Option Y) (a : List ℕ) (f : X → Y) (front : List X) → ((i : ℕ) → at (a ++ i ∷ []) ≡ slice_get (map f front) i) → map at (children_from 0 a (length front)) ≡ map (λ x. Some (f x)) front
placed_first at a f front each = placed at a f 0 front (λ i. let here : i ≡ 0 + i = omega arith in subst (λ k. at (a ++ k ∷ []) ≡ slice_get (map f front) i) here (each i))

some_same : {X : Type 0} (x y : X) → Some x ≡ Some y → x ≡ y
some_same x y is = cc

first_same : {X : Type 0} (x y : X) (l m : List X) → x ∷ l ≡ y ∷ m → x ≡ y
first_same x y l m is = cc

-- what comes first, and what comes behind it
first_placed : {X Y : Type 0} (at : List ℕ → Option Y) (f : X → Y) (addresses : List (List ℕ)) (first : X) (rest : List X) → map at addresses ≡ map (λ x. Some (f x)) (first ∷ rest) → at (next_address addresses) ≡ Some (f first)
first_placed at f [] first rest is = absurd (none-some (Some (f first)) (ap (λ l. slice_get l 0) is))
first_placed at f (a ∷ more) first rest is = first_same (at a) (Some (f first)) (map at more) (map (λ x. Some (f x)) rest) is

-- what is at addresses isn't nothing
some_placed : {X Y : Type 0} (at : List ℕ → Option Y) (f : X → Y) (addresses : List (List ℕ)) (first : X) (rest : List X) → map at addresses ≡ map (λ x. Some (f x)) (first ∷ rest) → addresses ≢ []
some_placed at f [] first rest is = λ none. none-some (Some (f first)) (ap (λ l. slice_get l 0) is)
some_placed at f (a ∷ more) first rest is = λ none. cc

-- the same options read alike
reads_as_same : (these others : Options) → these ≡ others → ReadsAs these others
reads_as_same these others same = record { sort = ap (λ o. o.sort) same; skip_hidden = ap (λ o. o.skip_hidden) same; follow_links = ap (λ o. o.follow_links) same; same_file_system = ap (λ o. o.same_file_system) same; keep_metadata = ap (λ o. o.keep_metadata) same; max_depth = ap (λ o. o.max_depth) same }

-- where the first is replaced by its children, these come before the others
passed_placed : {X Y : Type 0} (at : List ℕ → Option Y) (f : X → Y) (addresses : List (List ℕ)) (first : X) (rest front : List X) → map at addresses ≡ map (λ x. Some (f x)) (first ∷ rest) → ((i : ℕ) → at (next_address addresses ++ i ∷ []) ≡ slice_get (map f front) i)
    → map at (passed addresses (length front)) ≡ map (λ x. Some (f x)) (front ++ rest)
passed_placed at f [] first rest front is each = absurd (none-some (Some (f first)) (ap (λ l. slice_get l 0) is))
passed_placed at f (a ∷ more) first rest front is each =
    map-append at (children_from 0 a (length front)) more
    ∙ ap₂ (λ l m. l ++ m) (placed_first at a f front each) (ap (drop 1) is)
    ∙ sym (map-append (λ x. Some (f x)) front rest)

-- directories that count alike are equal in number
pub alike_length : {R : Type 0} (clone : Clone.Ghosts R) (these those : List (Spec R)) → CountAlike clone these those → length these ≡ length those
alike_length {R} clone these those alike =
    let nothing : R → Worth = λ x. blank in
    sym (length-map these (spec_by nothing)) ∙ ap length (alike nothing (λ x y is. refl)) ∙ length-map those (spec_by nothing)

-- the directories that are found in a reading are as many as its children
pub as_many_found : {C A R E : Type 0} (clone : Clone.Ghosts R) (o : Outcome R E) (found : List (ReadDirSpec C A R E)) (n : ℕ) → n ≡ length found → AreClones clone.is_clone (children_of o) (map spec found) → n ≡ length (children_of o)
as_many_found clone o found n as_many clones = as_many ∙ sym (length-map found spec) ∙ same_length clone.is_clone (children_of o) (map spec found) clones

-- where job and roots are the same, readings come from the same
pub origin_same : {C S P A R E : Type 0} (job made : Job C S P A R E) (specs others : List (Spec R)) → job ≡ made → specs ≡ others → ◌≡◌ {A = Origin C S P A R E} (record { job = job; roots = specs }) (record { job = made; roots = others })
origin_same job made specs others same are = ap₂ (λ j l. record { job = j; roots = l }) same are

module _ {C S P A L R E : Type 0} (files : FileSystem.Ghosts S) (process : ProcessReadDir.Ghosts P C A R E) (clone : Clone.Ghosts R) (defaults : Default.Ghosts E) (readers : Readers.Ghosts L C S P A R E) where
  -- with nothing to read it is steady, if its job is
  pub nothing_steady : (job : Job C S P A R E) (addresses : List (List ℕ)) (given : Given R E) → IsSteadyJob files process clone defaults job given → IsSteadyOver files process clone defaults readers job None addresses [] given
  nothing_steady job addresses given steady = record { steady = steady; roots = []; comes = tt; awaits = tt; at = refl }

  -- and so it is from the beginning, if the readers is made for the directories that are to be read
  pub begins_steady : (job : Job C S P A R E) (from : Option L) (addresses : List (List ℕ)) (specs : List (Spec R)) → addresses ≡ roots (length specs) → IsSomeAnd from (λ p. IsMadeFor readers p (record { job = job; roots = specs }) addresses)
      → (given : Given R E) → IsSteadyJob files process clone defaults job given → IsSteadyOver files process clone defaults readers job from addresses specs given
  begins_steady job None addresses specs are comes given steady = absurd comes
  begins_steady job (Some p) addresses specs are comes given steady =
      let origin : Origin C S P A R E = record { job = job; roots = specs } in
      record {
        steady = steady;
        roots = specs;
        comes = comes.0;
        awaits = comes.1;
        at = rw are (placed_first (spec_at files process clone defaults origin given) [] (counted_spec given) specs (λ i. refl));
      }

  pub starts_steady : (it : CrewReads C S P A L R E) → BeginsBy (IsMadeFor readers) it → StartsSteady files process clone defaults readers it
  starts_steady it begins given steady = begins_steady (job_of it) it.readers it.matcher (to_read it) begins.addresses begins.readers given steady

  some_is : (p : L) (o : Option L) (P : L → Type 0) → IsSomeAnd o (λ q. q ≡ p) → P p → IsSomeAnd o P
  some_is p None P is holds = absurd is
  some_is p (Some q) P is holds = subst P (sym is) holds

  -- if the readers is this one, the readings begin with all that it is made for
  pub begins_by : (it : CrewReads C S P A L R E) (p : L) (job : Job C S P A R E) (specs : List (Spec R)) → BeginsBy (λ given origin addresses. given ≡ p) it → job_of it ≡ job → to_read it ≡ specs → IsMadeFor readers p (record { job = job; roots = specs }) (roots (length specs)) → BeginsBy (IsMadeFor readers) it
  begins_by it p job specs begins same are made =
      let here : it.matcher ≡ roots (length specs) = begins.addresses ∙ ap (λ l. roots (length l)) are in
      record {
        addresses = begins.addresses;
        readers = some_is p it.readers (λ q. IsMadeFor readers q (record { job = job_of it; roots = to_read it }) it.matcher) begins.readers
            (subst (λ j. readers.comes_from p (record { job = j; roots = to_read it })) (sym same) (subst (λ l. readers.comes_from p (record { job = job; roots = l })) (sym are) made.0), made.1 ∙ sym here);
      }

  -- They stay steady if these directories are put in front of those that are kept.
  pub front_steady : (old mid new : CrewReads C S P A L R E) (front : List (Spec R)) (given : Given R E) → job_of new ≡ job_of old → new ≡ record mid { unread = new.unread } → to_read new ≡ front ++ to_read old
      → IsSteadyOver files process clone defaults readers (job_of old) mid.readers mid.matcher (front ++ to_read old) given → IsSteadyCrew files process clone defaults readers new given
  front_steady old mid new front given job others left steady =
      subst (λ l. IsSteadyOver files process clone defaults readers (job_of new) new.readers new.matcher l given) (sym left)
      (subst (λ j. IsSteadyOver files process clone defaults readers j new.readers new.matcher (front ++ to_read old) given) (sym job)
      (subst (λ (it : CrewReads C S P A L R E). IsSteadyOver files process clone defaults readers (job_of old) it.readers it.matcher (front ++ to_read old) given) (sym others) steady))

  -- Readers don't lose the reading that comes next over what is steady: that one is due.
  pub not_lost : (job : Job C S P A R E) (before : L) (addresses : List (List ℕ)) (first : Spec R) (rest : List (Spec R)) (given : Given R E) (wanted : Wanted A) → IsFor (next_address addresses) first (options_of job) wanted
      → ((origin : Origin C S P A R E) → readers.comes_from before origin → ¬ IsDue files process clone defaults origin (readers.awaits before) wanted) → ¬ IsSteadyOver files process clone defaults readers job (Some before) addresses (first ∷ rest) given
  not_lost job before addresses first rest given wanted is never was =
      let origin : Origin C S P A R E = record { job = job; roots = was.roots } in
      let stands : List ℕ → Option (Spec Worth) = spec_at files process clone defaults origin given in
      never origin was.comes (subst (λ l. IsDue files process clone defaults origin l wanted) (sym was.awaits) (record {
        some = some_placed stands (counted_spec given) addresses first rest was.at;
        next = is.at;
        options = reads_as_same (options_of job) (options_value wanted.options) (sym is.options);
        of = first;
        wanted_one = is.of;
        given = given;
        steady = was.steady;
        stands = first_placed stands (counted_spec given) addresses first rest was.at;
      }))

  -- with no readers, or no address left, nothing steady is to be read
  pub none_waits : (job : Job C S P A R E) (from : Option L) (addresses : List (List ℕ)) (first : Spec R) (rest : List (Spec R)) (given : Given R E) → awaited from addresses ≡ [] → ¬ IsSteadyOver files process clone defaults readers job from addresses (first ∷ rest) given
  none_waits job from addresses first rest given none was = some_placed (spec_at files process clone defaults (record { job = job; roots = was.roots }) given) (counted_spec given) (awaited from addresses) first rest was.at none

  pub none_awaited : (from : Option L) (addresses : List (List ℕ)) → addresses ≡ [] → awaited from addresses ≡ []
  none_awaited None addresses none = refl
  none_awaited (Some p) addresses none = none

  module _ (job : Job C S P A R E) (before after : L) (addresses : List (List ℕ)) (first : Spec R) (o : Outcome R E) (item : Ordered (Message C S P A R E) A)
      (here : address_of item ≡ next_address addresses)
      (of : (origin : Origin C S P A R E) → readers.comes_from before origin → IsMessageOf files process clone defaults origin (addressed item))
      (reading : IsReadingOf files process clone defaults item.value.job (spec item.value.of) o) (rest : List (Spec R)) (given : Given R E) (was : IsSteadyOver files process clone defaults readers job (Some before) addresses (first ∷ rest) given) where
    abbrev pub origin : Origin C S P A R E
    origin = record { job = job; roots = was.roots }

    abbrev stands : List ℕ → Option (Spec Worth)
    stands = spec_at files process clone defaults origin given

    abbrev message : IsMessageOf files process clone defaults origin (addressed item)
    message = of origin was.comes

    -- the message is of the directory that comes next
    same_there : counted_spec given (spec item.value.of) ≡ counted_spec given first
    same_there = some_same _ _ (sym (message.at given was.steady) ∙ ap stands here ∙ first_placed stands (counted_spec given) addresses first rest was.at)

    -- so its reading is that of the definition
    pub value_of : IsAsGiven files given job first o
    value_of =
        let own : IsAsGiven files given job (spec item.value.of) o
        = subst (λ j. IsSteadyJob files process clone defaults j given → IsAsGiven files given j (spec item.value.of) o) message.job (reading.value given) was.steady in
        own ∙ ap (value.reading (job_by files given job)) same_there

    -- and its children's addresses are those of the directories that were found
    pub left_steady : readers.comes_from after origin → readers.awaits after ≡ passed (readers.awaits before) (child_count_of item) → (front : List (Spec R)) → AreClones clone.is_clone (children_of o) front → child_count_of item ≡ length front
        → IsSteadyOver files process clone defaults readers job (Some after) (passed addresses (child_count_of item)) (front ++ rest) given
    left_steady comes goes_on front clones count = record {
      steady = was.steady;
      roots = was.roots;
      comes = comes;
      awaits = goes_on ∙ ap (λ l. passed l (child_count_of item)) was.awaits;
      at = rw count (passed_placed stands (counted_spec given) addresses first rest front was.at (λ i.
          at_child (λ s. children_of (value.reading (job_by files given job) s)) (map (counted_spec given) was.roots) (next_address addresses) i (counted_spec given (spec item.value.of))
          (ap stands (sym here) ∙ message.at given was.steady)
          ∙ ap (λ l. slice_get l i) (below_read files process clone defaults origin item.value.job (spec item.value.of) o front message.job reading clones given was.steady)));
    }

  module _ (old new : CrewReads C S P A L R E) (before after : L) (first : Spec R) (read : Result (ReadDir C A R E) (Error A)) (item : Ordered (Message C S P A R E) A) (had : old.readers ≡ Some before) (has : new.readers ≡ Some after)
      (here : address_of item ≡ next_address old.matcher) (further : new.matcher ≡ passed old.matcher (child_count_of item))
      (of : (origin : Origin C S P A R E) → readers.comes_from before origin → IsMessageOf files process clone defaults origin (addressed item)) (same : (origin : Origin C S P A R E) → readers.comes_from before origin → readers.comes_from after origin) (goes_on : readers.awaits after ≡ passed (readers.awaits before) (child_count_of item))
      (came : item.value.outcome ≡ Ok read) (reading : IsReadingOf files process clone defaults item.value.job (spec item.value.of) (outcome read)) where
    -- the message says how many directories are in it
    message_count : (origin : Origin C S P A R E) → IsMessageOf files process clone defaults origin (addressed item) → child_count_of item ≡ length (children_of (outcome read))
    message_count origin message =
        let count : IfOk {E = AllocError} (Ok read) (λ r. child_count_of item ≡ length (children_of (outcome r))) = rw came at message.count in
        count

    counted : (origin : Origin C S P A R E) → IsMessageOf files process clone defaults origin (addressed item) → (front : List (Spec R)) → AreClones clone.is_clone (children_of (outcome read)) front → child_count_of item ≡ length front
    counted origin message front clones = message_count origin message ∙ sym (same_length clone.is_clone (children_of (outcome read)) front clones)

    was_over : (rest : List (Spec R)) (given : Given R E) → IsSteadyOver files process clone defaults readers (job_of old) old.readers old.matcher (first ∷ rest) given → IsSteadyOver files process clone defaults readers (job_of old) (Some before) old.matcher (first ∷ rest) given
    was_over rest given was = subst (λ q. IsSteadyOver files process clone defaults readers (job_of old) q old.matcher (first ∷ rest) given) had was

    -- the readers' message is the reading of the directory that comes next
    pub reads_steadily : (count : ℕ) → count ≡ child_count_of item → ReadsSteadily files process clone defaults readers old first (outcome read) count new
    reads_steadily count counts = record {
      count_is = λ rest given was.
          let over = was_over rest given was in
          counts ∙ message_count (record { job = job_of old; roots = over.roots }) (of (record { job = job_of old; roots = over.roots }) over.comes);
      value = λ rest given was. value_of (job_of old) before after old.matcher first (outcome read) item here of reading rest given (was_over rest given was);
      steady = λ rest front clones given was.
          let over = was_over rest given was in
          let origin : Origin C S P A R E = record { job = job_of old; roots = over.roots } in
          subst (λ q. IsSteadyOver files process clone defaults readers (job_of old) q new.matcher (front ++ rest) given) (sym has)
          (subst (λ l. IsSteadyOver files process clone defaults readers (job_of old) (Some after) l (front ++ rest) given) (sym further)
          (left_steady (job_of old) before after old.matcher first (outcome read) item here of reading rest given over (same origin over.comes) goes_on front clones (counted origin (of origin over.comes) front clones)));
    }
