-- How many directories an entry has above it: at most one more than its depth where links are followed, and else none.
use Rattle.std.proofs.Common.{◌≡◌, ℕ, zero, suc, ◌+◌, ◌≤◌, Bool, true, false, cond, ◌&&◌, List, [], ◌∷◌, ◌++◌, length, map, Option, Some, None, Result, Ok, Err, refl, arith}
use Rattle.std.proofs.lemmas.List.{length-append}
use Rattle.std.specs.Prelude.{nat_le, filter, flat_map, option_map, if◌then◌else◌}
use Rattle.std.specs.Result.{result_and}
use Rattle.std.specs.declared.io.ErrorKind.{ErrorKind}
use Rattle.jwalk_model.specs.FileType.{is_dir, is_symlink}
use Rattle.jwalk_model.specs.Metadata.{type_of}
use Rattle.jwalk_model.specs.declared.metadata.Identity.{Identity}
use Rattle.jwalk_model.specs.declared.metadata.Metadata.{Metadata}
use Rattle.jwalk_model.specs.Paths.{join}
use Rattle.jwalk_model.specs.FileSystem.{Named, Listed, Functions}
use Rattle.jwalk_model.specs.Options.{Options}
use Rattle.jwalk_model.specs.Error.{Failure, io}
use Rattle.jwalk_model.specs.Entry.{Entry, Item, children_at, is_hidden, path_of}
use Rattle.jwalk_model.specs.ReadDir.{Spec, Outcome, list_of, spec_below}
use Rattle.jwalk_model.specs.Sorting.{stands_before, put, arranged}
use Rattle.jwalk_model.specs.Listing.{Source, nothing, unread, source_of, pair, Pair, pairs_of, after_reading, stands, below, levels_of, is_answered}
use Rattle.jwalk_model.specs.Counted.{blank}
use Rattle.jwalk_model.specs.Job as value
use Rattle.jwalk_model.specs.Job.{Job, either}
use Rattle.jwalk_model.specs.Walk.{whole_walk, stateless_job, stateless_walk}

-- at most how many there are above what is at a depth
abbrev pub most_above : Bool → ℕ → ℕ
most_above follow depth = if follow then depth + 1 else 0

module _ {R E : Type 0} (follow : Bool) where
  abbrev pub HasFew : Item R E → Type 0
  HasFew (Ok e) = length e.ancestors ≤ most_above follow e.depth
  HasFew (Err f) = Unit {0}

  -- Each entry of the list has no more above it.
  abbrev pub HaveFew : List (Item R E) → Type 0
  HaveFew [] = Unit {0}
  HaveFew (x ∷ xs) = HasFew x × HaveFew xs

  append : (l m : List (Item R E)) → HaveFew l → HaveFew m → HaveFew (l ++ m)
  append [] m h k = k
  append (x ∷ l) m h k = (h.0, append l m h.1 k)

  kept : (keep : Item R E → Bool) (l : List (Item R E)) → HaveFew l → HaveFew (filter keep l)
  kept keep [] h = tt
  kept keep (x ∷ l) h = elim (keep x) as (λ b. HaveFew (cond b (x ∷ filter keep l) (filter keep l))) [ true ↦ (h.0, kept keep l h.1) | false ↦ kept keep l h.1 ]

  put_in : (x : Item R E) (l : List (Item R E)) → HasFew x → HaveFew l → HaveFew (put x l)
  put_in x [] h k = (h, tt)
  put_in x (y ∷ l) h k = elim (stands_before y x) as (λ b. HaveFew (cond b (y ∷ put x l) (x ∷ y ∷ l))) [ true ↦ (k.0, put_in x l h k.1) | false ↦ (h, k) ]

  in_order : (l : List (Item R E)) → HaveFew l → HaveFew (arranged l)
  in_order [] h = tt
  in_order (x ∷ l) h = put_in x (arranged l) h.0 (in_order l h.1)

  of_either : {X F : Type 0} (f : X → Item R E) (g : F → Item R E) (r : Result X F) → ((x : X) → HasFew (f x)) → ((e : F) → HasFew (g e)) → HasFew (either f g r)
  of_either f g (Ok x) h k = h x
  of_either f g (Err e) h k = k e

  of_cond : (b : Bool) (x y : Item R E) → HasFew x → HasFew y → HasFew (cond b x y)
  of_cond true x y h k = h
  of_cond false x y h k = k

  after : (outcome : Outcome R E) (x : Item R E) → HasFew x → HasFew (after_reading outcome x)
  after (Ok r) x h = h
  after (Err f) (Ok e) h = h
  after (Err f) (Err g) h = h

  -- a list and what is below it
  list_below : (reading : Spec R → Outcome R E) (all : Source R E → List (Item R E)) → all nothing ≡ [] → ((s : Spec R) → length s.ancestors ≤ most_above follow s.depth → HaveFew (all (unread s)))
      → (state : R) (l : List (Item R E)) → HaveFew l → HaveFew (flat_map (λ (p : Pair R E). stands reading p.item p.source ∷ all p.source) (map (pair state) l))
  list_below reading all none deeper state [] h = tt
  list_below reading all none deeper state (Err f ∷ l) h = rw none (tt, list_below reading all none deeper state l h.1)
  list_below reading all none deeper state (Ok e ∷ l) h =
      let others : List (Item R E) = flat_map (λ (p : Pair R E). stands reading p.item p.source ∷ all p.source) (map (pair state) l) in
      elim e.read_children as (λ o. HaveFew (stands reading (Ok e) (source_of (option_map (spec_below state e) o)) ∷ all (source_of (option_map (spec_below state e) o)) ++ others)) [
        | None ↦ rw none (h.0, list_below reading all none deeper state l h.1)
        | Some c ↦ (after (reading (spec_below state e c)) (Ok e) h.0, append (all (unread (spec_below state e c))) others (deeper (spec_below state e c) h.0) (list_below reading all none deeper state l h.1))
      ]

nothing_below : {R E : Type 0} (reading : Spec R → Outcome R E) (levels : ℕ) → below reading levels nothing ≡ []
unfolding below
nothing_below reading zero = refl
nothing_below reading (suc levels) = refl

module _ {R E : Type 0} (job : Job R E) where
  abbrev Few : Item R E → Type 0
  Few = HasFew job.options.follow_links

  abbrev AllFew : List (Item R E) → Type 0
  AllFew = HaveFew job.options.follow_links

  abbrev Above : List (List ℕ) → ℕ → Type 0
  Above ancestors depth = length ancestors ≤ most_above job.options.follow_links depth

  made_few : (depth : ℕ) (path : List ℕ) (through : Bool) (ancestors : List (List ℕ)) → Above ancestors depth → Few (value.made job depth path through ancestors)
  made_few depth path through ancestors h = of_either job.options.follow_links _ _ (if through then job.fs.meta_of path else job.fs.link_meta_of path) (λ m. h) (λ kind. tt)

  and_few : (x : Entry R E) (r : Result (Unit {0}) Failure) → Few (Ok x) → Few (result_and r (Ok x))
  and_few x (Ok leads) h = h
  and_few x (Err error) h = tt

  reached_few : (within : Option Identity) (e : Entry R E) (m : Metadata) → Few (Ok e) → Few (value.reached job within e m)
  reached_few within e m h = and_few (value.behind job within e m) (value.leads_on job.fs e.depth e.ancestors e.parent_path (path_of e) m) h

  then_few : (f : Entry R E → Item R E) (x : Item R E) → ((e : Entry R E) → Few (Ok e) → Few (f e)) → Few x → Few (either f Err x)
  then_few f (Ok e) next h = next e h
  then_few f (Err g) next h = tt

  -- an entry after the link rule
  followed_few : (within : Option Identity) (e : Entry R E) → Few (Ok e) → Few (value.followed job within e)
  followed_few within e h =
      of_cond job.options.follow_links (job.options.follow_links && is_symlink e.file_type) _ (Ok e)
      (of_either job.options.follow_links (value.reached job within e) _ (job.fs.meta_of (path_of e)) (λ m. reached_few within e m h) (λ kind. tt))
      h

  one_more : (follow : Bool) (ancestors : List (List ℕ)) (path : List ℕ) (depth : ℕ) → length ancestors ≤ most_above follow depth → length (cond follow (ancestors ++ path ∷ []) []) ≤ most_above follow (depth + 1)
  one_more true ancestors path depth h = rw (length-append ancestors (path ∷ [])) (omega (arith, h))
  one_more false ancestors path depth h = omega arith

  one_more_at : (follow : Bool) (path : List ℕ) → length (cond follow (path ∷ []) []) ≤ most_above follow 0
  one_more_at true path = omega arith
  one_more_at false path = omega arith

  named_few : (spec : Spec R) (n : Named) → Above spec.ancestors spec.depth → AllFew (value.named job spec n)
  named_few spec n h = elim n.seen as (λ t. AllFew (either (value.shown job spec n.name) (λ kind. Err (io (spec.depth + 1) (Some (join spec.path n.name)) kind) ∷ []) t)) [
    | Ok type ↦ elim (job.options.skip_hidden && is_hidden n.name) as (λ b. AllFew (cond b [] (value.followed job (value.within job spec) (value.entry_in job spec n.name type) ∷ []))) [
      | true ↦ tt
      | false ↦ (followed_few (value.within job spec) (value.entry_in job spec n.name type) (one_more job.options.follow_links spec.ancestors spec.path spec.depth h), tt)
    ]
    | Err kind ↦ (tt, tt)
  ]

  raw_few : (spec : Spec R) (items : List Listed) → Above spec.ancestors spec.depth → AllFew (value.raw job spec items)
  raw_few spec [] h = tt
  raw_few spec (Ok n ∷ items) h = append job.options.follow_links (value.named job spec n) (value.raw job spec items) (named_few spec n h) (raw_few spec items h)
  raw_few spec (Err kind ∷ items) h = (tt, raw_few spec items h)

  ordered_few : (spec : Spec R) (items : List Listed) → Above spec.ancestors spec.depth → AllFew (value.ordered job spec items)
  ordered_few spec items h = elim job.options.sort as (λ b. AllFew (cond b (arranged (value.raw job spec items)) (value.raw job spec items))) [
    | true ↦ in_order job.options.follow_links (value.raw job spec items) (raw_few spec items h)
    | false ↦ raw_few spec items h
  ]

  target_few : (e : Entry R E) → Few (Ok e) → Few (value.with_target job e)
  target_few e h =
      of_cond job.options.follow_links (is_symlink e.file_type) _ (Ok e)
      (of_either job.options.follow_links _ _ (job.fs.meta_of (path_of e))
      (λ m. elim (is_dir (type_of m)) as (λ b. Few (Ok (cond b (record e { read_children = children_at true (path_of e) }) e))) [ true ↦ h | false ↦ h ])
      (λ kind. tt))
      h

  root_few : (path : List ℕ) → Few (value.root_item job path)
  root_few path =
      let own : List (List ℕ) = if job.options.follow_links then path ∷ [] else [] in
      then_few (λ e. either (value.with_target job) Err (value.followed job None e)) (value.made job 0 path false own)
      (λ e h. then_few (value.with_target job) (value.followed job None e) target_few (followed_few None e h))
      (made_few 0 path false own (one_more_at job.options.follow_links path))

  module _ (keeps : (depth : Option ℕ) (path : List ℕ) (state : R) (list : List (Item R E)) → AllFew list → AllFew (job.processed depth path state list).list) where
    listed_few : (spec : Spec R) (answer : Result (List Listed) ErrorKind) → Above spec.ancestors spec.depth
        → AllFew (list_of (either {Y = Outcome R E} (λ items. Ok (job.processed (Some spec.depth) spec.path spec.state (value.ordered job spec items))) (λ kind. Err (io spec.depth (Some spec.path) kind)) answer))
    listed_few spec (Ok items) h = keeps (Some spec.depth) spec.path spec.state (value.ordered job spec items) (ordered_few spec items h)
    listed_few spec (Err kind) h = tt

    -- so has each reading, if the directory has
    pub reading_few : (spec : Spec R) → Above spec.ancestors spec.depth → AllFew (list_of (value.reading job spec))
    reading_few spec h = elim (nat_le job.options.max_depth spec.depth) as (λ b. AllFew (list_of (cond b (Ok (record { state = spec.state; list = [] })) (either {Y = Outcome R E} (λ items. Ok (job.processed (Some spec.depth) spec.path spec.state (value.ordered job spec items))) (λ kind. Err (io spec.depth (Some spec.path) kind)) (job.fs.list_of spec.path))))) [
      | true ↦ tt
      | false ↦ listed_few spec (job.fs.list_of spec.path) h
    ]

    below_few : (levels : ℕ) (spec : Spec R) → Above spec.ancestors spec.depth → AllFew (below (value.reading job) levels (unread spec))
    unfolding below
    below_few zero spec h = tt
    below_few (suc levels) spec h = elim (value.reading job spec) as (λ o. AllFew (list_of o) → AllFew (flat_map (λ (p : Pair R E). stands (value.reading job) p.item p.source ∷ below (value.reading job) levels p.source) (pairs_of o))) [
      | Ok r ↦ list_below job.options.follow_links (value.reading job) (below (value.reading job) levels) (nothing_below (value.reading job) levels) (below_few levels) r.state r.list
      | Err f ↦ λ k. tt
    ] (reading_few spec h)

    -- and a whole walk
    pub walk_few : (path : List ℕ) (state : R) → AllFew (whole_walk job path state)
    unfolding whole_walk
    walk_few path state =
        let first = value.root_list job path state in
        kept job.options.follow_links (is_answered job.options.min_depth) _
        (list_below job.options.follow_links (value.reading job) (λ source. below (value.reading job) (levels_of job.options.max_depth source) source)
        (nothing_below (value.reading job) 0) (λ spec. below_few (levels_of {E = E} job.options.max_depth (unread spec)) spec)
        first.state first.list (keeps None (value.root_parent job path) state (value.root_item job path ∷ []) (root_few path, tt)))

-- what a walk with no callback yields has no more above it
pub stateless_few : (fs : Functions) (options : Options) (root : List ℕ) → HaveFew options.follow_links (stateless_walk fs options root)
stateless_few fs options root = walk_few (stateless_job fs options) (λ depth path state list h. h) root blank
