-- What holds of every entry that a walk makes holds of each that it yields.
use Rattle.std.proofs.Common.{◌≡◌, ℕ, zero, suc, ◌+◌, Bool, true, false, cond, ◌&&◌, if◌then◌else◌, List, [], ◌∷◌, ◌++◌, map, All, Option, Some, None, Result, Ok, Err, refl}
use Rattle.std.proofs.lemmas.List.Elements.{All-nil, All-cons, All-head, All-tail}
use Rattle.std.specs.Result.{result_and}
use Rattle.std.specs.Prelude.{nat_le, filter, flat_map, option_map}
use Rattle.std.specs.declared.io.ErrorKind.{ErrorKind}
use Rattle.jwalk_model.specs.declared.seen.Seen.{Seen}
use Rattle.jwalk_model.specs.declared.metadata.Identity.{Identity}
use Rattle.jwalk_model.specs.declared.metadata.Metadata.{Metadata}
use Rattle.jwalk_model.specs.FileType.{is_dir, is_symlink}
use Rattle.jwalk_model.specs.Metadata.{type_of, identity_of}
use Rattle.jwalk_model.specs.FileSystem.{Named, Listed}
use Rattle.jwalk_model.specs.Paths.{join}
use Rattle.jwalk_model.specs.Error.{Failure, io}
use Rattle.jwalk_model.specs.Entry.{Children, Entry, Item, children_at, failed, is_hidden, path_of}
use Rattle.jwalk_model.specs.ReadDir.{Spec, Outcome, list_of, spec_below}
use Rattle.jwalk_model.specs.Sorting.{stands_before, put, arranged}
use Rattle.jwalk_model.specs.Listing.{Source, nothing, unread, source_of, pair, Pair, pairs_of, after_reading, stands, below, levels_of, is_answered}
use Rattle.jwalk_model.specs.Job as value
use Rattle.jwalk_model.specs.Job.{Job, either, is_entered}
use Rattle.jwalk_model.specs.Walk.{whole_walk}

nothing_below : {R E : Type 0} (reading : Spec R → Outcome R E) (levels : ℕ) → below reading levels nothing ≡ []
unfolding below
nothing_below reading zero = refl
nothing_below reading (suc levels) = refl

module _ {R E : Type 0} (Holds : Entry R E → Type 0) where
  -- It holds of an item, if that is an entry.
  abbrev pub HoldsOf : Item R E → Type 0
  HoldsOf (Ok e) = Holds e
  HoldsOf (Err f) = Unit {0}

  -- It holds of each entry of the list.
  abbrev pub Each : List (Item R E) → Type 0
  Each [] = Unit {0}
  Each (x ∷ xs) = HoldsOf x × Each xs

  pub append : (l m : List (Item R E)) → Each l → Each m → Each (l ++ m)
  append [] m h k = k
  append (x ∷ l) m h k = (h.0, append l m h.1 k)

  answered : (keep : Item R E → Bool) (l : List (Item R E)) → Each l → Each (filter keep l)
  answered keep [] h = tt
  answered keep (x ∷ l) h = elim (keep x) as (λ b. Each (cond b (x ∷ filter keep l) (filter keep l))) [ true ↦ (h.0, answered keep l h.1) | false ↦ answered keep l h.1 ]

  put_in : (x : Item R E) (l : List (Item R E)) → HoldsOf x → Each l → Each (put x l)
  put_in x [] h k = (h, tt)
  put_in x (y ∷ l) h k = elim (stands_before y x) as (λ b. Each (cond b (y ∷ put x l) (x ∷ y ∷ l))) [ true ↦ (k.0, put_in x l h k.1) | false ↦ (h, k) ]

  in_order : (l : List (Item R E)) → Each l → Each (arranged l)
  in_order [] h = tt
  in_order (x ∷ l) h = put_in x (arranged l) h.0 (in_order l h.1)

  pub of_either : {X F : Type 0} (f : X → Item R E) (g : F → Item R E) (r : Result X F) → ((x : X) → r ≡ Ok x → HoldsOf (f x)) → ((e : F) → HoldsOf (g e)) → HoldsOf (either f g r)
  of_either f g (Ok x) h k = h x refl
  of_either f g (Err e) h k = k e

  pub of_cond : (b : Bool) (x y : Item R E) → HoldsOf x → HoldsOf y → HoldsOf (cond b x y)
  of_cond true x y h k = h
  of_cond false x y h k = k

  -- the same by the library's word
  pub as_all : (l : List (Item R E)) → Each l → All HoldsOf l
  as_all [] h = All-nil HoldsOf
  as_all (x ∷ l) h = All-cons HoldsOf x l h.0 (as_all l h.1)

  -- whatever is known of the directory below the entry
  module _ (stays : (e : Entry R E) (c : Option (Children R)) → Holds e → Holds (record e { read_children = c })) where
    after : (outcome : Outcome R E) (x : Item R E) → HoldsOf x → HoldsOf (after_reading outcome x)
    after (Ok r) x h = h
    after (Err f) (Ok e) h = stays e (option_map (failed f) e.read_children) h
    after (Err f) (Err g) h = h

    -- a list and what is below it
    list_below : (reading : Spec R → Outcome R E) (all : Source R E → List (Item R E)) → all nothing ≡ [] → ((s : Spec R) → Each (all (unread s)))
        → (state : R) (l : List (Item R E)) → Each l → Each (flat_map (λ (p : Pair R E). stands reading p.item p.source ∷ all p.source) (map (pair state) l))
    list_below reading all none deeper state [] h = tt
    list_below reading all none deeper state (Err f ∷ l) h = rw none (tt, list_below reading all none deeper state l h.1)
    list_below reading all none deeper state (Ok e ∷ l) h =
        let others : List (Item R E) = flat_map (λ (p : Pair R E). stands reading p.item p.source ∷ all p.source) (map (pair state) l) in
        elim e.read_children as (λ o. Each (stands reading (Ok e) (source_of (option_map (spec_below state e) o)) ∷ all (source_of (option_map (spec_below state e) o)) ++ others)) [
          | None ↦ rw none (h.0, list_below reading all none deeper state l h.1)
          | Some c ↦ (after (reading (spec_below state e c)) (Ok e) h.0, append (all (unread (spec_below state e c))) others (deeper (spec_below state e c)) (list_below reading all none deeper state l h.1))
        ]

-- It holds of every entry that a walk makes, because of what listings say, and whatever is known of the directory below it, and the callback keeps that.
pub record HoldsAsMade {R E : Type 0} (job : Job R E) (Holds : Entry R E → Type 0) (Says : List ℕ → Listed → Type 0) : Type 0 where
  pub stays : (e : Entry R E) (c : Option (Children R)) → Holds e → Holds (record e { read_children = c })
  pub by_callback : (depth : Option ℕ) (path : List ℕ) (state : R) (list : List (Item R E)) → Each Holds list → Each Holds (job.processed depth path state list).list
  pub said : (path : List ℕ) (items : List Listed) → job.fs.list_of path ≡ Ok items → All (Says path) items
  pub listed : (spec : Spec R) (n : Named) (seen : Seen) → Says spec.path (Ok n) → n.seen ≡ Ok seen → Holds (value.entry_in job spec n.name seen)
  pub through : (depth : ℕ) (path : List ℕ) (ancestors : List (List ℕ)) (m : Metadata) → job.fs.meta_of path ≡ Ok m → Holds (value.made_of job depth path true ancestors m)

module _ {R E : Type 0} (job : Job R E) (Holds : Entry R E → Type 0) (Says : List ℕ → Listed → Type 0) (it : HoldsAsMade job Holds Says) where
  and_holds : (x : Entry R E) (r : Result (Unit {0}) Failure) → Holds x → HoldsOf Holds (result_and r (Ok x))
  and_holds x (Ok leads) h = h
  and_holds x (Err error) h = tt

  behind_holds : (within : Option Identity) (e : Entry R E) (m : Metadata) → job.fs.meta_of (path_of e) ≡ Ok m → Holds (value.behind job within e m)
  behind_holds within e m is =
      it.stays (value.made_of job e.depth (path_of e) true e.ancestors m) (children_at (is_entered within (type_of m) (identity_of m)) (path_of e)) (it.through e.depth (path_of e) e.ancestors m is)

  -- an entry after the link rule
  followed_holds : (within : Option Identity) (e : Entry R E) → Holds e → HoldsOf Holds (value.followed job within e)
  followed_holds within e h =
      of_cond Holds (job.options.follow_links && is_symlink e.file_type) _ (Ok e)
      (of_either Holds (value.reached job within e) _ (job.fs.meta_of (path_of e))
      (λ m is. and_holds (value.behind job within e m) (value.leads_on job.fs e.depth e.ancestors e.parent_path (path_of e) m) (behind_holds within e m is))
      (λ kind. tt))
      h

  named_holds : (spec : Spec R) (name : List ℕ) (found : Result Seen ErrorKind) → ((seen : Seen) → found ≡ Ok seen → Holds (value.entry_in job spec name seen))
      → Each Holds (either (value.shown job spec name) (λ kind. Err (io (spec.depth + 1) (Some (join spec.path name)) kind) ∷ []) found)
  named_holds spec name (Ok seen) made = elim (job.options.skip_hidden && is_hidden name) as (λ b. Each Holds (cond b [] (value.followed job (value.within job spec) (value.entry_in job spec name seen) ∷ []))) [
    | true ↦ tt
    | false ↦ (followed_holds (value.within job spec) (value.entry_in job spec name seen) (made seen refl), tt)
  ]
  named_holds spec name (Err kind) made = (tt, tt)

  raw_holds : (spec : Spec R) (items : List Listed) → All (Says spec.path) items → Each Holds (value.raw job spec items)
  raw_holds spec [] h = tt
  raw_holds spec (Ok n ∷ items) h =
      append Holds (value.named job spec n) (value.raw job spec items)
      (named_holds spec n.name n.seen (λ seen is. it.listed spec n seen (All-head (Says spec.path) (Ok n) items h) is))
      (raw_holds spec items (All-tail (Says spec.path) (Ok n) items h))
  raw_holds spec (Err kind ∷ items) h = (tt, raw_holds spec items (All-tail (Says spec.path) (Err kind) items h))

  ordered_holds : (spec : Spec R) (items : List Listed) → Each Holds (value.raw job spec items) → Each Holds (value.ordered job spec items)
  ordered_holds spec items h = elim job.options.sort as (λ b. Each Holds (cond b (arranged (value.raw job spec items)) (value.raw job spec items))) [
    | true ↦ in_order Holds (value.raw job spec items) h
    | false ↦ h
  ]

  target_holds : (e : Entry R E) → Holds e → HoldsOf Holds (value.with_target job e)
  target_holds e h =
      of_cond Holds (is_symlink e.file_type) _ (Ok e)
      (of_either Holds _ _ (job.fs.meta_of (path_of e))
      (λ m is. elim (is_dir (type_of m)) as (λ b. Holds (cond b (record e { read_children = children_at true (path_of e) }) e)) [ true ↦ it.stays e (children_at true (path_of e)) h | false ↦ h ])
      (λ kind. tt))
      h

  then_holds : (f : Entry R E → Item R E) (x : Item R E) → ((e : Entry R E) → Holds e → HoldsOf Holds (f e)) → HoldsOf Holds x → HoldsOf Holds (either f Err x)
  then_holds f (Ok e) next h = next e h
  then_holds f (Err g) next h = tt

  -- what a root's entry is made with holds
  abbrev pub OfRoot : List ℕ → Type 0
  OfRoot path = (ancestors : List (List ℕ)) (m : Metadata) → job.fs.link_meta_of path ≡ Ok m → Holds (value.made_of job 0 path false ancestors m)

  root_holds : (path : List ℕ) → OfRoot path → HoldsOf Holds (value.root_item job path)
  root_holds path of_root =
      let own : List (List ℕ) = if job.options.follow_links then path ∷ [] else [] in
      then_holds (λ e. either (value.with_target job) Err (value.followed job None e)) (value.made job 0 path false own)
      (λ e h. then_holds (value.with_target job) (value.followed job None e) target_holds (followed_holds None e h))
      (of_either Holds _ _ (job.fs.link_meta_of path) (of_root own) (λ kind. tt))

  listed_holds : (spec : Spec R) (answer : Result (List Listed) ErrorKind) → job.fs.list_of spec.path ≡ answer
      → Each Holds (list_of (either {Y = Outcome R E} (λ items. Ok (job.processed (Some spec.depth) spec.path spec.state (value.ordered job spec items))) (λ kind. Err (io spec.depth (Some spec.path) kind)) answer))
  listed_holds spec (Ok items) is = it.by_callback (Some spec.depth) spec.path spec.state (value.ordered job spec items) (ordered_holds spec items (raw_holds spec items (it.said spec.path items is)))
  listed_holds spec (Err kind) is = tt

  reading_holds : (spec : Spec R) → Each Holds (list_of (value.reading job spec))
  reading_holds spec = elim (nat_le job.options.max_depth spec.depth) as (λ b. Each Holds (list_of (cond b (Ok (record { state = spec.state; list = [] })) (either {Y = Outcome R E} (λ items. Ok (job.processed (Some spec.depth) spec.path spec.state (value.ordered job spec items))) (λ kind. Err (io spec.depth (Some spec.path) kind)) (job.fs.list_of spec.path))))) [
    | true ↦ tt
    | false ↦ listed_holds spec (job.fs.list_of spec.path) refl
  ]

  below_holds : (levels : ℕ) (spec : Spec R) → Each Holds (below (value.reading job) levels (unread spec))
  unfolding below
  below_holds zero spec = tt
  below_holds (suc levels) spec = elim (value.reading job spec) as (λ o. Each Holds (list_of o) → Each Holds (flat_map (λ (p : Pair R E). stands (value.reading job) p.item p.source ∷ below (value.reading job) levels p.source) (pairs_of o))) [
    | Ok r ↦ list_below Holds it.stays (value.reading job) (below (value.reading job) levels) (nothing_below (value.reading job) levels) (below_holds levels) r.state r.list
    | Err f ↦ λ k. tt
  ] (reading_holds spec)

  -- it holds of each entry of a whole walk
  pub walk_holds : (path : List ℕ) (state : R) → OfRoot path → Each Holds (whole_walk job path state)
  unfolding whole_walk
  walk_holds path state of_root =
      let first = value.root_list job path state in
      answered Holds (is_answered job.options.min_depth) _
      (list_below Holds it.stays (value.reading job) (λ source. below (value.reading job) (levels_of job.options.max_depth source) source)
      (nothing_below (value.reading job) 0) (λ spec. below_holds (levels_of {E = E} job.options.max_depth (unread spec)) spec)
      first.state first.list (it.by_callback None (value.root_parent job path) state (value.root_item job path ∷ []) (root_holds path of_root, tt)))
