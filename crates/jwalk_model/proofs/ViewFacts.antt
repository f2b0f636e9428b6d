-- Walks by a view of their entries: what is made of viewed items is the view of what is made of the items.
use Rattle.std.proofs.Common.{◌≡◌, ℕ, zero, suc, ◌+◌, nat_le, Bool, true, false, cond, ◌&&◌, List, [], ◌∷◌, ◌++◌, map, Option, Some, None, unwrap_or, Result, Ok, Err, refl, ap, ◌∙◌}
use Rattle.std.specs.Prelude.{flat_map, option_map}
use Rattle.std.specs.Result.{result_and}
use Rattle.std.specs.declared.io.ErrorKind.{ErrorKind}
use Rattle.std.proofs.lemmas.List.{map-append}
use Rattle.jwalk_model.specs.declared.seen.Seen.{Seen}
use Rattle.jwalk_model.specs.Seen.{type_seen, metadata_seen, identity_seen}
use Rattle.jwalk_model.specs.declared.metadata.Identity.{Identity}
use Rattle.jwalk_model.specs.declared.metadata.Metadata.{Metadata}
use Rattle.jwalk_model.specs.FileType.{is_dir, is_symlink}
use Rattle.jwalk_model.specs.Metadata.{type_of, identity_of}
use Rattle.jwalk_model.specs.FileSystem.{Named, Listed, metadata_at}
use Rattle.jwalk_model.specs.Paths.{join}
use Rattle.jwalk_model.specs.Error.{Failure, io}
use Rattle.jwalk_model.specs.Entry.{Children, Entry, Item, children_at, failed, is_hidden, path_of}
use Rattle.jwalk_model.specs.Options.{with_keep_metadata}
use Rattle.jwalk_model.specs.ReadDir.{Spec, Reading, Outcome, spec_of}
use Rattle.jwalk_model.specs.Sorting.{stands_before, put, arranged}
use Rattle.jwalk_model.specs.Counted.{spec_by}
use Rattle.jwalk_model.specs.Job as value
use Rattle.jwalk_model.specs.Job.{Job, Processing, either}
use Rattle.jwalk_model.specs.Listing.{Source, nothing, unread, was_read, Pair, source_of, pair, paired, pairs_of, after_reading, is_answered, answers, levels_of, stands, opened, below, listing}
use Rattle.jwalk_model.specs.Held.{to_come}
use Rattle.jwalk_model.specs.Walk.{whole_walk}

-- a new directory to be read
abbrev new_at : {R : Type 0} → List ℕ → Children R
new_at path = record { path = path; error = None; state = None }

-- the specification of a directory below an entry of this depth and these ancestors
abbrev below_at : {R : Type 0} → ℕ → List (List ℕ) → R → Children R → Spec R
below_at depth ancestors state c = record { directory = record { depth = depth; path = c.path; ancestors = ancestors }; state = unwrap_or c.state state }

-- A view of entries: of both kinds of states, of the metadata that is kept, and of a directory to be read, if there is one. What is made of a directory is the same in it.
pub record View (R E V W : Type 0) : Type 0 where
  pub state_by : R → V
  pub mark : E → W
  pub seen_by : Option Metadata → Option Metadata
  pub children_by : Children R → Children V
  pub read_children_by : Option (Children R) → Option (Children V)
  pub is_each : (o : Option (Children R)) → read_children_by o ≡ option_map children_by o
  pub same_new : (path : List ℕ) → children_by (new_at path) ≡ new_at path
  pub same_failed : (f : Failure) (c : Children R) → children_by (failed f c) ≡ failed f (children_by c)
  pub same_below : (depth : ℕ) (ancestors : List (List ℕ)) (state : R) (c : Children R) → spec_by state_by (below_at depth ancestors state c) ≡ below_at depth ancestors (state_by state) (children_by c)

module _ {R E V W : Type 0} (view : View R E V W) where
  abbrev pub viewed_entry : Entry R E → Entry V W
  viewed_entry e = record {
    depth = e.depth;
    file_name = e.file_name;
    file_type = e.file_type;
    seen = view.seen_by e.seen;
    client_state = view.mark e.client_state;
    parent_path = e.parent_path;
    through_link = e.through_link;
    ancestors = e.ancestors;
    read_children = view.read_children_by e.read_children;
  }

  abbrev pub viewed_item : Item R E → Item V W
  viewed_item (Ok e) = Ok (viewed_entry e)
  viewed_item (Err f) = Err f

  abbrev pub viewed_reading : Reading R E → Reading V W
  viewed_reading r = record { state = view.state_by r.state; list = map viewed_item r.list }

  abbrev pub viewed_outcome : Outcome R E → Outcome V W
  viewed_outcome (Ok r) = Ok (viewed_reading r)
  viewed_outcome (Err f) = Err f

  abbrev pub viewed_spec : Spec R → Spec V
  viewed_spec = spec_by view.state_by

  -- directories to be read
  viewed-new : (dir : Bool) (path : List ℕ) → view.read_children_by (children_at dir path) ≡ children_at dir path
  viewed-new true path = view.is_each (Some (new_at path)) ∙ ap Some (view.same_new path)
  viewed-new false path = view.is_each None

  viewed-failed : (f : Failure) (o : Option (Children R)) → view.read_children_by (option_map (failed f) o) ≡ option_map (failed f) (view.read_children_by o)
  viewed-failed f None = rw (view.is_each None) refl
  viewed-failed f (Some c) = rw (view.is_each (Some (failed f c)), view.is_each (Some c)) (ap Some (view.same_failed f c))

  viewed-spec_below : (depth : ℕ) (ancestors : List (List ℕ)) (state : R) (o : Option (Children R)) → option_map viewed_spec (option_map (below_at depth ancestors state) o) ≡ option_map (below_at depth ancestors (view.state_by state)) (view.read_children_by o)
  viewed-spec_below depth ancestors state None = rw (view.is_each None) refl
  viewed-spec_below depth ancestors state (Some c) = rw (view.is_each (Some c)) (ap Some (view.same_below depth ancestors state c))

  -- lists and items
  viewed-stands_before : (x y : Item R E) → stands_before (viewed_item x) (viewed_item y) ≡ stands_before x y
  viewed-stands_before (Ok x) (Ok y) = refl
  viewed-stands_before (Ok x) (Err f) = refl
  viewed-stands_before (Err f) y = refl

  viewed-put : (x : Item R E) (ys : List (Item R E)) → map viewed_item (put x ys) ≡ put (viewed_item x) (map viewed_item ys)
  viewed-put x [] = refl
  viewed-put x (y ∷ ys) =
      rw (viewed-stands_before y x)
      (elim (stands_before y x) as (λ b. map viewed_item (cond b (y ∷ put x ys) (x ∷ y ∷ ys)) ≡ cond b (viewed_item y ∷ put (viewed_item x) (map viewed_item ys)) (viewed_item x ∷ viewed_item y ∷ map viewed_item ys)) [
        | true ↦ ap (λ l. viewed_item y ∷ l) (viewed-put x ys)
        | false ↦ refl
      ])

  pub viewed-arranged : (l : List (Item R E)) → map viewed_item (arranged l) ≡ arranged (map viewed_item l)
  viewed-arranged [] = refl
  viewed-arranged (x ∷ l) = viewed-put x (arranged l) ∙ ap (put (viewed_item x)) (viewed-arranged l)

  pub viewed-in_order : (sort : Bool) (l : List (Item R E)) → map viewed_item (cond sort (arranged l) l) ≡ cond sort (arranged (map viewed_item l)) (map viewed_item l)
  viewed-in_order true l = viewed-arranged l
  viewed-in_order false l = refl

  -- an item once its directory was read
  pub viewed-after_reading : (outcome : Outcome R E) (x : Item R E) → viewed_item (after_reading outcome x) ≡ after_reading (viewed_outcome outcome) (viewed_item x)
  viewed-after_reading (Ok r) x = refl
  viewed-after_reading (Err f) (Err g) = refl
  viewed-after_reading (Err f) (Ok e) = ap (λ c. Ok (record (viewed_entry e) { read_children = c })) (viewed-failed f e.read_children)

  pub viewed-is_answered : (least : ℕ) (x : Item R E) → is_answered least (viewed_item x) ≡ is_answered least x
  viewed-is_answered least (Ok e) = refl
  viewed-is_answered least (Err f) = refl

  viewed-answers : (least : ℕ) (l : List (Item R E)) → map viewed_item (answers least l) ≡ answers least (map viewed_item l)
  viewed-answers least [] = refl
  viewed-answers least (x ∷ l) =
      rw (viewed-is_answered least x)
      (elim (is_answered least x) as (λ b. map viewed_item (cond b (x ∷ answers least l) (answers least l)) ≡ cond b (viewed_item x ∷ answers least (map viewed_item l)) (answers least (map viewed_item l))) [
        | true ↦ ap (λ m. viewed_item x ∷ m) (viewed-answers least l)
        | false ↦ viewed-answers least l
      ])

  pub viewed-spec_of : (state : R) (x : Item R E) → option_map viewed_spec (spec_of state x) ≡ spec_of (view.state_by state) (viewed_item x)
  viewed-spec_of state (Err f) = refl
  viewed-spec_of state (Ok e) = viewed-spec_below e.depth e.ancestors state e.read_children

  -- a directory behind a link
  pub viewed-with_directory : (e : Entry R E) (dir : Bool) (path : List ℕ) → viewed_entry (cond dir (record e { read_children = children_at true path }) e) ≡ cond dir (record (viewed_entry e) { read_children = children_at true path }) (viewed_entry e)
  viewed-with_directory e true path = ap (λ c. record (viewed_entry e) { read_children = c }) (viewed-new true path)
  viewed-with_directory e false path = refl

  -- sources
  abbrev viewed_source : Source R E → Source V W
  viewed_source nothing = nothing
  viewed_source (unread spec) = unread (viewed_spec spec)
  viewed_source (was_read spec outcome) = was_read (viewed_spec spec) (viewed_outcome outcome)

  abbrev viewed_pair : Pair R E → Pair V W
  viewed_pair p = record { item = viewed_item p.item; source = viewed_source p.source }

  with_source : (x : Item R E) (o : Option (Spec R)) → viewed_pair (record { item = x; source = source_of o }) ≡ record { item = viewed_item x; source = source_of (option_map viewed_spec o) }
  with_source x None = refl
  with_source x (Some spec) = refl

  viewed-pair : (state : R) (x : Item R E) → viewed_pair (pair state x) ≡ pair (view.state_by state) (viewed_item x)
  viewed-pair state x = with_source x (spec_of state x) ∙ ap (λ o. record { item = viewed_item x; source = source_of o }) (viewed-spec_of state x)

  viewed-pairs : (state : R) (l : List (Item R E)) → map viewed_pair (map (pair state) l) ≡ map (pair (view.state_by state)) (map viewed_item l)
  viewed-pairs state [] = refl
  viewed-pairs state (x ∷ l) = rw (viewed-pair state x) (ap (λ m. pair (view.state_by state) (viewed_item x) ∷ m) (viewed-pairs state l))

  viewed-pairs_of : (outcome : Outcome R E) → map viewed_pair (pairs_of outcome) ≡ pairs_of (viewed_outcome outcome)
  viewed-pairs_of (Ok r) = viewed-pairs r.state r.list
  viewed-pairs_of (Err f) = refl

  viewed-levels_of : (max_depth : ℕ) (source : Source R E) → levels_of max_depth (viewed_source source) ≡ levels_of max_depth source
  viewed-levels_of max_depth nothing = refl
  viewed-levels_of max_depth (unread spec) = refl
  viewed-levels_of max_depth (was_read spec outcome) = refl

  -- listings by readings that are the same in the view
  module _ (these : Spec R → Outcome R E) (those : Spec V → Outcome V W) (same : (spec : Spec R) → viewed_outcome (these spec) ≡ those (viewed_spec spec)) where
    viewed-stands : (x : Item R E) (source : Source R E) → viewed_item (stands these x source) ≡ stands those (viewed_item x) (viewed_source source)
    viewed-stands x nothing = refl
    viewed-stands x (unread spec) = viewed-after_reading (these spec) x ∙ ap (λ o. after_reading o (viewed_item x)) (same spec)
    viewed-stands x (was_read spec outcome) = viewed-after_reading outcome x

    viewed-opened : (source : Source R E) → map viewed_pair (opened these source) ≡ opened those (viewed_source source)
    viewed-opened nothing = refl
    viewed-opened (unread spec) = viewed-pairs_of (these spec) ∙ ap pairs_of (same spec)
    viewed-opened (was_read spec outcome) = viewed-pairs_of outcome

    -- pairs, each with what is below it, for levels that are counted from its source
    viewed-listed : (lower : Source R E → List (Item R E)) (lower' : Source V W → List (Item V W)) → ((source : Source R E) → map viewed_item (lower source) ≡ lower' (viewed_source source)) → (ps : List (Pair R E))
        → map viewed_item (flat_map (λ p. stands these p.item p.source ∷ lower p.source) ps) ≡ flat_map (λ p. stands those p.item p.source ∷ lower' p.source) (map viewed_pair ps)
    viewed-listed lower lower' each [] = refl
    viewed-listed lower lower' each (p ∷ ps) =
        map-append viewed_item (stands these p.item p.source ∷ lower p.source) (flat_map (λ q. stands these q.item q.source ∷ lower q.source) ps)
        ∙ rw (viewed-stands p.item p.source, each p.source) (ap (λ l. (stands those (viewed_item p.item) (viewed_source p.source) ∷ lower' (viewed_source p.source)) ++ l) (viewed-listed lower lower' each ps))

    viewed-below : (levels : ℕ) (source : Source R E) → map viewed_item (below these levels source) ≡ below those levels (viewed_source source)
    unfolding below
    viewed-below zero source = refl
    viewed-below (suc levels) source =
        viewed-listed (below these levels) (below those levels) (viewed-below levels) (opened these source)
        ∙ ap (flat_map (λ p. stands those p.item p.source ∷ below those levels p.source)) (viewed-opened source)

    viewed-listing : (max_depth : ℕ) (ps : List (Pair R E)) → map viewed_item (listing these max_depth ps) ≡ listing those max_depth (map viewed_pair ps)
    viewed-listing max_depth = viewed-listed (λ s. below these (levels_of max_depth s) s) (λ s. below those (levels_of max_depth s) s) (λ s. rw (viewed-levels_of max_depth s) (viewed-below (levels_of max_depth s) s))

    viewed-to_come : (least max_depth : ℕ) (ps : List (Pair R E)) → map viewed_item (to_come these least max_depth ps) ≡ to_come those least max_depth (map viewed_pair ps)
    viewed-to_come least max_depth ps = viewed-answers least (listing these max_depth ps) ∙ ap (answers least) (viewed-listing max_depth ps)

-- the job in a view: with a callback of its own, and with or without metadata
abbrev pub viewed_job : {R E V W : Type 0} → View R E V W → Bool → Processing V W → Job R E → Job V W
viewed_job view keep processed job = record {
  fs = job.fs;
  options = with_keep_metadata keep job.options;
  processed = processed;
  default = view.mark job.default;
}

-- readings of the job and of that in the view, where what both keep of metadata is the same in the view
module _ {R E V W : Type 0} (view : View R E V W) (keep : Bool) (processed : Processing V W) (job : Job R E) (keeps : (seen : Option Metadata) → view.seen_by (value.kept job seen) ≡ cond keep seen None) where
  abbrev other : Job V W
  other = viewed_job view keep processed job

  viewed-made_of : (depth : ℕ) (path : List ℕ) (through : Bool) (ancestors : List (List ℕ)) (m : Metadata) → viewed_entry view (value.made_of job depth path through ancestors m) ≡ value.made_of other depth path through ancestors m
  viewed-made_of depth path through ancestors m = rw (keeps (Some m), viewed-new view (is_dir (type_of m)) path) refl

  made_by : (depth : ℕ) (path : List ℕ) (through : Bool) (ancestors : List (List ℕ)) (found : Result Metadata ErrorKind)
      → viewed_item view (either (λ m. Ok (value.made_of job depth path through ancestors m)) (λ kind. Err (io depth (Some path) kind)) found)
      ≡ either (λ m. Ok (value.made_of other depth path through ancestors m)) (λ kind. Err (io depth (Some path) kind)) found
  made_by depth path through ancestors (Ok m) = ap Ok (viewed-made_of depth path through ancestors m)
  made_by depth path through ancestors (Err kind) = refl

  -- what is made of a path
  viewed-made : (depth : ℕ) (path : List ℕ) (through : Bool) (ancestors : List (List ℕ)) → viewed_item view (value.made job depth path through ancestors) ≡ value.made other depth path through ancestors
  viewed-made depth path through ancestors = made_by depth path through ancestors (metadata_at job.fs through path)

  viewed-behind : (within : Option Identity) (e : Entry R E) (m : Metadata) → viewed_entry view (value.behind job within e m) ≡ value.behind other within (viewed_entry view e) m
  viewed-behind within e m = rw (keeps (Some m), viewed-new view (value.is_entered within (type_of m) (identity_of m)) (path_of e)) refl

  viewed-and : (x : Entry R E) (r : Result (Unit {0}) Failure) → viewed_item view (result_and r (Ok x)) ≡ result_and r (Ok (viewed_entry view x))
  viewed-and x (Ok leads) = refl
  viewed-and x (Err f) = refl

  viewed-reached : (within : Option Identity) (e : Entry R E) (found : Result Metadata ErrorKind)
      → viewed_item view (either (value.reached job within e) (λ kind. Err (io e.depth (Some (path_of e)) kind)) found)
      ≡ either (value.reached other within (viewed_entry view e)) (λ kind. Err (io e.depth (Some (path_of e)) kind)) found
  viewed-reached within e (Ok m) =
      let leads = value.leads_on job.fs e.depth e.ancestors e.parent_path (path_of e) m in
      viewed-and (value.behind job within e m) leads ∙ ap (λ x. result_and leads (Ok x)) (viewed-behind within e m)
  viewed-reached within e (Err kind) = refl

  -- the link rule
  viewed-followed : (within : Option Identity) (e : Entry R E) → viewed_item view (value.followed job within e) ≡ value.followed other within (viewed_entry view e)
  viewed-followed within e =
      elim (job.options.follow_links && is_symlink e.file_type) as (λ b. viewed_item view (cond b (either (value.reached job within e) (λ kind. Err (io e.depth (Some (path_of e)) kind)) (job.fs.meta_of (path_of e))) (Ok e)) ≡ cond b (either (value.reached other within (viewed_entry view e)) (λ kind. Err (io e.depth (Some (path_of e)) kind)) (job.fs.meta_of (path_of e))) (Ok (viewed_entry view e))) [
        | true ↦ viewed-reached within e (job.fs.meta_of (path_of e))
        | false ↦ refl
      ]

  viewed-entry_in : (spec : Spec R) (name : List ℕ) (seen : Seen) → viewed_entry view (value.entry_in job spec name seen) ≡ value.entry_in other (viewed_spec view spec) name seen
  viewed-entry_in spec name seen = rw (keeps (metadata_seen seen), viewed-new view (value.is_entered (value.within job spec) (type_seen seen) (identity_seen seen)) (join spec.path name)) refl

  viewed-shown : (spec : Spec R) (name : List ℕ) (seen : Seen) → map (viewed_item view) (value.shown job spec name seen) ≡ value.shown other (viewed_spec view spec) name seen
  viewed-shown spec name seen =
      elim (job.options.skip_hidden && is_hidden name) as (λ b. map (viewed_item view) (cond b [] (value.followed job (value.within job spec) (value.entry_in job spec name seen) ∷ [])) ≡ cond b [] (value.followed other (value.within job spec) (value.entry_in other (viewed_spec view spec) name seen) ∷ [])) [
        | true ↦ refl
        | false ↦ ap (λ x. x ∷ []) (viewed-followed (value.within job spec) (value.entry_in job spec name seen) ∙ ap (value.followed other (value.within job spec)) (viewed-entry_in spec name seen))
      ]

  viewed-named : (spec : Spec R) (n : Named) → map (viewed_item view) (value.named job spec n) ≡ value.named other (viewed_spec view spec) n
  viewed-named spec n =
      elim n.seen as (λ t. map (viewed_item view) (either (value.shown job spec n.name) (λ kind. Err (io (spec.depth + 1) (Some (join spec.path n.name)) kind) ∷ []) t)
      ≡ either (value.shown other (viewed_spec view spec) n.name) (λ kind. Err (io (spec.depth + 1) (Some (join spec.path n.name)) kind) ∷ []) t) [
        | Ok type ↦ viewed-shown spec n.name type
        | Err kind ↦ refl
      ]

  viewed-item_of : (spec : Spec R) (l : Listed) → map (viewed_item view) (value.item_of job spec l) ≡ value.item_of other (viewed_spec view spec) l
  viewed-item_of spec (Ok n) = viewed-named spec n
  viewed-item_of spec (Err kind) = refl

  viewed-raw : (spec : Spec R) (items : List Listed) → map (viewed_item view) (value.raw job spec items) ≡ value.raw other (viewed_spec view spec) items
  viewed-raw spec [] = refl
  viewed-raw spec (l ∷ items) =
      map-append (viewed_item view) (value.item_of job spec l) (value.raw job spec items)
      ∙ rw (viewed-item_of spec l) (ap (λ m. value.item_of other (viewed_spec view spec) l ++ m) (viewed-raw spec items))

  -- a list in the order that is asked for
  pub viewed-ordered : (spec : Spec R) (items : List Listed) → map (viewed_item view) (value.ordered job spec items) ≡ value.ordered other (viewed_spec view spec) items
  viewed-ordered spec items =
      viewed-in_order view job.options.sort (value.raw job spec items)
      ∙ ap (λ l. cond job.options.sort (arranged l) l) (viewed-raw spec items)

  target_by : (e : Entry R E) (found : Result Metadata ErrorKind)
      → viewed_item view (either (λ m. Ok (cond (is_dir (type_of m)) (record e { read_children = children_at true (path_of e) }) e)) (λ kind. Err (io 0 (Some (path_of e)) kind)) found)
      ≡ either (λ m. Ok (cond (is_dir (type_of m)) (record (viewed_entry view e) { read_children = children_at true (path_of e) }) (viewed_entry view e))) (λ kind. Err (io 0 (Some (path_of e)) kind)) found
  target_by e (Ok m) = ap Ok (viewed-with_directory view e (is_dir (type_of m)) (path_of e))
  target_by e (Err kind) = refl

  -- a root that is a link
  viewed-with_target : (e : Entry R E) → viewed_item view (value.with_target job e) ≡ value.with_target other (viewed_entry view e)
  viewed-with_target e =
      elim (is_symlink e.file_type) as (λ b. viewed_item view (cond b (either (λ m. Ok (cond (is_dir (type_of m)) (record e { read_children = children_at true (path_of e) }) e)) (λ kind. Err (io 0 (Some (path_of e)) kind)) (job.fs.meta_of (path_of e))) (Ok e))
      ≡ cond b (either (λ m. Ok (cond (is_dir (type_of m)) (record (viewed_entry view e) { read_children = children_at true (path_of e) }) (viewed_entry view e))) (λ kind. Err (io 0 (Some (path_of e)) kind)) (job.fs.meta_of (path_of e))) (Ok (viewed_entry view e))) [
        | true ↦ target_by e (job.fs.meta_of (path_of e))
        | false ↦ refl
      ]

  entered : (x : Item R E) → viewed_item view (either (value.with_target job) Err x) ≡ either (value.with_target other) Err (viewed_item view x)
  entered (Ok e) = viewed-with_target e
  entered (Err f) = refl

  root_of : (x : Item R E) → viewed_item view (either (λ e. either (value.with_target job) Err (value.followed job None e)) Err x) ≡ either (λ e. either (value.with_target other) Err (value.followed other None e)) Err (viewed_item view x)
  root_of (Ok e) = entered (value.followed job None e) ∙ ap (either (value.with_target other) Err) (viewed-followed None e)
  root_of (Err f) = refl

  pub viewed-root_item : (path : List ℕ) → viewed_item view (value.root_item job path) ≡ value.root_item other path
  viewed-root_item path =
      let ancestors : List (List ℕ) = cond job.options.follow_links (path ∷ []) [] in
      root_of (value.made job 0 path false ancestors)
      ∙ ap (either (λ e. either (value.with_target other) Err (value.followed other None e)) Err) (viewed-made 0 path false ancestors)

  -- the path that the callback is given with the root's item
  parent_by : (x : Item R E) → either (λ e. e.parent_path) (λ _. []) x ≡ either (λ e. e.parent_path) (λ _. []) (viewed_item view x)
  parent_by (Ok e) = refl
  parent_by (Err f) = refl

  viewed-root_parent : (path : List ℕ) → value.root_parent job path ≡ value.root_parent other path
  viewed-root_parent path =
      let ancestors : List (List ℕ) = cond job.options.follow_links (path ∷ []) [] in
      parent_by (value.made job 0 path false ancestors) ∙ ap (either (λ e. e.parent_path) (λ _. [])) (viewed-made 0 path false ancestors)

  -- The two jobs read and walk the same in the view.
  pub record GoesAsViewed : Type 0 where
    pub readings : (spec : Spec R) → viewed_outcome view (value.reading job spec) ≡ value.reading other (viewed_spec view spec)
    pub root_lists : (root : List ℕ) (state : R) → viewed_reading view (value.root_list job root state) ≡ value.root_list other root (view.state_by state)
    pub walks : (root : List ℕ) (state : R) → map (viewed_item view) (whole_walk job root state) ≡ whole_walk other root (view.state_by state)

  -- where the other callback makes of viewed lists the view of what the first makes
  module _ (same : (depth : Option ℕ) (path : List ℕ) (state : R) (list : List (Item R E)) → viewed_reading view (job.processed depth path state list) ≡ processed depth path (view.state_by state) (map (viewed_item view) list)) where
    listed_or_failed : (spec : Spec R) (found : Result (List Listed) ErrorKind)
        → viewed_outcome view (either (λ items. Ok (job.processed (Some spec.depth) spec.path spec.state (value.ordered job spec items))) (λ kind. Err (io spec.depth (Some spec.path) kind)) found)
        ≡ either (λ items. Ok (processed (Some spec.depth) spec.path (view.state_by spec.state) (value.ordered other (viewed_spec view spec) items))) (λ kind. Err (io spec.depth (Some spec.path) kind)) found
    listed_or_failed spec (Ok items) = ap Ok (same (Some spec.depth) spec.path spec.state (value.ordered job spec items) ∙ ap (processed (Some spec.depth) spec.path (view.state_by spec.state)) (viewed-ordered spec items))
    listed_or_failed spec (Err kind) = refl

    viewed-reading : (spec : Spec R) → viewed_outcome view (value.reading job spec) ≡ value.reading other (viewed_spec view spec)
    viewed-reading spec =
        elim (nat_le job.options.max_depth spec.depth) as (λ b. viewed_outcome view (cond b (Ok (record { state = spec.state; list = [] })) (either (λ items. Ok (job.processed (Some spec.depth) spec.path spec.state (value.ordered job spec items))) (λ kind. Err (io spec.depth (Some spec.path) kind)) (job.fs.list_of spec.path)))
        ≡ cond b (Ok (record { state = view.state_by spec.state; list = [] })) (either (λ items. Ok (processed (Some spec.depth) spec.path (view.state_by spec.state) (value.ordered other (viewed_spec view spec) items))) (λ kind. Err (io spec.depth (Some spec.path) kind)) (job.fs.list_of spec.path))) [
          | true ↦ refl
          | false ↦ listed_or_failed spec (job.fs.list_of spec.path)
        ]

    viewed-root_list : (root : List ℕ) (state : R) → viewed_reading view (value.root_list job root state) ≡ value.root_list other root (view.state_by state)
    viewed-root_list root state =
        same None (value.root_parent job root) state (value.root_item job root ∷ [])
        ∙ rw (viewed-root_parent root, viewed-root_item root) refl

    viewed-walk : (root : List ℕ) (state : R) → map (viewed_item view) (whole_walk job root state) ≡ whole_walk other root (view.state_by state)
    unfolding whole_walk
    viewed-walk root state =
        viewed-to_come view (value.reading job) (value.reading other) viewed-reading job.options.min_depth job.options.max_depth (paired (value.root_list job root state))
        ∙ ap (to_come (value.reading other) job.options.min_depth job.options.max_depth) (viewed-pairs_of view (Ok (value.root_list job root state)) ∙ ap paired (viewed-root_list root state))

    pub goes_as_viewed : GoesAsViewed
    goes_as_viewed = record { readings = viewed-reading; root_lists = viewed-root_list; walks = viewed-walk }
