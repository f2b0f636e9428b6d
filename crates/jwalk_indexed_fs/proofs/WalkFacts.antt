-- Walks over listings that say types alone.
use Rattle.std.proofs.Common.{◌≡◌, ◌∙◌, Bool, true, false, ◌&&◌, not, nat_le, List, [], ◌∷◌, ◌++◌, ℕ, Option, Some, None, Result, Ok, Err, map, refl, sym, ap, if◌then◌else◌}
use Rattle.std.specs.Prelude.{flat_map, filter}
use Rattle.std.specs.declared.io.ErrorKind.{ErrorKind}
use Rattle.jwalk_model.specs.declared.metadata.Metadata.{Metadata}
use Rattle.jwalk_model.specs.declared.seen.Seen.{Seen}
use Rattle.jwalk_model.specs.declared.seen.Seen.TheVariants.{TypeAlone, Whole}
use Rattle.jwalk_model.specs.FileSystem.{Named, Listed, Functions}
use Rattle.jwalk_model.specs.FileType.{is_symlink}
use Rattle.jwalk_model.specs.Seen.{type_seen}
use Rattle.jwalk_model.specs.Options.{with_keep_metadata}
use Rattle.jwalk_model.specs.Entry.{Entry, Item, is_hidden}
use Rattle.jwalk_model.specs.Error.{io, unnamed}
use Rattle.jwalk_model.specs.ReadDir.{Spec, Outcome}
use Rattle.jwalk_model.specs.Sorting.{stands_before, arranged}
use Rattle.jwalk_model.specs.Job.{Job, Processing, either, entry_in, followed, within, shown, named, item_of, raw, ordered, reading, root_list}
use Rattle.jwalk_model.specs.Listing.{paired}
use Rattle.jwalk_model.specs.Held.{to_come}
use Rattle.jwalk_model.specs.Kept.{keeping_none}
use Rattle.jwalk_model.specs.Walk.{whole_walk}
use Rattle.jwalk_model.proofs.SortingFacts.{stands_before-order}
use Rattle.jwalk_indexed_fs.specs.Listing.{bare, bare_seen, name_if, name_of, name_before, typed_list, typed_answer, typed_functions, in_order}
use Rattle.jwalk_indexed_fs.specs.Asking.{asked_items, asking_functions, ListsWhole}
use Rattle.jwalk_indexed_fs.specs.Walks.{NeedsTypesAlone, over_asked, over_types, passing, AskingIsEnough, TypesAreEnough}
use Rattle.jwalk_indexed_fs.proofs.AskingFacts.{asked_order, same_items}
use Rattle.jwalk_indexed_fs.proofs.OrderedFacts.{IsMadeOf, sorted_first}

module _ {R E : Type 0} where
  -- by what an item is put in order
  abbrev key : Item R E → Option (List ℕ)
  key (Ok e) = Some e.file_name
  key (Err f) = None

  by_key : (x y : Item R E) → stands_before x y ≡ name_before (key x) (key y)
  by_key (Ok x) (Ok y) = refl
  by_key (Ok x) (Err g) = refl
  by_key (Err f) y = refl

  module _ (job : Job R E) (needs : NeedsTypesAlone job.options) (spec : Spec R) where
    -- no link is followed
    stays : (e : Entry R E) → followed job (within job spec) e ≡ Ok e
    stays e = rw (needs.follows_none) refl

    shown_made : (hidden : Bool) (name : List ℕ) (s : Seen) → IsMadeOf stands_before stands_before-order key by_key (Some name) (if hidden then [] else followed job (within job spec) (entry_in job spec name s) ∷ [])
    shown_made true name s = tt
    shown_made false name s = ap key (stays (entry_in job spec name s))

    named_made : (name : List ℕ) (s : Result Seen ErrorKind) → IsMadeOf stands_before stands_before-order key by_key (name_if name s) (named job spec (record { name = name; seen = s }))
    named_made name (Ok s) = shown_made (job.options.skip_hidden && is_hidden name) name s
    named_made name (Err kind) = refl

    is_made : (item : Listed) → IsMadeOf stands_before stands_before-order key by_key (name_of item) (item_of job spec item)
    is_made (Ok n) = named_made n.name n.seen
    is_made (Err kind) = refl

    -- a listing may be sorted first
    ordered_first : (items : List Listed) → ordered job spec (in_order items) ≡ ordered job spec items
    ordered_first items = rw (needs.sorts) (sorted_first stands_before stands_before-order key by_key (item_of job spec) is_made items)

  module _ (job : Job R E) (needs : NeedsTypesAlone job.options) (spec : Spec R) where
    abbrev none : Job R E
    none = keeping_none job

    -- an item with its type alone makes the same
    bare_entry : (name : List ℕ) (s : Seen) → entry_in none spec name (TypeAlone (type_seen s)) ≡ entry_in none spec name s
    bare_entry name s = rw (needs.goes_anywhere) refl

    bare_named : (name : List ℕ) (s : Result Seen ErrorKind) → named none spec (record { name = name; seen = bare_seen s }) ≡ named none spec (record { name = name; seen = s })
    bare_named name (Ok s) = ap (λ e. if none.options.skip_hidden && is_hidden name then [] else followed none (within none spec) e ∷ []) (bare_entry name s)
    bare_named name (Err kind) = refl

    bare_item : (item : Listed) → item_of none spec (bare item) ≡ item_of none spec item
    bare_item (Ok n) = bare_named n.name n.seen
    bare_item (Err kind) = refl

    bare_items : (items : List Listed) → raw none spec (map bare items) ≡ raw none spec items
    bare_items [] = refl
    bare_items (x ∷ xs) = ap (λ l. l ++ raw none spec (map bare xs)) (bare_item x) ∙ ap (λ l. item_of none spec x ++ l) (bare_items xs)

    same_order : (items : List Listed) → ordered (over_types job) spec (typed_list items) ≡ ordered none spec items
    same_order items =
        ordered_first none (record { sorts = needs.sorts; follows_none = needs.follows_none; goes_anywhere = needs.goes_anywhere }) spec (map bare items)
        ∙ ap (λ (l : List (Item R E)). if none.options.sort then arranged l else l) (bare_items items)

    answered : (listed : Result (List Listed) ErrorKind) → either (λ items. Ok (job.processed (Some spec.depth) spec.path spec.state (ordered (over_types job) spec items))) (λ kind. Err (io spec.depth (Some spec.path) kind)) (typed_answer listed) ≡ either (λ items. Ok (job.processed (Some spec.depth) spec.path spec.state (ordered none spec items))) (λ kind. Err (io spec.depth (Some spec.path) kind)) listed
    answered (Ok items) = ap (λ l. Ok (job.processed (Some spec.depth) spec.path spec.state l)) (same_order items)
    answered (Err kind) = refl

    pub same_reading : reading (over_types job) spec ≡ reading none spec
    same_reading = ap (λ (o : Outcome R E). if nat_le job.options.max_depth spec.depth then Ok (record { state = spec.state; list = [] }) else o) (answered (job.fs.list_of spec.path))

same_walk : {R E : Type 0} (job : Job R E) → NeedsTypesAlone job.options → (root : List ℕ) (state : R) → whole_walk (over_types job) root state ≡ whole_walk (keeping_none job) root state
unfolding whole_walk
same_walk {R} {E} job needs root state =
    let readings : ◌≡◌ {A = Spec R → Outcome R E} (reading (over_types job)) (reading (keeping_none job)) = λ i spec. same_reading job needs spec i in
    ap (λ (r : Spec R → Outcome R E). to_come r job.options.min_depth job.options.max_depth (paired (root_list (keeping_none job) root state))) readings

pub types_are_enough : {R E : Type 0} → TypesAreEnough R E
types_are_enough {R} {E} job needs =
    record {
      readings = same_reading job needs;
      root_lists = λ root state. refl;
      walks = same_walk job needs;
      filtered = λ test root state. ap (filter (passing test job.fs)) (same_walk job needs root state);
    }

-- over listings whose names are asked for
module _ {R E : Type 0} (job : Job R E) (needs : NeedsTypesAlone job.options) where
  asked_answered : (spec : Spec R) (listed : Result (List Listed) ErrorKind) → asked_items job.fs spec.path listed ≡ listed → either (λ items. Ok (job.processed (Some spec.depth) spec.path spec.state (ordered (over_asked true job) spec items))) (λ kind. Err (io spec.depth (Some spec.path) kind)) (asked_items job.fs spec.path (typed_answer listed)) ≡ either (λ items. Ok (job.processed (Some spec.depth) spec.path spec.state (ordered job spec items))) (λ kind. Err (io spec.depth (Some spec.path) kind)) listed
  asked_answered spec (Ok items) whole =
      ap (λ l. Ok (job.processed (Some spec.depth) spec.path spec.state l)) (ap (ordered job spec) (asked_order job.fs spec.path items (same_items whole)) ∙ ordered_first job needs spec items)
  asked_answered spec (Err kind) whole = refl

  asked_reading : ListsWhole job.fs → (spec : Spec R) → reading (over_asked true job) spec ≡ reading job spec
  asked_reading whole spec = ap (λ (o : Outcome R E). if nat_le job.options.max_depth spec.depth then Ok (record { state = spec.state; list = [] }) else o) (asked_answered spec (job.fs.list_of spec.path) (whole spec.path))

asked_walk : {R E : Type 0} (job : Job R E) → NeedsTypesAlone job.options → ListsWhole job.fs → (root : List ℕ) (state : R) → whole_walk (over_asked true job) root state ≡ whole_walk job root state
unfolding whole_walk
asked_walk {R} {E} job needs whole root state =
    let readings : ◌≡◌ {A = Spec R → Outcome R E} (reading (over_asked true job)) (reading job) = λ i spec. asked_reading job needs whole spec i in
    ap (λ (r : Spec R → Outcome R E). to_come r job.options.min_depth job.options.max_depth (paired (root_list job root state))) readings

-- without names that are asked for no metadata is kept
not_kept : (kept : Bool) → (kept ≡ true → false ≡ true) → kept ≡ false
not_kept true asks = sym (asks refl)
not_kept false asks = refl

pub asking_is_enough : {R E : Type 0} → AskingIsEnough R E
asking_is_enough job true needs keeps whole root state = asked_walk job needs (whole refl) root state
asking_is_enough {R} {E} job false needs keeps whole root state =
    let forgets : job ≡ keeping_none job = ap (λ (k : Bool). let j : Job R E = record job { options = with_keep_metadata k job.options } in j) (not_kept job.options.keep_metadata keeps) in
    ap (λ (j : Job R E). whole_walk (over_asked false j) root state) forgets ∙ same_walk job needs root state ∙ ap (λ (j : Job R E). whole_walk j root state) (sym forgets)
