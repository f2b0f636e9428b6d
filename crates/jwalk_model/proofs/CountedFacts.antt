-- Lists and outcomes keep their directories, depths and order once their states are counted.
use Rattle.std.proofs.Common.{◌≡◌, ℕ, List, [], ◌∷◌, ◌++◌, map, Option, Some, None, option_to_list, unwrap_or, is_some, Bool, true, cond, Ok, Err, refl, sym, ap, ◌∙◌}
use Rattle.std.specs.Prelude.{flat_map, option_map}
use Rattle.std.proofs.lemmas.List.{map-append}
use Rattle.jwalk_model.specs.Entry.{Entry, Item, children_at, has_directory, AtDepth}
use Rattle.jwalk_model.specs.ReadDir.{Spec, Outcome, spec_of, children_of, list_of, IsLawfulReading}
use Rattle.jwalk_model.specs.Listing.{after_reading, is_answered}
use Rattle.jwalk_model.specs.Sorting.{arranged}
use Rattle.jwalk_model.specs.Counted.{children_by, spec_by, entry_by, item_by, outcome_by}
use Rattle.jwalk_model.proofs.ViewFacts.{View, viewed-arranged, viewed-in_order, viewed-after_reading, viewed-is_answered, viewed-spec_of, viewed-with_directory}

counted-unwrap_or : {R V : Type 0} (view : R → V) (state : R) (o : Option R) → view (unwrap_or o state) ≡ unwrap_or (option_map view o) (view state)
counted-unwrap_or view state None = refl
counted-unwrap_or view state (Some s) = refl

-- the view in which states are counted
abbrev counted_view : {R E V W : Type 0} → (R → V) → (E → W) → View R E V W
counted_view view mark = record {
  state_by = view;
  mark = mark;
  seen_by = λ seen. seen;
  children_by = children_by view;
  read_children_by = option_map (children_by view);
  is_each = λ o. refl;
  same_new = λ path. refl;
  same_failed = λ f c. refl;
  same_below = λ depth ancestors state c. ap (λ s. record { directory = record { depth = depth; path = c.path; ancestors = ancestors }; state = s }) (counted-unwrap_or view state c.state);
}

module _ {R E V W : Type 0} (view : R → V) (mark : E → W) where
  -- an item has a directory, or has none
  pub counted-has_directory : (x : Item R E) → has_directory (item_by view mark x) ≡ has_directory x
  counted-has_directory (Err f) = refl
  counted-has_directory (Ok e) = elim e.read_children as (λ o. is_some (option_map (children_by view) o) ≡ is_some o) [ None ↦ refl | Some c ↦ refl ]

  -- an item once its directory was read
  pub counted-after_reading : (outcome : Outcome R E) (x : Item R E) → after_reading (outcome_by view mark outcome) (item_by view mark x) ≡ item_by view mark (after_reading outcome x)
  counted-after_reading outcome x = sym (viewed-after_reading (counted_view view mark) outcome x)

  pub counted-is_answered : (least : ℕ) (x : Item R E) → is_answered least (item_by view mark x) ≡ is_answered least x
  counted-is_answered least x = viewed-is_answered (counted_view view mark) least x

  pub counted-list_of : (outcome : Outcome R E) → list_of (outcome_by view mark outcome) ≡ map (item_by view mark) (list_of outcome)
  counted-list_of (Ok r) = refl
  counted-list_of (Err f) = refl

  counted-listed : (o : Option (Spec R)) → option_to_list (option_map (spec_by view) o) ≡ map (spec_by view) (option_to_list o)
  counted-listed None = refl
  counted-listed (Some spec) = refl

  counted-spec_of : (state : R) (x : Item R E) → option_to_list (spec_of (view state) (item_by view mark x)) ≡ map (spec_by view) (option_to_list (spec_of state x))
  counted-spec_of state x = ap option_to_list (sym (viewed-spec_of (counted_view view mark) state x)) ∙ counted-listed (spec_of state x)

  counted-children : (state : R) (l : List (Item R E)) → flat_map (λ item. option_to_list (spec_of (view state) item)) (map (item_by view mark) l) ≡ map (spec_by view) (flat_map (λ item. option_to_list (spec_of state item)) l)
  counted-children state [] = refl
  counted-children state (x ∷ l) =
      let mine : List (Spec R) = option_to_list (spec_of state x) in
      let others : List (Spec R) = flat_map (λ item. option_to_list (spec_of state item)) l in
      rw (counted-spec_of state x) (ap (λ m. map (spec_by view) mine ++ m) (counted-children state l) ∙ sym (map-append (spec_by view) mine others))

  -- the directories of an outcome
  pub counted-children_of : (outcome : Outcome R E) → children_of (outcome_by view mark outcome) ≡ map (spec_by view) (children_of outcome)
  counted-children_of (Ok r) = counted-children r.state r.list
  counted-children_of (Err f) = refl

  -- depths don't count states
  pub counted-AtDepth : (depth : ℕ) (l : List (Item R E)) → AtDepth depth l → AtDepth depth (map (item_by view mark) l)
  counted-AtDepth depth [] h = tt
  counted-AtDepth depth (Ok e ∷ l) h = (h.0, counted-AtDepth depth l h.1)
  counted-AtDepth depth (Err f ∷ l) h = counted-AtDepth depth l h

  -- nor does the law of readings
  pub counted-IsLawfulReading : (max_depth : ℕ) (s : Spec R) (outcome : Outcome R E) → IsLawfulReading max_depth s outcome → IsLawfulReading max_depth (spec_by view s) (outcome_by view mark outcome)
  counted-IsLawfulReading max_depth s (Ok r) h = (counted-AtDepth _ r.list h.0, λ deep. ap (map (item_by view mark)) (h.1 deep))
  counted-IsLawfulReading max_depth s (Err f) h = h

  -- nor does the order by name
  pub counted-arranged : (l : List (Item R E)) → arranged (map (item_by view mark) l) ≡ map (item_by view mark) (arranged l)
  counted-arranged l = sym (viewed-arranged (counted_view view mark) l)

  pub counted-in_order : (sort : Bool) (l : List (Item R E)) → map (item_by view mark) (cond sort (arranged l) l) ≡ cond sort (arranged (map (item_by view mark) l)) (map (item_by view mark) l)
  counted-in_order sort l = viewed-in_order (counted_view view mark) sort l

  -- nor does a directory behind a link
  pub counted-with_directory : (e : Entry R E) (dir : Bool) (path : List ℕ) → entry_by view mark (cond dir (record e { read_children = children_at true path }) e) ≡ cond dir (record (entry_by view mark e) { read_children = children_at true path }) (entry_by view mark e)
  counted-with_directory e dir path = viewed-with_directory (counted_view view mark) e dir path
