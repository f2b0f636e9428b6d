-- The lists that rules make are at the depth of the list.
use Rattle.std.specs.Prelude.{ℕ, Bool, true, false, cond, List, [], ◌∷◌, ◌++◌, map, filter, fold, length, reverse, Option, Some, None, Result, Ok, Err}
use Rattle.std.specs.declared.io.ErrorKind.{ErrorKind}
use Rattle.jwalk.specs.jwalk_model.Error.{io}
use Rattle.jwalk.specs.jwalk_model.Entry.{Item, AtDepth}
use Rattle.jwalk_ignore.specs.Rules.Chain.{Chain, below_root, entered, place_in}
use Rattle.jwalk_ignore.specs.Callback.IgnoreFiles.{Made, Source, all_kinds, by_rules, depth_of, entered_above, git_in, if_read, is_kept, is_read, is_read_above, is_shown, kind_of, own_rules, path_of, root_of, rules_found, source_above, source_in, with_above, with_absolute, with_folder, with_found, with_item, with_listed, with_own, with_root, with_root_item, with_rules}
use Rattle.jwalk_ignore.specs.Rules.Folder.{Folder, folders_above}
use Rattle.jwalk_ignore.specs.Rules.Git.{is_repository}
use Rattle.jwalk_ignore.specs.Pattern.{Pattern}
use Rattle.jwalk_ignore.specs.Rules.Texts.{Texts}
use Rattle.jwalk_ignore_rules.specs.declared.rules.rules_kind.RulesKind.{RulesKind}
use Rattle.jwalk_ignore.specs.Callback.Settings.{Settings}

module _ {R E : Type 0} (depth : ℕ) where
  -- the first item of a list at a depth, and the others
  pub first_at : (x : Item R E) (xs : List (Item R E)) → AtDepth depth (x ∷ xs) → AtDepth depth (x ∷ [])
  first_at (Ok e) xs h = (h.0, tt)
  first_at (Err f) xs h = tt

  pub others_at : (x : Item R E) (xs : List (Item R E)) → AtDepth depth (x ∷ xs) → AtDepth depth xs
  others_at (Ok e) xs h = h.1
  others_at (Err f) xs h = h

  pub joined_at : (x : Item R E) (xs : List (Item R E)) → AtDepth depth (x ∷ []) → AtDepth depth xs → AtDepth depth (x ∷ xs)
  joined_at (Ok e) xs h k = (h.0, k)
  joined_at (Err f) xs h k = k

  -- lists at a depth, one behind the other
  pub append_at : (xs ys : List (Item R E)) → AtDepth depth xs → AtDepth depth ys → AtDepth depth (xs ++ ys)
  append_at [] ys h k = k
  append_at (Ok e ∷ xs) ys h k = (h.0, append_at xs ys h.1 k)
  append_at (Err f ∷ xs) ys h k = append_at xs ys h k

  -- one item more of a list at a depth
  pub more_at : {X : Type 0} (view : X → Item R E) (xs : List X) (x : X) → AtDepth depth (map view (xs ++ x ∷ [])) → AtDepth depth (map view xs) × AtDepth depth (view x ∷ [])
  more_at view [] x h = (tt, h)
  more_at view (y ∷ xs) x h =
      let k = more_at view xs x (others_at (view y) (map view (xs ++ x ∷ [])) h) in
      (joined_at (view y) (map view xs) (first_at (view y) (map view (xs ++ x ∷ [])) h) k.0, k.1)

  filtered_one : (test : Item R E → Bool) (x : Item R E) (xs : List (Item R E)) (b : Bool) → AtDepth depth (x ∷ []) → AtDepth depth (filter test xs) → AtDepth depth (cond b (x ∷ filter test xs) (filter test xs))
  filtered_one test x xs true h k = joined_at x (filter test xs) h k
  filtered_one test x xs false h k = k

  -- what is left of a list at a depth is at it
  pub filter_at : (test : Item R E → Bool) (xs : List (Item R E)) → AtDepth depth xs → AtDepth depth (filter test xs)
  filter_at test [] h = tt
  filter_at test (x ∷ xs) h = filtered_one test x xs (test x) (first_at x xs h) (filter_at test xs (others_at x xs h))

  -- what a step keeps at a depth, all steps keep
  pub fold_at : {M : Type 0} (step : M → Item R E → M) (list : M → List (Item R E))
      → ((m : M) (x : Item R E) → AtDepth depth (x ∷ []) → AtDepth depth (list m) → AtDepth depth (list (step m x)))
      → (m : M) (xs : List (Item R E)) → AtDepth depth xs → AtDepth depth (list m) → AtDepth depth (list (fold step m xs))
  fold_at step list keeps m [] h k = k
  fold_at step list keeps m (x ∷ xs) h k = fold_at step list keeps (step m x) xs (others_at x xs h) (keeps m x (first_at x xs h) k)

module _ {R E : Type 0} (depth : ℕ) where
  abbrev IsAt : Made R E → Type 0
  IsAt made = AtDepth depth made.list

  item_at : (x : Item R E) (made : Made R E) → AtDepth depth (x ∷ []) → IsAt made → IsAt (with_item x made)
  item_at x made h k = append_at depth made.list (x ∷ []) k h

  pub found_at_depth : (source : Source) (found : Result (Option (List Pattern)) ErrorKind) (made : Made R E) → IsAt made → IsAt (with_found source found made)
  found_at_depth source (Ok (Some patterns)) made k = k
  found_at_depth source (Ok None) made k = k
  found_at_depth source (Err e) made k = append_at depth made.list (Err (io source.depth (Some (path_of source)) e) ∷ []) k tt

  rules_at : (texts : Texts) (source : Source) (made : Made R E) → IsAt made → IsAt (with_rules texts source made)
  rules_at texts source made k = found_at_depth source (rules_found texts source.kind source.may_miss (path_of source)) made k

  own_at : (texts : Texts) (reads : RulesKind → Bool) (directory : List ℕ) (before : ℕ) (kind : Option RulesKind) (d : ℕ) (made : Made R E) → IsAt made → IsAt (with_own texts reads directory before kind d made)
  own_at texts reads directory before None d made k = k
  own_at texts reads directory before (Some kind) d made k = rules_at texts (source_in directory before kind d) made k

  listed_at : (texts : Texts) (reads : RulesKind → Bool) (directory : List ℕ) (before : ℕ) (made : Made R E) (x : Item R E) → AtDepth depth (x ∷ []) → IsAt made → IsAt (with_listed texts reads directory before made x)
  listed_at texts reads directory before made x h k =
      own_at texts reads directory before (if_read reads (kind_of x)) (depth_of x) (with_item x made) (item_at x made h k)

  module _ (settings : Settings) (texts : Texts) where
    above_at : (folder : Folder) (read : Bool) (kind : RulesKind) (made : Made R E) → IsAt made → IsAt (with_above settings texts folder read kind made)
    above_at folder true kind made k = rules_at texts (source_above folder kind) made k
    above_at folder false kind made k = k

    kinds_at : (folder : Folder) (reads : RulesKind → Bool) (kinds : List RulesKind) (made : Made R E) → IsAt made → IsAt (fold (λ m kind. with_above settings texts folder (reads kind) kind m) made kinds)
    kinds_at folder reads [] made k = k
    kinds_at folder reads (kind ∷ kinds) made k =
        kinds_at folder reads kinds (with_above settings texts folder (reads kind) kind made) (above_at folder (reads kind) kind made k)

    folder_at : (made : Made R E) (folder : Folder) → IsAt made → IsAt (with_folder settings texts made folder)
    folder_at made folder k =
        let inside : Made R E = entered_above settings texts folder made in
        kinds_at folder (is_read_above settings folder inside.chain.in_repository) all_kinds inside k

    folders_at : (made : Made R E) (folders : List Folder) → IsAt made → IsAt (fold (with_folder settings texts) made folders)
    folders_at made [] k = k
    folders_at made (folder ∷ folders) k = folders_at (with_folder settings texts made folder) folders (folder_at made folder k)

    absolute_at : (root : List ℕ) (made : Made R E) (found : Result (List ℕ) ErrorKind) → IsAt made → IsAt (with_absolute settings texts root made found)
    absolute_at root made (Ok absolute) k = folders_at (record { chain = below_root root absolute; list = made.list }) (reverse (folders_above texts false (length absolute) absolute)) k
    absolute_at root made (Err e) k = append_at depth made.list (Err (io 0 (Some root) e) ∷ []) k tt

    root_at : (root : Option (List ℕ)) (made : Made R E) → IsAt made → IsAt (with_root settings texts root made)
    root_at None made k = k
    root_at (Some root) made k = absolute_at root made (texts.absolute_of root) k

    -- a list that rules are used on keeps its depth
    pub by_rules_at : (of : Option ℕ) (path : List ℕ) (chain : Chain) (list : List (Item R E)) → AtDepth depth list → AtDepth depth (by_rules settings texts of path chain list).list
    by_rules_at None path chain list h =
        fold_at depth (with_root_item settings texts) (λ (m : Made R E). m.list)
        (λ made x one k. root_at (root_of x) (with_item x made) (item_at x made one k)) (record { chain = chain; list = [] }) list h tt
    by_rules_at (Some d) path chain list h =
        let inside : Chain = entered (is_repository (git_in texts path list)) chain in
        let reads : RulesKind → Bool = is_read settings inside.in_repository (git_in texts path list) in
        let own : Made R E = own_rules settings texts path chain list in
        filter_at depth (is_kept settings path own.chain (place_in own.chain path)) (filter (is_shown settings path) own.list)
        (filter_at depth (is_shown settings path) own.list
        (fold_at depth (with_listed texts reads path (length (place_in inside path))) (λ (m : Made R E). m.list)
        (listed_at texts reads path (length (place_in inside path))) (record { chain = inside; list = [] }) list h tt))
