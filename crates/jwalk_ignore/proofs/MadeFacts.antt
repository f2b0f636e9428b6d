-- What rules make of lists doesn't go by states.
use Rattle.std.proofs.Common.{◌≡◌, ◌∙◌, ℕ, Bool, true, false, cond, List, [], ◌∷◌, map, length, reverse, Option, Some, None, Result, Ok, Err, ap, refl, sym}
use Rattle.std.specs.Prelude.{find, fold, option_and_then, option_map}
use Rattle.std.specs.List.{filter}
use Rattle.std.specs.declared.io.ErrorKind.{ErrorKind}
use Rattle.std.proofs.lemmas.List.{map-append}
use Rattle.jwalk.specs.jwalk_model.Error.{io}
use Rattle.jwalk.specs.jwalk_model.Entry.{Children, Item}
use Rattle.jwalk.specs.jwalk_model.Counted.{children_by, item_by}
use Rattle.jwalk.specs.jwalk_model.declared.file_type.FileType.{FileType}
use Rattle.jwalk_ignore.specs.Rules.Chain.{Chain, below_root, entered, place_in}
use Rattle.jwalk_ignore.specs.Callback.IgnoreFiles.{Made, Source, all_kinds, by_rules, depth_of, entered_above, git_by, git_in, if_read, in_directory, is_git, is_kept, is_read, is_read_above, is_shown, kind_of, own_rules, path_of, root_of, rules_found, source_above, source_in, with_above, with_absolute, with_folder, with_found, with_item, with_listed, with_own, with_root, with_root_item, with_rules}
use Rattle.jwalk_ignore.specs.Rules.Folder.{Folder, folders_above}
use Rattle.jwalk_ignore.specs.Rules.Git.{is_repository}
use Rattle.jwalk_ignore.specs.Pattern.{Pattern}
use Rattle.jwalk_ignore.specs.Rules.Texts.{Texts}
use Rattle.jwalk_ignore_rules.specs.declared.rules.rules_kind.RulesKind.{RulesKind}
use Rattle.jwalk_ignore.specs.Callback.Settings.{Settings}
use Rattle.jwalk_ignore.proofs.ListFacts.{filter_by, fold_by}

module _ {R E V W : Type 0} (view : R → V) (mark : E → W) where
  -- what is made, with states by views of them
  abbrev made_by : Made R E → Made V W
  made_by made = record { chain = made.chain; list = map (item_by view mark) made.list }

  abbrev with_list : Chain → List (Item V W) → Made V W
  with_list chain list = record { chain = chain; list = list }

  one_more : (made : Made R E) (x : Item R E) → with_item (item_by view mark x) (made_by made) ≡ made_by (with_item x made)
  one_more made x = ap (with_list made.chain) (sym (map-append (item_by view mark) made.list (x ∷ [])))

  by_found : (source : Source) (found : Result (Option (List Pattern)) ErrorKind) (made : Made R E) → with_found source found (made_by made) ≡ made_by (with_found source found made)
  by_found source (Ok (Some patterns)) made = refl
  by_found source (Ok None) made = refl
  by_found source (Err k) made = ap (with_list made.chain) (sym (map-append (item_by view mark) made.list (Err (io source.depth (Some (path_of source)) k) ∷ [])))

  by_source : (texts : Texts) (source : Source) (made : Made R E) → with_rules texts source (made_by made) ≡ made_by (with_rules texts source made)
  by_source texts source made = by_found source (rules_found texts source.kind source.may_miss (path_of source)) made

  by_own : (texts : Texts) (reads : RulesKind → Bool) (directory : List ℕ) (before : ℕ) (kind : Option RulesKind) (depth : ℕ) (made : Made R E)
      → with_own texts reads directory before kind depth (made_by made) ≡ made_by (with_own texts reads directory before kind depth made)
  by_own texts reads directory before None depth made = refl
  by_own texts reads directory before (Some kind) depth made = by_source texts (source_in directory before kind depth) made

  kind_by : (x : Item R E) → kind_of (item_by view mark x) ≡ kind_of x
  kind_by (Ok e) = refl
  kind_by (Err f) = refl

  depth_by : (x : Item R E) → depth_of (item_by view mark x) ≡ depth_of x
  depth_by (Ok e) = refl
  depth_by (Err f) = refl

  named_git : (x : Item R E) → is_git (item_by view mark x) ≡ is_git x
  named_git (Ok e) = refl
  named_git (Err f) = refl

  led_by : (texts : Texts) (directory : List ℕ) (x : Item R E) → git_by texts directory (item_by view mark x) ≡ git_by texts directory x
  led_by texts directory (Ok e) = refl
  led_by texts directory (Err f) = refl

  shown_by : (settings : Settings) (directory : List ℕ) (x : Item R E) → is_shown settings directory (item_by view mark x) ≡ is_shown settings directory x
  shown_by settings directory (Ok e) = refl
  shown_by settings directory (Err f) = refl

  kept_by : (settings : Settings) (directory : List ℕ) (chain : Chain) (place : List ℕ) (x : Item R E) → is_kept settings directory chain place (item_by view mark x) ≡ is_kept settings directory chain place x
  kept_by settings directory chain place (Ok e) = refl
  kept_by settings directory chain place (Err f) = refl

  root_of_some : (o : Option (Children R)) → option_map (λ c. c.path) (option_map (children_by view) o) ≡ option_map (λ c. c.path) o
  root_of_some None = refl
  root_of_some (Some c) = refl

  root_by : (x : Item R E) → root_of (item_by view mark x) ≡ root_of x
  root_by (Ok e) = root_of_some e.read_children
  root_by (Err f) = refl

  git_or : (texts : Texts) (directory : List ℕ) (x : Item R E) (list : List (Item R E)) (b : Bool) → git_in texts directory (map (item_by view mark) list) ≡ git_in texts directory list
      → option_and_then (git_by texts directory) (cond b (Some (item_by view mark x)) (find is_git (map (item_by view mark) list))) ≡ option_and_then (git_by texts directory) (cond b (Some x) (find is_git list))
  git_or texts directory x list true rest = led_by texts directory x
  git_or texts directory x list false rest = rest

  git_all : (texts : Texts) (directory : List ℕ) (list : List (Item R E)) → git_in texts directory (map (item_by view mark) list) ≡ git_in texts directory list
  git_all texts directory [] = refl
  git_all texts directory (x ∷ list) =
      ap (λ (b : Bool). option_and_then (git_by texts directory) (cond b (Some (item_by view mark x)) (find is_git (map (item_by view mark) list)))) (named_git x)
      ∙ git_or texts directory x list (is_git x) (git_all texts directory list)

  by_listed : (texts : Texts) (reads : RulesKind → Bool) (directory : List ℕ) (before : ℕ) (made : Made R E) (x : Item R E)
      → with_listed texts reads directory before (made_by made) (item_by view mark x) ≡ made_by (with_listed texts reads directory before made x)
  by_listed texts reads directory before made x =
      let kind : Option RulesKind = if_read reads (kind_of x) in
      ap (λ (k : Option RulesKind). with_own texts reads directory before (if_read reads k) (depth_of (item_by view mark x)) (with_item (item_by view mark x) (made_by made))) (kind_by x)
      ∙ ap (λ (d : ℕ). with_own texts reads directory before kind d (with_item (item_by view mark x) (made_by made))) (depth_by x)
      ∙ ap (with_own texts reads directory before kind (depth_of x)) (one_more made x)
      ∙ by_own texts reads directory before kind (depth_of x) (with_item x made)

  own_by : (settings : Settings) (texts : Texts) (directory : List ℕ) (chain : Chain) (list : List (Item R E))
      → own_rules settings texts directory chain (map (item_by view mark) list) ≡ made_by (own_rules settings texts directory chain list)
  own_by settings texts directory chain list =
      let inside : Option FileType → Chain = λ git. entered (is_repository git) chain in
      let from : Option FileType → Made V W = λ git. fold (with_listed texts (is_read settings (inside git).in_repository git) directory (length (place_in (inside git) directory))) (with_list (inside git) []) (map (item_by view mark) list) in
      let is : Option FileType = git_in texts directory list in
      let reads : RulesKind → Bool = is_read settings (inside is).in_repository is in
      let before : ℕ = length (place_in (inside is) directory) in
      ap from (git_all texts directory list)
      ∙ fold_by (with_listed texts reads directory before) (with_listed texts reads directory before)
      made_by (item_by view mark) (by_listed texts reads directory before) (record { chain = inside is; list = [] }) list

  left_by : (settings : Settings) (directory : List ℕ) (own : Made R E)
      → filter (is_kept settings directory own.chain (place_in own.chain directory)) (filter (is_shown settings directory) (map (item_by view mark) own.list))
      ≡ map (item_by view mark) (filter (is_kept settings directory own.chain (place_in own.chain directory)) (filter (is_shown settings directory) own.list))
  left_by settings directory own =
      ap (filter (is_kept settings directory own.chain (place_in own.chain directory))) (filter_by (item_by view mark) (is_shown settings directory) (is_shown settings directory) (shown_by settings directory) own.list)
      ∙ filter_by (item_by view mark) (is_kept settings directory own.chain (place_in own.chain directory)) (is_kept settings directory own.chain (place_in own.chain directory)) (kept_by settings directory own.chain (place_in own.chain directory)) (filter (is_shown settings directory) own.list)

  directory_by : (settings : Settings) (texts : Texts) (directory : List ℕ) (chain : Chain) (list : List (Item R E))
      → in_directory settings texts directory chain (map (item_by view mark) list) ≡ made_by (in_directory settings texts directory chain list)
  directory_by settings texts directory chain list =
      let own : Made R E = own_rules settings texts directory chain list in
      ap (λ (made : Made V W). with_list made.chain (filter (is_kept settings directory made.chain (place_in made.chain directory)) (filter (is_shown settings directory) made.list))) (own_by settings texts directory chain list)
      ∙ ap (with_list own.chain) (left_by settings directory own)

  module _ (settings : Settings) (texts : Texts) where
    by_above : (folder : Folder) (read : Bool) (kind : RulesKind) (made : Made R E) → with_above settings texts folder read kind (made_by made) ≡ made_by (with_above settings texts folder read kind made)
    by_above folder true kind made = by_source texts (source_above folder kind) made
    by_above folder false kind made = refl

    by_kinds : (folder : Folder) (reads : RulesKind → Bool) (made : Made R E) (kinds : List RulesKind)
        → fold (λ m kind. with_above settings texts folder (reads kind) kind m) (made_by made) kinds ≡ made_by (fold (λ m kind. with_above settings texts folder (reads kind) kind m) made kinds)
    by_kinds folder reads made [] = refl
    by_kinds folder reads made (kind ∷ kinds) =
        ap (λ (m : Made V W). fold (λ n k. with_above settings texts folder (reads k) k n) m kinds) (by_above folder (reads kind) kind made)
        ∙ by_kinds folder reads (with_above settings texts folder (reads kind) kind made) kinds

    by_folder : (made : Made R E) (folder : Folder) → with_folder settings texts (made_by made) folder ≡ made_by (with_folder settings texts made folder)
    by_folder made folder =
        let inside : Made R E = entered_above settings texts folder made in
        by_kinds folder (is_read_above settings folder inside.chain.in_repository) inside all_kinds

    all_folders : (made : Made R E) (folders : List Folder) → fold (with_folder settings texts) (made_by made) folders ≡ made_by (fold (with_folder settings texts) made folders)
    all_folders made [] = refl
    all_folders made (folder ∷ folders) =
        ap (λ (m : Made V W). fold (with_folder settings texts) m folders) (by_folder made folder) ∙ all_folders (with_folder settings texts made folder) folders

    by_absolute : (root : List ℕ) (made : Made R E) (found : Result (List ℕ) ErrorKind) → with_absolute settings texts root (made_by made) found ≡ made_by (with_absolute settings texts root made found)
    by_absolute root made (Ok absolute) = all_folders (record { chain = below_root root absolute; list = made.list }) (reverse (folders_above texts false (length absolute) absolute))
    by_absolute root made (Err k) = ap (with_list (below_root root root)) (sym (map-append (item_by view mark) made.list (Err (io 0 (Some root) k) ∷ [])))

    by_root : (root : Option (List ℕ)) (made : Made R E) → with_root settings texts root (made_by made) ≡ made_by (with_root settings texts root made)
    by_root None made = refl
    by_root (Some root) made = by_absolute root made (texts.absolute_of root)

    by_root_item : (made : Made R E) (x : Item R E) → with_root_item settings texts (made_by made) (item_by view mark x) ≡ made_by (with_root_item settings texts made x)
    by_root_item made x =
        ap (λ (root : Option (List ℕ)). with_root settings texts root (with_item (item_by view mark x) (made_by made))) (root_by x)
        ∙ ap (with_root settings texts (root_of x)) (one_more made x) ∙ by_root (root_of x) (with_item x made)

    -- rules go by no states
    pub rules_by : (depth : Option ℕ) (path : List ℕ) (chain : Chain) (list : List (Item R E))
        → by_rules settings texts depth path chain (map (item_by view mark) list) ≡ made_by (by_rules settings texts depth path chain list)
    rules_by None path chain list = fold_by (with_root_item settings texts) (with_root_item settings texts) made_by (item_by view mark) by_root_item (record { chain = chain; list = [] }) list
    rules_by (Some depth) path chain list = directory_by settings texts path chain list
