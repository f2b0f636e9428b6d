-- What rules leave of a list, at two depths.
use Rattle.std.proofs.Common.{◌≡◌, ◌∙◌, ◌+◌, ℕ, suc, Bool, true, false, cond, List, [], ◌∷◌, ◌++◌, map, filter, flat_map, length, Option, Some, None, Result, Ok, Err, ap, ap₂, subst, refl, sym, append_assoc, append-nil, drop, ◌≤◌}
use Rattle.std.proofs.lemmas.List.{map-append}
use Rattle.std.specs.Prelude.{◌||◌, find, fold, not, option_and_then}
use Rattle.std.specs.Option.{option_map_or}
use Rattle.std.specs.declared.io.ErrorKind.{ErrorKind}
use Rattle.jwalk_model.specs.Counted.{Worth}
use Rattle.jwalk_model.specs.Entry.{Item}
use Rattle.jwalk_model.specs.Error.{Failure, io, unnamed, looped, busy, memory, lost}
use Rattle.jwalk_model.specs.FileType.{is_dir}
use Rattle.jwalk_model.specs.Paths.{join}
use Rattle.jwalk_model.specs.declared.file_type.FileType.{FileType}
use Rattle.jwalk_ignore.specs.Callback.IgnoreFiles.{Made, Source, depth_of, failed_name, file_of, git_by, git_in, given_says, if_read, in_directory, is_git, is_kept, is_read, is_shown, keeps_failed, keeps_name, kind_of, own_rules, own_kind, path_of, rules_found, shows_name, source_in, with_found, with_item, with_listed, with_own}
use Rattle.jwalk_ignore.specs.Pattern.{Pattern}
use Rattle.jwalk_ignore.specs.Rules.Chain.{Chain, chain_says, entered, is_ignored, may_miss, place_in}
use Rattle.jwalk_ignore.specs.Rules.Folder.{folder_at}
use Rattle.jwalk_ignore.specs.Rules.Git.{is_repository}
use Rattle.jwalk_ignore.specs.Rules.Matching.{or_else}
use Rattle.jwalk_ignore.specs.Rules.Texts.{Texts}
use Rattle.jwalk_ignore.specs.Callback.Settings.{Settings}
use Rattle.jwalk_ignore.specs.jwalk_ignore_rules.declared.rules.rules_kind.RulesKind.{RulesKind}
use Rattle.jwalk_ignore.specs.jwalk_ignore_rules.declared.rules.rules_kind.RulesKind.TheVariants as rules
use Rattle.jwalk_ignore.specs.jwalk_ignore_rules.declared.rules.decision.Decision.{Decision}
use Rattle.jwalk_ignore_laws.specs.Deeper.{failure_deeper, item_deeper}
use Rattle.jwalk_ignore_laws.specs.Starts.{Agrees, begun, is_of, number_in}
use Rattle.jwalk_ignore_laws.proofs.DeeperFacts.{Each, IsPlain, each_filter, each_flat}
use Rattle.jwalk_ignore_laws.proofs.AlikeFacts.{Alike, entered_alike, says_alike}
use Rattle.jwalk_ignore_laws.proofs.StartFacts.{put_folder}
use Rattle.jwalk_ignore_laws.proofs.WayFacts.{AlikeAt, own_alike, own_front}

-- ---- the errors of a list's own rules

module _ {R E : Type 0} where
  -- the error of a file of rules, if it can't be read
  abbrev errors_found : ℕ → List ℕ → Result (Option (List Pattern)) ErrorKind → List (Item R E)
  errors_found depth path (Ok found) = []
  errors_found depth path (Err k) = Err (io depth (Some path) k) ∷ []

  found_list : (source : Source) (found : Result (Option (List Pattern)) ErrorKind) (made : Made R E) → (with_found source found made).list ≡ made.list ++ errors_found source.depth (path_of source) found
  found_list source (Ok (Some patterns)) made = sym (append-nil made.list)
  found_list source (Ok None) made = sym (append-nil made.list)
  found_list source (Err k) made = refl

  module _ (texts : Texts) (reads : RulesKind → Bool) (directory : List ℕ) where
    -- the error of the rules of a kind, if there are any
    abbrev errors_own : ℕ → Option RulesKind → List (Item R E)
    errors_own depth None = []
    errors_own depth (Some kind) = errors_found depth (join directory (file_of kind)) (rules_found texts kind (may_miss kind) (join directory (file_of kind)))

    -- an item with the error of the rules that are read for it
    abbrev pub with_errors : Item R E → List (Item R E)
    with_errors x = x ∷ errors_own (depth_of x) (if_read reads (kind_of x))

    own_list : (before depth : ℕ) (kind : Option RulesKind) (made : Made R E) → (with_own texts reads directory before kind depth made).list ≡ made.list ++ errors_own depth kind
    own_list before depth None made = sym (append-nil made.list)
    own_list before depth (Some kind) made = found_list (source_in directory before kind depth) (rules_found texts kind (may_miss kind) (join directory (file_of kind))) made

    -- the list with the errors of its rules
    pub all_list : (before : ℕ) (made : Made R E) (list : List (Item R E)) → (fold (with_listed texts reads directory before) made list).list ≡ made.list ++ flat_map with_errors list
    all_list before made [] = sym (append-nil made.list)
    all_list before made (x ∷ list) =
        all_list before (with_listed texts reads directory before made x) list
        ∙ ap (λ (l : List (Item R E)). l ++ flat_map with_errors list) (own_list before (depth_of x) (if_read reads (kind_of x)) (with_item x made) ∙ append_assoc made.list (x ∷ []) (errors_own (depth_of x) (if_read reads (kind_of x))))
        ∙ append_assoc made.list (with_errors x) (flat_map with_errors list)

    errors_deeper : (levels depth : ℕ) (kind : Option RulesKind) → errors_own (depth + levels) kind ≡ map (item_deeper levels) (errors_own depth kind)
    errors_deeper levels depth None = refl
    errors_deeper levels depth (Some kind) = by (rules_found texts kind (may_miss kind) (join directory (file_of kind)))
      where
        by : (found : Result (Option (List Pattern)) ErrorKind) → errors_found (depth + levels) (join directory (file_of kind)) found ≡ map (item_deeper levels) (errors_found depth (join directory (file_of kind)) found)
        by (Ok found) = refl
        by (Err k) = refl

    item_errors : (levels : ℕ) (x : Item R E) → with_errors (item_deeper levels x) ≡ map (item_deeper levels) (with_errors x)
    item_errors levels (Ok e) = ap (λ (l : List (Item R E)). item_deeper levels (Ok e) ∷ l) (errors_deeper levels e.depth (if_read reads (kind_of {R = R} {E = E} (Ok e))))
    item_errors levels (Err f) = failed f
      where
        failed : (g : Failure) → with_errors (item_deeper levels (Err g)) ≡ map (item_deeper levels) (with_errors (Err g))
        failed (io depth path kind) = ap (λ (l : List (Item R E)). item_deeper levels (Err (io depth path kind)) ∷ l) (errors_deeper levels depth (if_read reads (kind_of {R = R} {E = E} (Err (io depth path kind)))))
        failed (unnamed depth path kind) = refl
        failed (looped depth ancestor path) = ap (λ (l : List (Item R E)). item_deeper levels (Err (looped depth ancestor path)) ∷ l) (errors_deeper levels depth (if_read reads (kind_of {R = R} {E = E} (Err (looped depth ancestor path)))))
        failed busy = refl
        failed memory = refl
        failed lost = refl

    pub list_errors : (levels : ℕ) (list : List (Item R E)) → flat_map with_errors (map (item_deeper levels) list) ≡ map (item_deeper levels) (flat_map with_errors list)
    list_errors levels [] = refl
    list_errors levels (x ∷ list) =
        ap₂ ◌++◌ (item_errors levels x) (list_errors levels list) ∙ sym (map-append (item_deeper levels) (with_errors x) (flat_map with_errors list))

-- ---- what is asked of an item is the same at any depth

-- the name that an error is dropped with
name_deeper : (levels : ℕ) (settings : Settings) (directory : List ℕ) (f : Failure) → failed_name settings directory (failure_deeper levels f) ≡ failed_name settings directory f
name_deeper levels settings directory (io depth path kind) = refl
name_deeper levels settings directory (unnamed depth path kind) = refl
name_deeper levels settings directory (looped depth ancestor path) = refl
name_deeper levels settings directory busy = refl
name_deeper levels settings directory memory = refl
name_deeper levels settings directory lost = refl

module _ {R E : Type 0} (levels : ℕ) where
  git_deeper : (x : Item R E) → is_git (item_deeper levels x) ≡ is_git x
  git_deeper (Ok e) = refl
  git_deeper (Err f) = failed f
    where
      failed : (g : Failure) → is_git {R = R} {E = E} (item_deeper levels (Err g)) ≡ is_git {R = R} {E = E} (Err g)
      failed (io depth path kind) = refl
      failed (unnamed depth path kind) = refl
      failed (looped depth ancestor path) = refl
      failed busy = refl
      failed memory = refl
      failed lost = refl

  own_deeper : (x : Item R E) → own_kind (item_deeper levels x) ≡ own_kind x
  own_deeper (Ok e) = refl
  own_deeper (Err f) = refl

  shown_deeper : (settings : Settings) (directory : List ℕ) (x : Item R E) → is_shown settings directory (item_deeper levels x) ≡ is_shown settings directory x
  shown_deeper settings directory (Ok e) = refl
  shown_deeper settings directory (Err f) = ap (λ (name : Option (List ℕ)). option_map_or (shows_name settings) name true) (name_deeper levels settings directory f)

  pub filter_deeper : (test other : Item R E → Bool) → ((x : Item R E) → test (item_deeper levels x) ≡ other x) → (list : List (Item R E)) → filter test (map (item_deeper levels) list) ≡ map (item_deeper levels) (filter other list)
  filter_deeper test other same [] = refl
  filter_deeper test other same (x ∷ list) =
      ap (λ (b : Bool). cond b (item_deeper levels x ∷ filter test (map (item_deeper levels) list)) (filter test (map (item_deeper levels) list))) (same x) ∙ by (other x) (filter_deeper test other same list)
    where
      by : (b : Bool) → filter test (map (item_deeper levels) list) ≡ map (item_deeper levels) (filter other list)
          → cond b (item_deeper levels x ∷ filter test (map (item_deeper levels) list)) (filter test (map (item_deeper levels) list)) ≡ map (item_deeper levels) (cond b (x ∷ filter other list) (filter other list))
      by true rest = ap (λ (l : List (Item R E)). item_deeper levels x ∷ l) rest
      by false rest = rest

  length_deeper : (list : List (Item R E)) → length (map (item_deeper levels) list) ≡ length list
  length_deeper [] = refl
  length_deeper (x ∷ list) = ap suc (length_deeper list)

  number_deeper : (test other : Item R E → Bool) → ((x : Item R E) → test (item_deeper levels x) ≡ other x) → (list : List (Item R E)) → length (filter test (map (item_deeper levels) list)) ≡ length (filter other list)
  number_deeper test other same list = ap length (filter_deeper test other same list) ∙ length_deeper (filter other list)

  own_number : (kind : RulesKind) (list : List (Item R E)) → number_in kind (map (item_deeper levels) list) ≡ number_in kind list
  own_number kind list = number_deeper (λ x. is_of kind (own_kind x)) (λ x. is_of kind (own_kind x)) (λ x. ap (is_of kind) (own_deeper x)) list

  module _ (texts : Texts) (directory : List ℕ) where
    found_deeper : (list : List (Item R E)) → option_and_then (git_by texts directory) (find is_git (map (item_deeper levels) list)) ≡ option_and_then (git_by texts directory) (find is_git list)
    found_deeper [] = refl
    found_deeper (x ∷ list) =
        ap (λ (b : Bool). option_and_then (git_by texts directory) (cond b (Some (item_deeper levels x)) (find is_git (map (item_deeper levels) list)))) (git_deeper x) ∙ by (is_git x) x (found_deeper list)
      where
        by : (b : Bool) (y : Item R E) → option_and_then (git_by texts directory) (find is_git (map (item_deeper levels) list)) ≡ option_and_then (git_by texts directory) (find is_git list)
            → option_and_then (git_by texts directory) (cond b (Some (item_deeper levels y)) (find is_git (map (item_deeper levels) list))) ≡ option_and_then (git_by texts directory) (cond b (Some y) (find is_git list))
        by true (Ok e) rest = refl
        by true (Err f) rest = refl
        by false y rest = rest

    -- what `.git` leads to
    pub git_in_deeper : (list : List (Item R E)) → git_in texts directory (map (item_deeper levels) list) ≡ git_in texts directory list
    git_in_deeper list = found_deeper list

    -- a list agrees with the texts at any depth
    pub agrees_deeper : (list : List (Item R E)) → Agrees texts directory list → Agrees texts directory (map (item_deeper levels) list)
    agrees_deeper list agrees = record {
      fdignore = own_number rules.Fdignore list ∙ agrees.fdignore;
      ignore = own_number rules.Ignore list ∙ agrees.ignore;
      gitignore = own_number rules.Gitignore list ∙ agrees.gitignore;
      git = git_in_deeper list ∙ agrees.git;
      once = subst (λ (n : ℕ). n ≤ 1) (sym (number_deeper is_git is_git git_deeper list)) agrees.once;
    }

-- ---- what rules leave

module _ (settings : Settings) (texts : Texts) (directory : List ℕ) where
  -- the list of a directory with the errors of its rules, of rules that are in force in it
  own_is : {R E : Type 0} (chain : Chain) (list : List (Item R E))
      → (own_rules settings texts directory chain list).list ≡ flat_map (with_errors texts (is_read settings (entered (is_repository (git_in texts directory list)) chain).in_repository (git_in texts directory list)) directory) list
  own_is {R} {E} chain list =
      let git : Option FileType = git_in texts directory list in
      let inside : Chain = entered (is_repository git) chain in
      all_list texts (is_read settings inside.in_repository git) directory (length (place_in inside directory)) (record { chain = inside; list = [] }) list

  module _ (levels : ℕ) (a b : Chain) (list : List (Item Worth Worth)) where
    abbrev deeper : List (Item Worth Worth)
    deeper = map (item_deeper levels) list

    abbrev own_a : Chain
    own_a = (own_rules settings texts directory a deeper).chain

    abbrev own_b : Chain
    own_b = (own_rules settings texts directory b list).chain

    module _ (from_above : settings.above_the_root ≡ true) (agrees : Agrees texts directory list) (alike_a : AlikeAt settings texts directory a) (alike_b : AlikeAt settings texts directory b) where
      agrees_a : Agrees texts directory deeper
      agrees_a = agrees_deeper levels texts directory list agrees

      entered_same : (holds : Bool) → (entered holds a).in_repository ≡ (entered holds b).in_repository
      entered_same holds =
          let first : Chain = begun settings texts directory in
          let left = entered_alike (place_in a directory) directory holds a first alike_a.1 in
          let right = entered_alike (place_in b directory) directory holds b first alike_b.1 in
          left.repository ∙ sym right.repository

      own_lists : (own_rules settings texts directory a deeper).list ≡ map (item_deeper levels) (own_rules settings texts directory b list).list
      own_lists =
          let git : Option FileType = git_in texts directory list in
          own_is a deeper
          ∙ ap (λ (g : Option FileType). flat_map (with_errors texts (is_read settings (entered (is_repository g) a).in_repository g) directory) deeper) (git_in_deeper levels texts directory list)
          ∙ ap (λ (r : Bool). flat_map (with_errors texts (is_read settings r git) directory) deeper) (entered_same (is_repository git))
          ∙ list_errors texts (is_read settings (entered (is_repository git) b).in_repository git) directory levels list
          ∙ ap (map (item_deeper levels)) (sym (own_is b list))

      -- the rules that a walk has that starts here, in it
      abbrev there : Chain
      there = put_folder settings texts (begun settings texts directory) (folder_at texts false directory)

      name_by : (chain : Chain) (own : Chain) → place_in own directory ≡ place_in chain directory → Alike (place_in chain directory) directory own there → (name : List ℕ) (dir : Bool)
          → keeps_name settings directory own (place_in own directory) name dir ≡ keeps_name settings directory there directory name dir
      name_by chain own place alike name dir =
          let given : Decision = given_says settings.given directory name dir in
          ap (λ (p : List ℕ). not (is_ignored (or_else (chain_says own (p ++ 47 ∷ name) dir) given))) place
          ∙ ap (λ (d : Decision). not (is_ignored (or_else d given))) (says_alike (place_in chain directory) directory name dir own there alike)

      failed_by : (chain : Chain) (own : Chain) → place_in own directory ≡ place_in chain directory → Alike (place_in chain directory) directory own there → (name : Option (List ℕ))
          → keeps_failed settings directory own (place_in own directory) name ≡ keeps_failed settings directory there directory name
      failed_by chain own place alike None = refl
      failed_by chain own place alike (Some name) = ap₂ ◌||◌ (name_by chain own place alike name true) (name_by chain own place alike name false)

      kept_by : (chain : Chain) (own : Chain) → place_in own directory ≡ place_in chain directory → Alike (place_in chain directory) directory own there → (x : Item Worth Worth) → is_kept settings directory own (place_in own directory) x ≡ is_kept settings directory there directory x
      kept_by chain own place alike (Ok e) = name_by chain own place alike e.file_name (is_dir e.file_type)
      kept_by chain own place alike (Err f) = failed_by chain own place alike (failed_name settings directory f)

      place_of : (chain : Chain) (l : List (Item Worth Worth)) → place_in (own_rules settings texts directory chain l).chain directory ≡ place_in chain directory
      place_of chain l =
          let own : Chain = (own_rules settings texts directory chain l).chain in
          let front = own_front settings texts directory chain l in
          ap (λ (f : List ℕ). f ++ drop own.root_len directory) front.0 ∙ ap (λ (n : ℕ). chain.front ++ drop n directory) front.1

      kept_same : (x : Item Worth Worth) → is_kept settings directory own_a (place_in own_a directory) (item_deeper levels x) ≡ is_kept settings directory own_b (place_in own_b directory) x
      kept_same x =
          kept_by a own_a (place_of a deeper) (own_alike settings texts from_above directory a deeper agrees_a alike_a.1) (item_deeper levels x)
          ∙ at_depth x
          ∙ sym (kept_by b own_b (place_of b list) (own_alike settings texts from_above directory b list agrees alike_b.1) x)
        where
          at_depth : (y : Item Worth Worth) → is_kept settings directory there directory (item_deeper levels y) ≡ is_kept settings directory there directory y
          at_depth (Ok e) = refl
          at_depth (Err f) = ap (keeps_failed settings directory there directory) (name_deeper levels settings directory f)

      -- what is left of a list by rules in force there, of which each says what a walk says that starts there
      pub left_same : (in_directory settings texts directory a deeper).list ≡ map (item_deeper levels) (in_directory settings texts directory b list).list
      left_same =
          ap (λ (l : List (Item Worth Worth)). filter (is_kept settings directory own_a (place_in own_a directory)) (filter (is_shown settings directory) l)) own_lists
          ∙ ap (filter (is_kept settings directory own_a (place_in own_a directory))) (filter_deeper levels (is_shown settings directory) (is_shown settings directory) (shown_deeper levels settings directory) (own_rules settings texts directory b list).list)
          ∙ filter_deeper levels (is_kept settings directory own_a (place_in own_a directory)) (is_kept settings directory own_b (place_in own_b directory)) kept_same (filter (is_shown settings directory) (own_rules settings texts directory b list).list)

  -- ---- what is left is still as a walk makes it

  plain_depth : {R E : Type 0} (depth : ℕ) (path : List ℕ) (x : Item R E) → IsPlain depth path x → depth_of x ≡ depth
  plain_depth depth path (Ok e) h = h.0
  plain_depth depth path (Err f) h = h

  plain_errors : {R E : Type 0} (reads : RulesKind → Bool) (depth : ℕ) (path : List ℕ) (x : Item R E) → IsPlain depth path x → Each (IsPlain depth path) (with_errors texts reads directory x)
  plain_errors {R} {E} reads depth path x h = (h, own (if_read reads (kind_of x)))
    where
      found : (own_path : List ℕ) (read : Result (Option (List Pattern)) ErrorKind) → Each (IsPlain {R = R} {E = E} depth path) (errors_found (depth_of x) own_path read)
      found own_path (Ok some) = tt
      found own_path (Err k) = (plain_depth depth path x h, tt)

      own : (kind : Option RulesKind) → Each (IsPlain {R = R} {E = E} depth path) (errors_own texts reads directory (depth_of x) kind)
      own None = tt
      own (Some kind) = found (join directory (file_of kind)) (rules_found texts kind (may_miss kind) (join directory (file_of kind)))

  pub plain_left : {R E : Type 0} (depth : ℕ) (path : List ℕ) (chain : Chain) (list : List (Item R E)) → Each (IsPlain depth path) list → Each (IsPlain depth path) (in_directory settings texts directory chain list).list
  plain_left {R} {E} depth path chain list h =
      let own : Made R E = own_rules settings texts directory chain list in
      let git : Option FileType = git_in texts directory list in
      let reads : RulesKind → Bool = is_read settings (entered (is_repository git) chain).in_repository git in
      let all : Each (IsPlain depth path) own.list = subst (Each (IsPlain depth path)) (sym (own_is chain list)) (each_flat (IsPlain depth path) (with_errors texts reads directory) (plain_errors reads depth path) list h) in
      each_filter (IsPlain depth path) (is_kept settings directory own.chain (place_in own.chain directory)) (filter (is_shown settings directory) own.list) (each_filter (IsPlain depth path) (is_shown settings directory) own.list all)
