-- The folders above a path, and the rules that they have.
use Prim.Native.Nat.{zero}
use Rattle.std.proofs.Common.{◌≡◌, ◌∙◌, ◌<◌, ◌≤◌, ◌+◌, ◌⊎◌, inl, inr, ℕ, suc, Bool, true, false, cond, List, [], ◌∷◌, ◌++◌, length, reverse, Option, Some, None, Result, Ok, Err, ap, refl, sym, arith, length-append}
use Rattle.std.proofs.lemmas.List.{reverse-append, take_all}
use Rattle.std.proofs.lemmas.Paths.{path_components_parent, take_parent}
use Rattle.std.specs.Path.{path_components, path_parent}
use Rattle.jwalk_model.specs.Paths.{parent}
use Rattle.jwalk_model.proofs.PathParents.{path_parent_is}
use Rattle.std.specs.Prelude.{fold}
use Rattle.std.specs.declared.io.ErrorKind.{ErrorKind}
use Rattle.jwalk_ignore.specs.Callback.IgnoreFiles.{Made, Source, all_kinds, entered_above, goes_on, is_read_above, path_of, rules_found, source_above, with_above, with_folder, with_found}
use Rattle.jwalk_ignore.specs.Rules.Folder.{Folder, ends_git, folder_at, folders_above}
use Rattle.jwalk_ignore.specs.Rules.Git.{is_repository}
use Rattle.jwalk_ignore_laws.specs.Starts.{FoldersAreAbove, RulesComeFromAbove, begun, in_folder, unplaced}
use Rattle.jwalk_ignore.specs.Pattern.{Pattern}
use Rattle.jwalk_ignore.specs.Rules.Chain.{Chain, Link, below_root, entered, no_rules, with_link}
use Rattle.jwalk_ignore.specs.Callback.Settings.{Settings}
use Rattle.jwalk_ignore.specs.jwalk_ignore_rules.declared.rules.rules_kind.RulesKind.{RulesKind}
use Rattle.jwalk_ignore.specs.jwalk_ignore_rules.declared.rules.rules_kind.RulesKind.TheVariants as rules
use Rattle.jwalk_ignore.specs.Rules.Texts.{Texts}

-- ---- a parent is shorter

not_more : (cs : List (List ℕ)) (last : List ℕ) → cs ≡ cs ++ last ∷ [] → ⊥
not_more cs last is = let lengths : length cs ≡ length cs + 1 = ap length is ∙ length-append cs (last ∷ []) in absurd (omega arith)

not_itself : (path above : List ℕ) → path_parent path ≡ Some above → length path ≤ length above → ⊥
not_itself path above is long =
    let split = path_components_parent path above is in
    let same : path ≡ above = sym (take_all (length above) path long) ∙ take_parent path above is in
    not_more (path_components path) split.0 (split.1 ∙ ap (λ p. path_components p ++ split.0 ∷ []) (sym same))

less_or : (n m : ℕ) → (n < m) ⊎ (m ≤ n)
less_or n m = grind arith

pub shorter : (path above : List ℕ) → parent path ≡ Some above → length above < length path
shorter path above is = elim (less_or (length above) (length path)) [
  | inl less ↦ less
  | inr more ↦ absurd (not_itself path above (path_parent_is path ∙ is) more)
]

module _ (texts : Texts) where
  -- what is above a parent
  abbrev from : Bool → ℕ → Option (List ℕ) → List Folder
  from is_outer n found = elim found [
    | None ↦ []
    | Some above ↦ folder_at texts is_outer above ∷ folders_above texts (ends_git (folder_at texts is_outer above)) n above
  ]

  none_short : (is_outer : Bool) (m : ℕ) (path : List ℕ) (found : Option (List ℕ)) → parent path ≡ found → length path ≤ 0 → [] ≡ from is_outer m found
  none_short is_outer m path None is short = refl
  none_short is_outer m path (Some above) is short = let less = shorter path above is in absurd (omega arith)

  some_enough : (is_outer : Bool) (n m : ℕ) (path : List ℕ) (found : Option (List ℕ)) → parent path ≡ found → length path ≤ suc n → length path ≤ suc m
      → ((o : Bool) (above : List ℕ) → length above ≤ n → length above ≤ m → folders_above texts o n above ≡ folders_above texts o m above) → from is_outer n found ≡ from is_outer m found
  some_enough is_outer n m path None is short_n short_m rest = refl
  some_enough is_outer n m path (Some above) is short_n short_m rest =
      let less = shorter path above is in
      ap (λ (fs : List Folder). folder_at texts is_outer above ∷ fs) (rest (ends_git (folder_at texts is_outer above)) above (omega arith) (omega arith))

  -- any number from the path's length on is enough
  enough : (n m : ℕ) (is_outer : Bool) (path : List ℕ) → length path ≤ n → length path ≤ m → folders_above texts is_outer n path ≡ folders_above texts is_outer m path
  enough zero zero is_outer path short_n short_m = refl
  enough zero (suc m) is_outer path short_n short_m = none_short is_outer m path (parent path) refl short_n
  enough (suc n) zero is_outer path short_n short_m = sym (none_short is_outer n path (parent path) refl short_m)
  enough (suc n) (suc m) is_outer path short_n short_m = some_enough is_outer n m path (parent path) refl short_n short_m (λ o above. enough n m o above)

  above_one : (is_outer : Bool) (n : ℕ) (path above : List ℕ) → length path ≡ n → parent path ≡ Some above
      → folders_above texts is_outer n path ≡ folder_at texts is_outer above ∷ folders_above texts (ends_git (folder_at texts is_outer above)) (length above) above
  above_one is_outer zero path above long is = let less = shorter path above is in absurd (omega arith)
  above_one is_outer (suc n) path above long is =
      let less = shorter path above is in
      ap (from is_outer n) is ∙ ap (λ (fs : List Folder). folder_at texts is_outer above ∷ fs) (enough n (length above) (ends_git (folder_at texts is_outer above)) above (omega arith) (omega arith))

pub folders_are_above : FoldersAreAbove
folders_are_above texts path above is = above_one texts false (length path) path above refl is

-- ---- rules by folders

-- with what one file is found to have
abbrev pub put_at : RulesKind → ℕ → Result (Option (List Pattern)) ErrorKind → Chain → Chain
put_at kind before (Ok (Some patterns)) chain = with_link kind (record { before = before; patterns = patterns }) chain
put_at kind before (Ok None) chain = chain
put_at kind before (Err k) chain = chain

abbrev pub put : Source → Result (Option (List Pattern)) ErrorKind → Chain → Chain
put source found chain = put_at source.kind source.before found chain

link_unplaced : (kind : RulesKind) (link : Link) (chain : Chain) → unplaced (with_link kind link chain) ≡ with_link kind link (unplaced chain)
link_unplaced rules.Fdignore link chain = refl
link_unplaced rules.Ignore link chain = refl
link_unplaced rules.Gitignore link chain = refl
link_unplaced rules.Exclude link chain = refl

put_unplaced : (source : Source) (found : Result (Option (List Pattern)) ErrorKind) (chain : Chain) → unplaced (put source found chain) ≡ put source found (unplaced chain)
put_unplaced source (Ok (Some patterns)) chain = link_unplaced source.kind (record { before = source.before; patterns = patterns }) chain
put_unplaced source (Ok None) chain = refl
put_unplaced source (Err k) chain = refl

entered_unplaced : (b : Bool) (chain : Chain) → unplaced (entered b chain) ≡ entered b (unplaced chain)
entered_unplaced true chain = refl
entered_unplaced false chain = refl

fold_last : {M X : Type 0} (step : M → X → M) (m : M) (xs : List X) (x : X) → fold step m (xs ++ x ∷ []) ≡ step (fold step m xs) x
fold_last step m [] x = refl
fold_last step m (y ∷ xs) x = fold_last step (step m y) xs x

-- what is left in another repository
abbrev closed : Chain → Chain
closed chain = entered true (unplaced chain)

closed_entered : (b : Bool) (chain : Chain) → closed (entered b chain) ≡ closed chain
closed_entered true chain = refl
closed_entered false chain = refl

pub found_put : {R E : Type 0} (source : Source) (found : Result (Option (List Pattern)) ErrorKind) (made : Made R E) → (with_found source found made).chain ≡ put source found made.chain
found_put source (Ok (Some patterns)) made = refl
found_put source (Ok None) made = refl
found_put source (Err k) made = refl

module _ (settings : Settings) (texts : Texts) where
  -- with the rules of a kind in a folder
  abbrev pub put_above : Folder → Bool → RulesKind → Chain → Chain
  put_above folder true kind chain = put (source_above folder kind) (rules_found texts kind true (path_of (source_above folder kind))) chain
  put_above folder false kind chain = chain

  -- with the rules of these kinds in a folder that is in a repository or not
  abbrev pub put_kinds : Folder → Bool → List RulesKind → Chain → Chain
  put_kinds folder in_repository kinds chain = fold (λ c kind. put_above folder (is_read_above settings folder in_repository kind) kind c) chain kinds

  -- with all that a folder has that is entered
  abbrev pub put_inside : Folder → Chain → Chain
  put_inside folder inside = put_kinds folder inside.in_repository all_kinds inside

  abbrev pub put_folder : Chain → Folder → Chain
  put_folder chain folder = put_inside folder (entered (is_repository folder.git) chain)

  above_put : {R E : Type 0} (folder : Folder) (read : Bool) (kind : RulesKind) (made : Made R E) → (with_above settings texts folder read kind made).chain ≡ put_above folder read kind made.chain
  above_put folder true kind made = found_put (source_above folder kind) (rules_found texts kind true (path_of (source_above folder kind))) made
  above_put folder false kind made = refl

  kinds_put : {R E : Type 0} (folder : Folder) (in_repository : Bool) (kinds : List RulesKind) (made : Made R E)
      → (fold (λ m kind. with_above settings texts folder (is_read_above settings folder in_repository kind) kind m) made kinds).chain ≡ put_kinds folder in_repository kinds made.chain
  kinds_put folder in_repository [] made = refl
  kinds_put folder in_repository (kind ∷ kinds) made =
      let read : Bool = is_read_above settings folder in_repository kind in
      kinds_put folder in_repository kinds (with_above settings texts folder read kind made) ∙ ap (put_kinds folder in_repository kinds) (above_put folder read kind made)

  pub folder_put : {R E : Type 0} (made : Made R E) (folder : Folder) → (with_folder settings texts made folder).chain ≡ put_folder made.chain folder
  folder_put {R} {E} made folder =
      let inside : Made R E = entered_above settings texts folder made in
      kinds_put folder inside.chain.in_repository all_kinds inside

  pub folders_put : {R E : Type 0} (made : Made R E) (folders : List Folder) → (fold (with_folder settings texts) made folders).chain ≡ fold put_folder made.chain folders
  folders_put made [] = refl
  folders_put made (folder ∷ folders) =
      folders_put (with_folder settings texts made folder) folders ∙ ap (λ (c : Chain). fold put_folder c folders) (folder_put made folder)

  above_unplaced : (folder : Folder) (read : Bool) (kind : RulesKind) (chain : Chain) → unplaced (put_above folder read kind chain) ≡ put_above folder read kind (unplaced chain)
  above_unplaced folder true kind chain = put_unplaced (source_above folder kind) (rules_found texts kind true (path_of (source_above folder kind))) chain
  above_unplaced folder false kind chain = refl

  kinds_unplaced : (folder : Folder) (in_repository : Bool) (kinds : List RulesKind) (chain : Chain)
      → unplaced (put_kinds folder in_repository kinds chain) ≡ put_kinds folder in_repository kinds (unplaced chain)
  kinds_unplaced folder in_repository [] chain = refl
  kinds_unplaced folder in_repository (kind ∷ kinds) chain =
      let read : Bool = is_read_above settings folder in_repository kind in
      kinds_unplaced folder in_repository kinds (put_above folder read kind chain) ∙ ap (put_kinds folder in_repository kinds) (above_unplaced folder read kind chain)

  folder_unplaced : (chain : Chain) (folder : Folder) → unplaced (put_folder chain folder) ≡ put_folder (unplaced chain) folder
  folder_unplaced chain folder =
      let inside : Chain = entered (is_repository folder.git) chain in
      kinds_unplaced folder inside.in_repository all_kinds inside ∙ ap (put_inside folder) (entered_unplaced (is_repository folder.git) chain)

  all_unplaced : (chain : Chain) (folders : List Folder) → unplaced (fold put_folder chain folders) ≡ fold put_folder (unplaced chain) folders
  all_unplaced chain [] = refl
  all_unplaced chain (folder ∷ folders) = all_unplaced (put_folder chain folder) folders ∙ ap (λ (c : Chain). fold put_folder c folders) (folder_unplaced chain folder)

  either_way : {X : Type 0} (b : Bool) (x : X) → x ≡ cond b x x
  either_way true x = refl
  either_way false x = refl

  -- of a folder's rules some kinds go on in another repository
  link_closed : (kind : RulesKind) (link : Link) (chain : Chain) → closed (with_link kind link chain) ≡ cond (goes_on kind) (with_link kind link (closed chain)) (closed chain)
  link_closed rules.Fdignore link chain = refl
  link_closed rules.Ignore link chain = refl
  link_closed rules.Gitignore link chain = refl
  link_closed rules.Exclude link chain = refl

  found_closed : (kind : RulesKind) (before : ℕ) (found : Result (Option (List Pattern)) ErrorKind) (chain : Chain) → closed (put_at kind before found chain) ≡ cond (goes_on kind) (put_at kind before found (closed chain)) (closed chain)
  found_closed kind before (Ok (Some patterns)) chain = link_closed kind (record { before = before; patterns = patterns }) chain
  found_closed kind before (Ok None) chain = either_way (goes_on kind) (closed chain)
  found_closed kind before (Err k) chain = either_way (goes_on kind) (closed chain)

  above_closed : (folder : Folder) (read : Bool) (kind : RulesKind) (chain : Chain) → closed (put_above folder read kind chain) ≡ cond (goes_on kind) (put_above folder read kind (closed chain)) (closed chain)
  above_closed folder true kind chain = found_closed kind (length folder.path) (rules_found texts kind true (path_of (source_above folder kind))) chain
  above_closed folder false kind chain = either_way (goes_on kind) (closed chain)

  -- a folder at a path that is in no repository
  abbrev plain_at : List ℕ → Folder
  plain_at path = record { path = path; git = None; is_outer = false }

  -- with the rules of a kind at a path, if it goes on
  abbrev put_on : List ℕ → RulesKind → Chain → Chain
  put_on path kind chain = cond (goes_on kind) (put_above (plain_at path) (is_read_above settings (plain_at path) false kind) kind chain) chain

  -- what goes on is the same of an outer folder
  kind_closed : (folder : Folder) (in_repository : Bool) (kind : RulesKind) (chain : Chain)
      → closed (put_above folder (is_read_above settings folder in_repository kind) kind chain) ≡ put_on folder.path kind (closed chain)
  kind_closed folder in_repository rules.Fdignore chain = above_closed folder (is_read_above settings folder in_repository rules.Fdignore) rules.Fdignore chain
  kind_closed folder in_repository rules.Ignore chain = above_closed folder (is_read_above settings folder in_repository rules.Ignore) rules.Ignore chain
  kind_closed folder in_repository rules.Gitignore chain = above_closed folder (is_read_above settings folder in_repository rules.Gitignore) rules.Gitignore chain
  kind_closed folder in_repository rules.Exclude chain = above_closed folder (is_read_above settings folder in_repository rules.Exclude) rules.Exclude chain

  abbrev put_on_all : List ℕ → List RulesKind → Chain → Chain
  put_on_all path kinds chain = fold (λ c kind. put_on path kind c) chain kinds

  kinds_closed : (folder : Folder) (in_repository : Bool) (kinds : List RulesKind) (chain : Chain) → closed (put_kinds folder in_repository kinds chain) ≡ put_on_all folder.path kinds (closed chain)
  kinds_closed folder in_repository [] chain = refl
  kinds_closed folder in_repository (kind ∷ kinds) chain =
      kinds_closed folder in_repository kinds (put_above folder (is_read_above settings folder in_repository kind) kind chain)
      ∙ ap (put_on_all folder.path kinds) (kind_closed folder in_repository kind chain)

  closed_folder : (chain : Chain) (folder : Folder) → closed (put_folder chain folder) ≡ put_on_all folder.path all_kinds (closed chain)
  closed_folder chain folder =
      let inside : Chain = entered (is_repository folder.git) chain in
      kinds_closed folder inside.in_repository all_kinds inside ∙ ap (put_on_all folder.path all_kinds) (closed_entered (is_repository folder.git) chain)

  -- the rules of folders, the nearest of which is the first
  abbrev pub put_all : Chain → List Folder → Chain
  put_all chain folders = fold put_folder chain (reverse folders)

  pub one_more : (chain : Chain) (folder : Folder) (folders : List Folder) → put_all chain (folder ∷ folders) ≡ put_folder (put_all chain folders) folder
  one_more chain folder folders =
      ap (fold put_folder chain) (reverse-append (folder ∷ []) folders) ∙ fold_last put_folder chain (reverse folders) folder

  -- into another repository the same rules go on, whether the folders are outer ones or not
  closed_one : (chain : Chain) (n : ℕ) (a b : Bool) (found : Option (List ℕ))
      → ((c d : Bool) (path : List ℕ) → closed (put_all chain (folders_above texts c n path)) ≡ closed (put_all chain (folders_above texts d n path)))
      → closed (put_all chain (from texts a n found)) ≡ closed (put_all chain (from texts b n found))
  closed_one chain n a b None rest = refl
  closed_one chain n a b (Some above) rest =
      let first : Folder = folder_at texts a above in
      let other : Folder = folder_at texts b above in
      let firsts : List Folder = folders_above texts (ends_git first) n above in
      let others : List Folder = folders_above texts (ends_git other) n above in
      ap closed (one_more chain first firsts) ∙ closed_folder (put_all chain firsts) first
      ∙ ap (put_on_all above all_kinds) (rest (ends_git first) (ends_git other) above)
      ∙ sym (closed_folder (put_all chain others) other) ∙ ap closed (sym (one_more chain other others))

  same_closed : (chain : Chain) (n : ℕ) (a b : Bool) (path : List ℕ) → closed (put_all chain (folders_above texts a n path)) ≡ closed (put_all chain (folders_above texts b n path))
  same_closed chain zero a b path = refl
  same_closed chain (suc n) a b path = closed_one chain n a b (parent path) (same_closed chain n)

  -- no rules, wherever the root is
  abbrev none_yet : Chain
  none_yet = unplaced no_rules

  put_unplaced_all : (folders : List Folder) → unplaced (put_all none_yet folders) ≡ put_all none_yet folders
  put_unplaced_all folders = all_unplaced none_yet (reverse folders)

  -- the folders above may be outer ones, where a folder is a repository
  in_either : (folder : Folder) (b : Bool) (n : ℕ) (path : List ℕ) → is_repository folder.git ≡ b
      → put_folder (put_all none_yet (folders_above texts b n path)) folder ≡ put_folder (put_all none_yet (folders_above texts false n path)) folder
  in_either folder false n path is = refl
  in_either folder true n path is =
      let outer : List Folder = folders_above texts true n path in
      let all : List Folder = folders_above texts false n path in
      ap (λ (r : Bool). put_inside folder (entered r (put_all none_yet outer))) is
      ∙ ap (λ (c : Chain). put_inside folder (entered true c)) (sym (put_unplaced_all outer))
      ∙ ap (put_inside folder) (same_closed none_yet n true false path)
      ∙ ap (λ (c : Chain). put_inside folder (entered true c)) (put_unplaced_all all)
      ∙ ap (λ (r : Bool). put_inside folder (entered r (put_all none_yet all))) (sym is)

  begun_is : (path : List ℕ) → unplaced (begun settings texts path) ≡ put_all none_yet (folders_above texts false (length path) path)
  begun_is path =
      let folders : List Folder = reverse (folders_above texts false (length path) path) in
      ap unplaced (folders_put {R = Unit {0}} {E = Unit {0}} (record { chain = below_root path path; list = [] }) folders) ∙ all_unplaced (below_root path path) folders

  come_from : (path above : List ℕ) → parent path ≡ Some above → unplaced (begun settings texts path) ≡ unplaced (in_folder settings texts (begun settings texts above) above)
  come_from path above is =
      let folder : Folder = folder_at texts false above in
      let outer : List Folder = folders_above texts (ends_git folder) (length above) above in
      begun_is path ∙ ap (put_all none_yet) (folders_are_above texts path above is) ∙ one_more none_yet folder outer
      ∙ in_either folder (is_repository folder.git) (length above) above refl
      ∙ ap (λ (c : Chain). put_folder c folder) (sym (begun_is above))
      ∙ sym (ap unplaced (folder_put {R = Unit {0}} {E = Unit {0}} (record { chain = begun settings texts above; list = [] }) folder) ∙ folder_unplaced (begun settings texts above) folder)

pub rules_come_from_above : RulesComeFromAbove
rules_come_from_above settings texts path above is = come_from settings texts path above is
