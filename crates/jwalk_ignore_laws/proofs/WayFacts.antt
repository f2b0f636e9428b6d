-- The rules on the way to a directory.
use Prim.Native.Nat.{zero}
use Rattle.std.proofs.Common.{◌≡◌, ◌≢◌, ◌∙◌, ◌≤◌, ◌⊎◌, inl, inr, ℕ, suc, Bool, true, false, cond, List, [], ◌∷◌, ◌++◌, length, drop, reverse, Option, Some, None, Result, ap, subst, refl, sym, arith, eqb-true, append_assoc, append-nil, length-append}
use Rattle.std.specs.Prelude.{◌&&◌, ◌||◌, ◌==◌, flat_map, fold}
use Rattle.std.specs.declared.io.ErrorKind.{ErrorKind}
use Rattle.jwalk_model.specs.Counted.{Worth}
use Rattle.jwalk_model.specs.Entry.{Item}
use Rattle.jwalk_model.specs.declared.file_type.FileType.{FileType}
use Rattle.jwalk_model.specs.PathTexts.{IsName}
use Rattle.jwalk_model.specs.Paths.{join, parent, with_slash}
use Rattle.jwalk_ignore.specs.Callback.IgnoreFiles.{Made, all_kinds, file_of, git_in, goes_on as kind_goes_on, is_read, is_read_above, own_rules, rules_found, source_above, with_absolute, with_root}
use Rattle.jwalk_ignore.specs.Rules.Folder.{Folder, ends_git, folder_at, folders_above}
use Rattle.jwalk_ignore.specs.Rules.Git.{is_repository}
use Rattle.jwalk_ignore_laws.specs.Starts.{Agrees, AreTheSame, IsWay, Lists, RulesAreTheSame, WalksBeginSo, begun, below, come_to, links_in, same_kind, unplaced}
use Rattle.jwalk_ignore.specs.Rules.Chain.{Chain, Link, below_root, entered, place_in}
use Rattle.jwalk_ignore.specs.Pattern.Names.{names_of}
use Rattle.jwalk_ignore.specs.Rules.Texts.{Texts}
use Rattle.jwalk_ignore.specs.Callback.Settings.{Settings}
use Rattle.jwalk_ignore.specs.jwalk_ignore_rules.declared.rules.rules_kind.RulesKind.{RulesKind}
use Rattle.jwalk_ignore.specs.jwalk_ignore_rules.declared.rules.rules_kind.RulesKind.TheVariants as rules
use Rattle.jwalk_ignore_laws.proofs.AlikeFacts.{Alike, LinksAlike, Within, drop_whole, entered_alike, keeps_all, keeps_slash, links_go, links_keep, more_alike, patterns_same, says_alike, within_alike, within_if, within_more}
use Rattle.jwalk_ignore_laws.proofs.NameFacts.{Goes, drop_front, goes_behind, goes_on, joined, one_name}
use Rattle.jwalk_ignore_laws.proofs.OwnFacts.{found_links, list_front, list_links, list_repository, put_front, put_links, put_repository}
use Rattle.jwalk_ignore_laws.proofs.StartFacts.{folder_put, folders_put, one_more, put_above, put_all, put_folder, put_inside, put_kinds, rules_come_from_above, shorter}

-- ---- the links of a folder above

and_true : (b : Bool) → (b && true) ≡ b
and_true true = refl
and_true false = refl

and_false : (b : Bool) → (b && false) ≡ false
and_false true = refl
and_false false = refl

or_true : (b : Bool) → (b || true) ≡ true
or_true true = refl
or_true false = refl

second_of : (a b : Bool) → (a && b) ≡ true → b ≡ true
second_of true b is = is
second_of false b is = absurd (cc)

-- what a folder's file of a kind has
abbrev in_file : Texts → List ℕ → RulesKind → List Link
in_file texts folder kind = found_links (length folder) (rules_found texts kind true (join folder (file_of kind)))

module _ (settings : Settings) (texts : Texts) where
  above_links : (kind : RulesKind) (folder : Folder) (read : Bool) (other : RulesKind) (chain : Chain)
      → links_in kind (put_above settings texts folder read other chain) ≡ links_in kind chain ++ cond (same_kind kind other && read) (in_file texts folder.path other) []
  above_links kind folder true other chain =
      put_links kind (source_above folder other) (rules_found texts other true (join folder.path (file_of other))) chain
      ∙ ap (λ (b : Bool). links_in kind chain ++ cond b (in_file texts folder.path other) []) (sym (and_true (same_kind kind other)))
  above_links kind folder false other chain =
      sym (append-nil (links_in kind chain)) ∙ ap (λ (b : Bool). links_in kind chain ++ cond b (in_file texts folder.path other) []) (sym (and_false (same_kind kind other)))

  -- what a folder has of a kind, by each of the kinds that are read
  abbrev links_by : RulesKind → Folder → Bool → RulesKind → List Link
  links_by kind folder in_repository other = cond (same_kind kind other && is_read_above settings folder in_repository other) (in_file texts folder.path other) []

  kinds_links : (kind : RulesKind) (folder : Folder) (in_repository : Bool) (kinds : List RulesKind) (chain : Chain)
      → links_in kind (put_kinds settings texts folder in_repository kinds chain) ≡ links_in kind chain ++ flat_map (links_by kind folder in_repository) kinds
  kinds_links kind folder in_repository [] chain = sym (append-nil (links_in kind chain))
  kinds_links kind folder in_repository (other ∷ kinds) chain =
      let read : Bool = is_read_above settings folder in_repository other in
      kinds_links kind folder in_repository kinds (put_above settings texts folder read other chain)
      ∙ ap (λ (l : List Link). l ++ flat_map (links_by kind folder in_repository) kinds) (above_links kind folder read other chain)
      ∙ append_assoc (links_in kind chain) (links_by kind folder in_repository other) (flat_map (links_by kind folder in_repository) kinds)

  one_kind : (kind : RulesKind) (folder : Folder) (in_repository : Bool)
      → flat_map (links_by kind folder in_repository) all_kinds ≡ cond (is_read_above settings folder in_repository kind) (in_file texts folder.path kind) []
  one_kind rules.Fdignore folder in_repository = append-nil (links_by rules.Fdignore folder in_repository rules.Fdignore)
  one_kind rules.Ignore folder in_repository = append-nil (links_by rules.Ignore folder in_repository rules.Ignore)
  one_kind rules.Gitignore folder in_repository = append-nil (links_by rules.Gitignore folder in_repository rules.Gitignore)
  one_kind rules.Exclude folder in_repository = append-nil (links_by rules.Exclude folder in_repository rules.Exclude)

  folder_links : (kind : RulesKind) (folder : Folder) (inside : Chain)
      → links_in kind (put_inside settings texts folder inside)
      ≡ links_in kind inside ++ cond (is_read_above settings folder inside.in_repository kind) (in_file texts folder.path kind) []
  folder_links kind folder inside =
      kinds_links kind folder inside.in_repository all_kinds inside ∙ ap (λ (l : List Link). links_in kind inside ++ l) (one_kind kind folder inside.in_repository)

  -- what stays in a folder: whether a repository is entered, and where the root is
  abbrev Stays : Chain → Chain → Type 0
  Stays old new = (new.in_repository ≡ old.in_repository) × (new.front ≡ old.front) × (new.root_len ≡ old.root_len)

  above_stays : (folder : Folder) (read : Bool) (kind : RulesKind) (chain : Chain) → Stays chain (put_above settings texts folder read kind chain)
  above_stays folder true kind chain =
      let found = rules_found texts kind true (join folder.path (file_of kind)) in
      let front = put_front (source_above folder kind) found chain in
      (put_repository (source_above folder kind) found chain, front.0, front.1)
  above_stays folder false kind chain = (refl, refl, refl)

  both_stay : (a b c : Chain) → Stays a b → Stays b c → Stays a c
  both_stay a b c h k = (k.0 ∙ h.0, k.1 ∙ h.1, k.2 ∙ h.2)

  kinds_stay : (folder : Folder) (in_repository : Bool) (kinds : List RulesKind) (chain : Chain) → Stays chain (put_kinds settings texts folder in_repository kinds chain)
  kinds_stay folder in_repository [] chain = (refl, refl, refl)
  kinds_stay folder in_repository (kind ∷ kinds) chain =
      let read : Bool = is_read_above settings folder in_repository kind in
      let next : Chain = put_above settings texts folder read kind chain in
      both_stay chain next (put_kinds settings texts folder in_repository kinds next) (above_stays folder read kind chain) (kinds_stay folder in_repository kinds next)

  inside_stays : (folder : Folder) (inside : Chain) → Stays inside (put_inside settings texts folder inside)
  inside_stays folder inside = kinds_stay folder inside.in_repository all_kinds inside

  entered_front : (holds : Bool) (chain : Chain) → ((entered holds chain).front ≡ chain.front) × ((entered holds chain).root_len ≡ chain.root_len)
  entered_front true chain = (refl, refl)
  entered_front false chain = (refl, refl)

  -- where the root is stays whatever the folders are
  all_front : (chain : Chain) (folders : List Folder) → ((fold (put_folder settings texts) chain folders).front ≡ chain.front) × ((fold (put_folder settings texts) chain folders).root_len ≡ chain.root_len)
  all_front chain [] = (refl, refl)
  all_front chain (folder ∷ folders) =
      let inside : Chain = entered (is_repository folder.git) chain in
      let rest = all_front (put_inside settings texts folder inside) folders in
      let here = inside_stays folder inside in
      let first = entered_front (is_repository folder.git) chain in
      (rest.0 ∙ here.1 ∙ first.0, rest.1 ∙ here.2 ∙ first.1)

  begun_front : (path : List ℕ) → ((begun settings texts path).front ≡ path ++ 47 ∷ []) × ((begun settings texts path).root_len ≡ length path)
  begun_front path =
      let folders : List Folder = reverse (folders_above texts false (length path) path) in
      let same = folders_put settings texts {R = Unit {0}} {E = Unit {0}} (record { chain = below_root path path; list = [] }) folders in
      let all = all_front (below_root path path) folders in
      (ap (λ (c : Chain). c.front) same ∙ all.0, ap (λ (c : Chain). c.root_len) same ∙ all.1)

  -- ---- no link of a folder above matches before the folder's end

  abbrev Short : ℕ → List Folder → Type 0
  Short n [] = Unit {0}
  Short n (folder ∷ folders) = (length folder.path ≤ n) × Short n folders

  shorter_all : (n m : ℕ) (folders : List Folder) → n ≤ m → Short n folders → Short m folders
  shorter_all n m [] less h = tt
  shorter_all n m (folder ∷ folders) less h = (omega (arith, less, h.0), shorter_all n m folders less h.1)

  abbrev found_above : Bool → ℕ → Option (List ℕ) → List Folder
  found_above is_outer n found = elim found [
    | None ↦ []
    | Some above ↦ folder_at texts is_outer above ∷ folders_above texts (ends_git (folder_at texts is_outer above)) n above
  ]

  above_short : (is_outer : Bool) (n : ℕ) (path : List ℕ) (found : Option (List ℕ)) → parent path ≡ found
      → ((b : Bool) (above : List ℕ) → Short (length above) (folders_above texts b n above)) → Short (length path) (found_above is_outer n found)
  above_short is_outer n path None is rest = tt
  above_short is_outer n path (Some above) is rest =
      let less = shorter path above is in
      let folder : Folder = folder_at texts is_outer above in
      (omega arith, shorter_all (length above) (length path) (folders_above texts (ends_git folder) n above) (omega arith) (rest (ends_git folder) above))

  folders_short : (n : ℕ) (is_outer : Bool) (path : List ℕ) → Short (length path) (folders_above texts is_outer n path)
  folders_short zero is_outer path = tt
  folders_short (suc n) is_outer path = above_short is_outer n path (parent path) refl (λ b above. folders_short n b above)

  entered_within : (n : ℕ) (holds : Bool) (kind : RulesKind) (chain : Chain) → Within n (links_in kind chain) → Within n (links_in kind (entered holds chain))
  entered_within n true rules.Fdignore chain h = h
  entered_within n true rules.Ignore chain h = h
  entered_within n true rules.Gitignore chain h = tt
  entered_within n true rules.Exclude chain h = tt
  entered_within n false kind chain h = h

  folder_within : (n : ℕ) (kind : RulesKind) (chain : Chain) (folder : Folder) → length folder.path ≤ n → Within n (links_in kind chain) → Within n (links_in kind (put_folder settings texts chain folder))
  folder_within n kind chain folder less h =
      let inside : Chain = entered (is_repository folder.git) chain in
      let read : Bool = is_read_above settings folder inside.in_repository kind in
      let found = rules_found texts kind true (join folder.path (file_of kind)) in
      subst (λ (l : List Link). Within n l) (sym (folder_links kind folder inside))
      (within_more n (links_in kind inside) (cond read (in_file texts folder.path kind) []) (entered_within n (is_repository folder.git) kind chain h) (within_if n (length folder.path) read found less))

  no_links_within : (n : ℕ) (kind : RulesKind) (path : List ℕ) → Within n (links_in kind (below_root path path))
  no_links_within n rules.Fdignore path = tt
  no_links_within n rules.Ignore path = tt
  no_links_within n rules.Gitignore path = tt
  no_links_within n rules.Exclude path = tt

  all_within : (n : ℕ) (kind : RulesKind) (path : List ℕ) (folders : List Folder) → Short n folders → Within n (links_in kind (put_all settings texts (below_root path path) folders))
  all_within n kind path [] h = no_links_within n kind path
  all_within n kind path (folder ∷ folders) h =
      subst (λ (c : Chain). Within n (links_in kind c)) (sym (one_more settings texts (below_root path path) folder folders))
      (folder_within n kind (put_all settings texts (below_root path path) folders) folder h.0 (all_within n kind path folders h.1))

  begun_within : (kind : RulesKind) (path : List ℕ) → Within (length path) (links_in kind (begun settings texts path))
  begun_within kind path =
      let folders : List Folder = folders_above texts false (length path) path in
      subst (λ (c : Chain). Within (length path) (links_in kind c)) (sym (folders_put settings texts {R = Unit {0}} {E = Unit {0}} (record { chain = below_root path path; list = [] }) (reverse folders)))
      (all_within (length path) kind path folders (folders_short (length path) false path))

-- ---- where a directory is

-- A path is ended by a slash, or one is put behind it.
abbrev Ends : List ℕ → Type 0
Ends path = (with_slash path ≡ path ++ 47 ∷ []) ⊎ ((front : List ℕ) × (path ≡ front ++ 47 ∷ []) × (with_slash path ≡ path))

end_by : (c : ℕ) (b : Bool) → (c == 47) ≡ b → (cond b (c ∷ []) (c ∷ 47 ∷ []) ≡ (c ∷ []) ++ 47 ∷ []) ⊎ ((front : List ℕ) × (c ∷ [] ≡ front ++ 47 ∷ []) × (cond b (c ∷ []) (c ∷ 47 ∷ []) ≡ c ∷ []))
end_by c true is = inr ([], ap (λ (d : ℕ). d ∷ []) (eqb-true c 47 is), refl)
end_by c false is = inl refl

end_of : (c : ℕ) (cs : List ℕ) → Ends (c ∷ cs)
end_of c [] = elim (end_by c (c == 47) refl) [
  | inl put ↦ inl put
  | inr has ↦ inr has
]
end_of c (d ∷ cs) = elim (end_of d cs) [
  | inl put ↦ inl (ap (λ (l : List ℕ). c ∷ l) put)
  | inr has ↦ inr (c ∷ has.0, ap (λ (l : List ℕ). c ∷ l) has.1, ap (λ (l : List ℕ). c ∷ l) has.2)
]

ends : (path : List ℕ) → path ≢ [] → Ends path
ends [] some = absurd (some refl)
ends (c ∷ cs) some = end_of c cs

-- A root's absolute path ends with a slash where it is put in front, and its own path is no longer than the directory's.
abbrev pub Rooted : Chain → List ℕ → Type 0
Rooted chain directory = (front : List ℕ) × (chain.front ≡ front ++ 47 ∷ []) × (chain.root_len ≤ length directory)

-- One name farther, from a directory and from its place.
abbrev BothGo : Chain → List ℕ → List ℕ → List ℕ → Type 0
BothGo chain d n next = Goes (place_in chain d) n (place_in chain next) × Goes d n next × (length d ≤ length next)

ended_drop : (b : ℕ) (u : List ℕ) → (drop b (u ++ 47 ∷ []) ≡ []) ⊎ ((w : List ℕ) × (drop b (u ++ 47 ∷ []) ≡ w ++ 47 ∷ []))
ended_drop zero u = inr (u, refl)
ended_drop (suc zero) [] = inl refl
ended_drop (suc (suc b)) [] = inl refl
ended_drop (suc b) (c ∷ u) = ended_drop b u

put_behind : (chain : Chain) (d n : List ℕ) → names_of n ≡ n ∷ [] → chain.root_len ≤ length d → BothGo chain d n (d ++ 47 ∷ n)
put_behind chain d n one less =
    let place : place_in chain (d ++ 47 ∷ n) ≡ place_in chain d ++ 47 ∷ n =
    ap (λ (l : List ℕ). chain.front ++ l) (drop_front chain.root_len d (47 ∷ n) less) ∙ sym (append_assoc chain.front (drop chain.root_len d) (47 ∷ n)) in
    (subst (λ (q : List ℕ). Goes (place_in chain d) n q) (sym place) (goes_behind (place_in chain d) n one), goes_behind d n one, rw (length-append d (47 ∷ n)) (omega arith))

ended_place : (chain : Chain) (front u rest : List ℕ) → chain.front ≡ front ++ 47 ∷ [] → (rest ≡ []) ⊎ ((w : List ℕ) × (rest ≡ w ++ 47 ∷ [])) → (v : List ℕ) × (chain.front ++ rest ≡ v ++ 47 ∷ [])
ended_place chain front u rest is (inl none) = (front, ap (λ (l : List ℕ). chain.front ++ l) none ∙ append-nil chain.front ∙ is)
ended_place chain front u rest is (inr (w, has)) = (chain.front ++ w, ap (λ (l : List ℕ). chain.front ++ l) has ∙ sym (append_assoc chain.front w (47 ∷ [])))

go_on : (chain : Chain) (front u n : List ℕ) → names_of n ≡ n ∷ [] → chain.front ≡ front ++ 47 ∷ [] → chain.root_len ≤ length (u ++ 47 ∷ []) → BothGo chain (u ++ 47 ∷ []) n ((u ++ 47 ∷ []) ++ n)
go_on chain front u n one is less =
    let d : List ℕ = u ++ 47 ∷ [] in
    let place : place_in chain (d ++ n) ≡ place_in chain d ++ n =
    ap (λ (l : List ℕ). chain.front ++ l) (drop_front chain.root_len d n less) ∙ sym (append_assoc chain.front (drop chain.root_len d) n) in
    let end = ended_place chain front u (drop chain.root_len d) is (ended_drop chain.root_len u) in
    let goes : Goes (place_in chain d) n (place_in chain d ++ n) = subst (λ (p : List ℕ). Goes p n (p ++ n)) (sym end.1) (goes_on end.0 n one) in
    (subst (λ (q : List ℕ). Goes (place_in chain d) n q) (sym place) goes, goes_on u n one, rw (length-append d n) (omega arith))

both_by : (chain : Chain) (d n : List ℕ) → names_of n ≡ n ∷ [] → Rooted chain d → Ends d → BothGo chain d n (with_slash d ++ n)
both_by chain d n one rooted (inl put) =
    subst (λ (q : List ℕ). BothGo chain d n q) (sym (append_assoc d (47 ∷ []) n) ∙ ap (λ (l : List ℕ). l ++ n) (sym put)) (put_behind chain d n one rooted.2)
both_by chain d n one rooted (inr (u, is, has)) =
    let short : chain.root_len ≤ length (u ++ 47 ∷ []) = subst (λ (l : List ℕ). chain.root_len ≤ length l) is rooted.2 in
    subst (λ (q : List ℕ). BothGo chain d n q) (ap (λ (l : List ℕ). l ++ n) (sym has))
    (subst (λ (l : List ℕ). BothGo chain l n (l ++ n)) (sym is) (go_on chain rooted.0 u n one rooted.1 short))

pub both_go : (chain : Chain) (d n : List ℕ) → d ≢ [] → IsName n → Rooted chain d → BothGo chain d n (join d n)
both_go chain d n some is rooted = subst (λ (q : List ℕ). BothGo chain d n q) (sym (joined d n is)) (both_by chain d n (one_name n is) rooted (ends d some))

-- ---- one directory

module _ (settings : Settings) (texts : Texts) where
  -- what is in force of a walk that comes to a directory, and of one that begins there
  abbrev pub AlikeAt : List ℕ → Chain → Type 0
  AlikeAt d chain = Rooted chain d × Alike (place_in chain d) d chain (begun settings texts d)

  entered_place : (holds : Bool) (chain : Chain) (d : List ℕ) → place_in (entered holds chain) d ≡ place_in chain d
  entered_place true chain d = refl
  entered_place false chain d = refl

  -- a folder's rules are read where those of a directory are
  read_above : settings.above_the_root ≡ true → (path : List ℕ) (git : Option FileType) (in_repository : Bool) (kind : RulesKind)
      → is_read_above settings (record { path = path; git = git; is_outer = false }) in_repository kind ≡ is_read settings in_repository git kind
  read_above counted path git in_repository kind =
      let read : Bool = is_read settings in_repository git kind in
      ap (λ (b : Bool). b && (kind_goes_on kind || true) && read) counted ∙ ap (λ (b : Bool). true && b && read) (or_true (kind_goes_on kind))

  pub own_alike : settings.above_the_root ≡ true → (d : List ℕ) (chain : Chain) (list : List (Item Worth Worth)) → Agrees texts d list → Alike (place_in chain d) d chain (begun settings texts d)
      → Alike (place_in chain d) d (own_rules settings texts d chain list).chain (put_folder settings texts (begun settings texts d) (folder_at texts false d))
  own_alike counted d chain list agrees alike =
      let p : List ℕ = place_in chain d in
      let git : Option FileType = git_in texts d list in
      let first : Chain = begun settings texts d in
      let inside : Chain = entered (is_repository git) chain in
      let other : Chain = entered (is_repository git) first in
      let reads : RulesKind → Bool = is_read settings inside.in_repository git in
      let before : ℕ = length (place_in inside d) in
      let folder : Folder = record { path = d; git = git; is_outer = false } in
      let own : Chain = (own_rules settings texts d chain list).chain in
      let found = λ (kind : RulesKind). rules_found texts kind true (join d (file_of kind)) in
      let both : Alike p d inside other = entered_alike p d (is_repository git) chain first alike in
      let same : put_folder settings texts first folder ≡ put_folder settings texts first (folder_at texts false d) =
      ap (λ (g : Option FileType). let f : Folder = record { path = d; git = g; is_outer = false } in put_folder settings texts first f) agrees.git in
      let own_links : (kind : RulesKind) → links_in kind own ≡ links_in kind inside ++ cond (reads kind) (found_links (length p) (found kind)) [] =
      λ kind. list_links texts reads d before kind inside list agrees (second_of settings.version_control (is_repository git))
      ∙ ap (λ (q : List ℕ). links_in kind inside ++ cond (reads kind) (found_links (length q) (found kind)) []) (entered_place (is_repository git) chain d) in
      let other_links : (kind : RulesKind) → links_in kind (put_folder settings texts first folder) ≡ links_in kind other ++ cond (reads kind) (found_links (length d) (found kind)) [] =
      λ kind. folder_links settings texts kind folder other
      ∙ ap (λ (r : Bool). links_in kind other ++ cond (is_read_above settings folder r kind) (found_links (length d) (found kind)) []) (sym both.repository)
      ∙ ap (λ (b : Bool). links_in kind other ++ cond b (found_links (length d) (found kind)) []) (read_above counted d git inside.in_repository kind) in
      let left : Alike p d own (put_folder settings texts first folder) = record {
        repository = list_repository texts reads d before inside list ∙ both.repository ∙ sym (inside_stays settings texts folder other).0;
        links = λ kind. subst (λ (ls : List Link). LinksAlike p d ls (links_in kind (put_folder settings texts first folder))) (sym (own_links kind))
            (subst (λ (ms : List Link). LinksAlike p d (links_in kind inside ++ cond (reads kind) (found_links (length p) (found kind)) []) ms) (sym (other_links kind))
            (more_alike p d (reads kind) (found kind) (links_in kind inside) (links_in kind other) (both.links kind)));
      } in
      subst (λ (c : Chain). Alike p d own c) same left

  links_unplaced : (kind : RulesKind) (chain : Chain) → links_in kind (unplaced chain) ≡ links_in kind chain
  links_unplaced rules.Fdignore chain = refl
  links_unplaced rules.Ignore chain = refl
  links_unplaced rules.Gitignore chain = refl
  links_unplaced rules.Exclude chain = refl

  -- what a walk begins with, by the folder above
  from_above : (path above : List ℕ) → parent path ≡ Some above → unplaced (begun settings texts path) ≡ unplaced (put_folder settings texts (begun settings texts above) (folder_at texts false above))
  from_above path above is =
      rules_come_from_above settings texts path above is
      ∙ ap unplaced (folder_put settings texts {R = Unit {0}} {E = Unit {0}} (record { chain = begun settings texts above; list = [] }) (folder_at texts false above))

  pub own_front : (d : List ℕ) (chain : Chain) (list : List (Item Worth Worth))
      → (let own : Chain = (own_rules settings texts d chain list).chain in (own.front ≡ chain.front) × (own.root_len ≡ chain.root_len))
  own_front d chain list =
      let git : Option FileType = git_in texts d list in
      let inside : Chain = entered (is_repository git) chain in
      let left = list_front texts (is_read settings inside.in_repository git) d (length (place_in inside d)) inside list in
      let here = entered_front settings texts (is_repository git) chain in
      (left.0 ∙ here.0, left.1 ∙ here.1)

  -- one directory farther
  pub step_alike : settings.above_the_root ≡ true → (d n : List ℕ) (chain : Chain) (list : List (Item Worth Worth)) → d ≢ [] → IsName n → parent (join d n) ≡ Some d → Agrees texts d list → AlikeAt d chain
      → AlikeAt (join d n) (own_rules settings texts d chain list).chain
  step_alike counted d n chain list some is above agrees (rooted, alike) =
      let next : List ℕ = join d n in
      let own : Chain = (own_rules settings texts d chain list).chain in
      let inside : Chain = put_folder settings texts (begun settings texts d) (folder_at texts false d) in
      let front = own_front d chain list in
      let go = both_go chain d n some is rooted in
      let mine : Alike (place_in chain d) d own inside = own_alike counted d chain list agrees alike in
      let place : place_in own next ≡ place_in chain next = ap (λ (f : List ℕ). f ++ drop own.root_len next) front.0 ∙ ap (λ (l : ℕ). chain.front ++ drop l next) front.1 in
      let above_is = from_above next d above in
      let begun_links : (kind : RulesKind) → links_in kind (begun settings texts next) ≡ links_in kind inside =
      λ kind. sym (links_unplaced kind (begun settings texts next)) ∙ ap (links_in kind) above_is ∙ links_unplaced kind inside in (
        (rooted.0, front.0 ∙ rooted.1, rw front.1 (omega (arith, rooted.2, go.2))),
        record {
          repository = mine.repository ∙ sym (ap (λ (c : Chain). c.in_repository) above_is);
          links = λ kind. subst (λ (q : List ℕ). LinksAlike q next (links_in kind own) (links_in kind (begun settings texts next))) (sym place)
              (subst (λ (ms : List Link). LinksAlike (place_in chain next) next (links_in kind own) ms) (sym (begun_links kind))
              (links_go (place_in chain d) d n (place_in chain next) next go.0 go.1 (links_in kind own) (links_in kind inside) (mine.links kind)));
        },
      )

  pub not_nil : (d next : List ℕ) → d ≢ [] → length d ≤ length next → next ≢ []
  not_nil [] next some less = absurd (some refl)
  not_nil (c ∷ cs) next some less = λ is. let none : length next ≡ 0 = ap length is in absurd (omega arith)

  way_alike : settings.above_the_root ≡ true → (lists : Lists) (d : List ℕ) (chain : Chain) (names : List (List ℕ)) → d ≢ [] → IsWay settings texts lists d names → AlikeAt d chain
      → AlikeAt (below d names) (come_to settings texts lists chain d names)
  way_alike counted lists d chain [] some way alike = alike
  way_alike counted lists d chain (n ∷ names) some (is, above, agrees, way) alike =
      let go = both_go chain d n some is alike.0 in
      way_alike counted lists (join d n) (own_rules settings texts d chain (lists d)).chain names (not_nil d (join d n) some go.2) way (step_alike counted d n chain (lists d) some is above agrees alike)

  -- ---- where it begins

  begun_place : (d : List ℕ) → place_in (begun settings texts d) d ≡ d ++ 47 ∷ []
  begun_place d =
      let front = begun_front settings texts d in
      ap (λ (f : List ℕ). f ++ drop (begun settings texts d).root_len d) front.0
      ∙ ap (λ (l : ℕ). (d ++ 47 ∷ []) ++ drop l d) front.1 ∙ ap (λ (l : List ℕ). (d ++ 47 ∷ []) ++ l) (drop_whole d) ∙ append-nil (d ++ 47 ∷ [])

  pub begun_alike : (d : List ℕ) → AlikeAt d (begun settings texts d)
  begun_alike d =
      let first : Chain = begun settings texts d in
      let front = begun_front settings texts d in (
        (d, front.0, rw front.1 (omega arith)),
        record {
          repository = refl;
          links = λ kind. subst (λ (q : List ℕ). LinksAlike q d (links_in kind first) (links_in kind first)) (sym (begun_place d))
              (links_keep d d (d ++ 47 ∷ []) d (keeps_slash d) (keeps_all d) (links_in kind first) (links_in kind first) (within_alike d (links_in kind first) (begun_within settings texts kind d)));
        },
      )

  alike_same : (d : List ℕ) (chain : Chain) → AlikeAt d chain → AreTheSame d chain (begun settings texts d)
  alike_same d chain (rooted, alike) =
      let p : List ℕ = place_in chain d in
      let first : Chain = begun settings texts d in
      let placed : Alike p (place_in first d) chain first = record {
        repository = alike.repository;
        links = λ kind. subst (λ (q : List ℕ). LinksAlike p q (links_in kind chain) (links_in kind first)) (sym (begun_place d))
            (links_keep p d p (d ++ 47 ∷ []) (keeps_all p) (keeps_slash d) (links_in kind chain) (links_in kind first) (alike.links kind));
      } in
      record {
        repository = alike.repository;
        patterns = λ kind. patterns_same p d (links_in kind chain) (links_in kind first) (alike.links kind);
        says = λ rest is_dir. says_alike p (place_in first d) rest is_dir chain first placed;
      }

pub rules_are_the_same : RulesAreTheSame
rules_are_the_same settings texts lists root names counted some way =
    alike_same settings texts (below root names) (come_to settings texts lists (begun settings texts root) root names)
    (way_alike settings texts counted lists root (begun settings texts root) names some way (begun_alike settings texts root))

pub walks_begin_so : WalksBeginSo
walks_begin_so settings texts chain root path root_is absolute_is =
    let made : Made Worth Worth = record { chain = chain; list = root ∷ [] } in
    let folders : List Folder = reverse (folders_above texts false (length path) path) in
    ap (λ (r : Option (List ℕ)). (with_root settings texts r made).chain) root_is
    ∙ ap (λ (found : Result (List ℕ) ErrorKind). (with_absolute settings texts path made found).chain) absolute_is
    ∙ folders_put settings texts {R = Worth} {E = Worth} (record { chain = below_root path path; list = root ∷ [] }) folders
    ∙ sym (folders_put settings texts {R = Unit {0}} {E = Unit {0}} (record { chain = below_root path path; list = [] }) folders)
