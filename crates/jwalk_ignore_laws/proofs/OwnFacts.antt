-- The links that a directory's own rules add.
use Prim.Native.Nat.{zero}
use Rattle.std.proofs.Common.{◌≡◌, ◌∙◌, ◌≤◌, ℕ, suc, Bool, true, false, cond, List, [], ◌∷◌, ◌++◌, length, Option, Some, None, Result, Ok, Err, ap, refl, sym, arith, append_assoc, append-nil}
use Rattle.std.specs.Prelude.{◌&&◌, bytes_eq, codes, find, flat_map, fold, not, option_and_then}
use Rattle.std.specs.List.{filter}
use Rattle.std.specs.declared.io.ErrorKind.{ErrorKind}
use Rattle.std.proofs.lemmas.Slice.Eq.{bytes_eq-Decides}
use Rattle.jwalk_model.specs.Entry.{Item}
use Rattle.jwalk_model.specs.FileType.{is_file}
use Rattle.jwalk_model.specs.Paths.{join}
use Rattle.jwalk_model.specs.declared.file_type.FileType.{FileType}
use Rattle.jwalk_ignore.specs.Callback.IgnoreFiles.{Made, Source, depth_of, file_of, git_by, git_in, if_read, is_git, is_missing, kind_of, kind_of_file, own_kind, rules_found, rules_read, rules_typed, source_in, with_item, with_listed, with_own}
use Rattle.jwalk_ignore.specs.Rules.Git.{git, is_repository}
use Rattle.jwalk_ignore_laws.specs.Starts.{Agrees, is_of, is_regular, links_in, same_kind}
use Rattle.jwalk_ignore.specs.Pattern.{Pattern}
use Rattle.jwalk_ignore.specs.Rules.Chain.{Chain, Link, may_miss, with_link}
use Rattle.jwalk_ignore.specs.Rules.Texts.{Texts}
use Rattle.jwalk_ignore.specs.jwalk_ignore_rules.declared.rules.rules_kind.RulesKind.{RulesKind}
use Rattle.jwalk_ignore.specs.jwalk_ignore_rules.declared.rules.rules_kind.RulesKind.TheVariants as rules
use Rattle.jwalk_ignore_laws.proofs.StartFacts.{found_put, put, put_at}

-- the link that a file has, if it is found
abbrev pub found_links : ℕ → Result (Option (List Pattern)) ErrorKind → List Link
found_links before (Ok (Some patterns)) = record { before = before; patterns = patterns } ∷ []
found_links before (Ok None) = []
found_links before (Err k) = []

link_links : (kind other : RulesKind) (link : Link) (chain : Chain) → links_in kind (with_link other link chain) ≡ links_in kind chain ++ cond (same_kind kind other) (link ∷ []) []
link_links rules.Fdignore rules.Fdignore link chain = refl
link_links rules.Fdignore rules.Ignore link chain = sym (append-nil chain.fdignore)
link_links rules.Fdignore rules.Gitignore link chain = sym (append-nil chain.fdignore)
link_links rules.Fdignore rules.Exclude link chain = sym (append-nil chain.fdignore)
link_links rules.Ignore rules.Fdignore link chain = sym (append-nil chain.ignore)
link_links rules.Ignore rules.Ignore link chain = refl
link_links rules.Ignore rules.Gitignore link chain = sym (append-nil chain.ignore)
link_links rules.Ignore rules.Exclude link chain = sym (append-nil chain.ignore)
link_links rules.Gitignore rules.Fdignore link chain = sym (append-nil chain.gitignore)
link_links rules.Gitignore rules.Ignore link chain = sym (append-nil chain.gitignore)
link_links rules.Gitignore rules.Gitignore link chain = refl
link_links rules.Gitignore rules.Exclude link chain = sym (append-nil chain.gitignore)
link_links rules.Exclude rules.Fdignore link chain = sym (append-nil chain.exclude)
link_links rules.Exclude rules.Ignore link chain = sym (append-nil chain.exclude)
link_links rules.Exclude rules.Gitignore link chain = sym (append-nil chain.exclude)
link_links rules.Exclude rules.Exclude link chain = refl

no_links : {X : Type 0} (b : Bool) (xs : List X) → xs ≡ xs ++ cond b [] []
no_links true xs = sym (append-nil xs)
no_links false xs = sym (append-nil xs)

pub put_links : (kind : RulesKind) (source : Source) (found : Result (Option (List Pattern)) ErrorKind) (chain : Chain)
    → links_in kind (put source found chain) ≡ links_in kind chain ++ cond (same_kind kind source.kind) (found_links source.before found) []
put_links kind source (Ok (Some patterns)) chain = link_links kind source.kind (record { before = source.before; patterns = patterns }) chain
put_links kind source (Ok None) chain = no_links (same_kind kind source.kind) (links_in kind chain)
put_links kind source (Err k) chain = no_links (same_kind kind source.kind) (links_in kind chain)

link_repository : (kind : RulesKind) (link : Link) (chain : Chain) → (with_link kind link chain).in_repository ≡ chain.in_repository
link_repository rules.Fdignore link chain = refl
link_repository rules.Ignore link chain = refl
link_repository rules.Gitignore link chain = refl
link_repository rules.Exclude link chain = refl

pub put_repository : (source : Source) (found : Result (Option (List Pattern)) ErrorKind) (chain : Chain) → (put source found chain).in_repository ≡ chain.in_repository
put_repository source (Ok (Some patterns)) chain = link_repository source.kind (record { before = source.before; patterns = patterns }) chain
put_repository source (Ok None) chain = refl
put_repository source (Err k) chain = refl

link_front : (kind : RulesKind) (link : Link) (chain : Chain) → ((with_link kind link chain).front ≡ chain.front) × ((with_link kind link chain).root_len ≡ chain.root_len)
link_front rules.Fdignore link chain = (refl, refl)
link_front rules.Ignore link chain = (refl, refl)
link_front rules.Gitignore link chain = (refl, refl)
link_front rules.Exclude link chain = (refl, refl)

pub put_front : (source : Source) (found : Result (Option (List Pattern)) ErrorKind) (chain : Chain) → ((put source found chain).front ≡ chain.front) × ((put source found chain).root_len ≡ chain.root_len)
put_front source (Ok (Some patterns)) chain = link_front source.kind (record { before = source.before; patterns = patterns }) chain
put_front source (Ok None) chain = (refl, refl)
put_front source (Err k) chain = (refl, refl)

-- a list as often as this
abbrev times : {L : Type 0} → ℕ → List L → List L
times zero ls = []
times (suc n) ls = ls ++ times n ls

once_or_not : {L : Type 0} (b : Bool) (ls : List L) → times (cond b 1 0) ls ≡ cond b ls []
once_or_not true ls = append-nil ls
once_or_not false ls = refl

module _ {X L : Type 0} where
  by_one : (test : X → Bool) (ls : List L) (x : X) (xs : List X) (b : Bool) → flat_map (λ y. cond (test y) ls []) xs ≡ times (length (filter test xs)) ls
      → cond b ls [] ++ flat_map (λ y. cond (test y) ls []) xs ≡ times (length (cond b (x ∷ filter test xs) (filter test xs))) ls
  by_one test ls x xs true rest = ap (λ (l : List L). ls ++ l) rest
  by_one test ls x xs false rest = rest

  by_number : (test : X → Bool) (ls : List L) (xs : List X) → flat_map (λ y. cond (test y) ls []) xs ≡ times (length (filter test xs)) ls
  by_number test ls [] = refl
  by_number test ls (x ∷ xs) = by_one test ls x xs (test x) (by_number test ls xs)

  same_tests : (test other : X → Bool) (ls : List L) → ((x : X) → test x ≡ other x) → (xs : List X) → flat_map (λ y. cond (test y) ls []) xs ≡ flat_map (λ y. cond (other y) ls []) xs
  same_tests test other ls same [] = refl
  same_tests test other ls same (x ∷ xs) =
      ap (λ (b : Bool). cond b ls [] ++ flat_map (λ y. cond (test y) ls []) xs) (same x) ∙ ap (λ (l : List L). cond (other x) ls [] ++ l) (same_tests test other ls same xs)

  no_test : (test : X → Bool) (ls : List L) (xs : List X) → flat_map (λ y. cond (false && test y) ls []) xs ≡ []
  no_test test ls [] = refl
  no_test test ls (x ∷ xs) = no_test test ls xs

-- ---- which items have rules of which kind

-- whether an item has rules of a kind itself, or those beside `.git`
abbrev pub has : {R E : Type 0} → RulesKind → Item R E → Bool
has rules.Exclude x = is_git x
has kind x = is_of kind (own_kind x)

abbrev has_by : RulesKind → Bool → Option RulesKind → Bool
has_by rules.Exclude is_git own = is_git
has_by kind is_git own = is_of kind own

named_by : (kind : RulesKind) (g : Bool) (own : Option RulesKind) → (g ≡ true → is_of kind own ≡ false) → is_of rules.Exclude own ≡ false
    → is_of kind (cond g (Some rules.Exclude) own) ≡ has_by kind g own
named_by rules.Fdignore true own none other = sym (none refl)
named_by rules.Fdignore false own none other = refl
named_by rules.Ignore true own none other = sym (none refl)
named_by rules.Ignore false own none other = refl
named_by rules.Gitignore true own none other = sym (none refl)
named_by rules.Gitignore false own none other = refl
named_by rules.Exclude true own none other = refl
named_by rules.Exclude false own none other = other

-- `.git` is no name of a file of rules
git_file : (kind : RulesKind) (regular : Bool) (name : List ℕ) → bytes_eq name git ≡ true → is_of kind (cond regular (kind_of_file name) None) ≡ false
git_file kind true name is = ap (λ (n : List ℕ). is_of kind (kind_of_file n)) ((bytes_eq-Decides name git).0 is)
git_file kind false name is = refl

-- no name of a file is that of the rules beside `.git`
file_by : (a b c : Bool) → is_of rules.Exclude (cond a (Some rules.Fdignore) (cond b (Some rules.Ignore) (cond c (Some rules.Gitignore) None))) ≡ false
file_by true b c = refl
file_by false true c = refl
file_by false false true = refl
file_by false false false = refl

no_file : (regular : Bool) (name : List ℕ) → is_of rules.Exclude (cond regular (kind_of_file name) None) ≡ false
no_file true name = file_by (bytes_eq name (codes ".fdignore")) (bytes_eq name (codes ".ignore")) (bytes_eq name (codes ".gitignore"))
no_file false name = refl

by_kind : {R E : Type 0} (kind : RulesKind) (x : Item R E) → has_by kind (is_git x) (own_kind x) ≡ has kind x
by_kind rules.Fdignore x = refl
by_kind rules.Ignore x = refl
by_kind rules.Gitignore x = refl
by_kind rules.Exclude x = refl

-- an item leads to rules of a kind where it has them
leads : {R E : Type 0} (kind : RulesKind) (x : Item R E) → is_of kind (kind_of x) ≡ has kind x
leads kind (Ok e) =
    let regular : Bool = is_file e.file_type && not e.through_link in
    named_by kind (bytes_eq e.file_name git) (cond regular (kind_of_file e.file_name) None) (git_file kind regular e.file_name) (no_file regular e.file_name) ∙ by_kind kind (Ok e)
leads {R} {E} kind (Err f) = named_by kind (is_git {R = R} {E = E} (Err f)) None (λ is. refl) refl ∙ by_kind {R = R} {E = E} kind (Err f)

-- what two kinds lead to is the same if they are
swap : {X : Type 0} (kind other : RulesKind) (of : RulesKind → X) (x : X) → cond (same_kind kind other) (of other) x ≡ cond (same_kind kind other) (of kind) x
swap rules.Fdignore rules.Fdignore of x = refl
swap rules.Fdignore rules.Ignore of x = refl
swap rules.Fdignore rules.Gitignore of x = refl
swap rules.Fdignore rules.Exclude of x = refl
swap rules.Ignore rules.Fdignore of x = refl
swap rules.Ignore rules.Ignore of x = refl
swap rules.Ignore rules.Gitignore of x = refl
swap rules.Ignore rules.Exclude of x = refl
swap rules.Gitignore rules.Fdignore of x = refl
swap rules.Gitignore rules.Ignore of x = refl
swap rules.Gitignore rules.Gitignore of x = refl
swap rules.Gitignore rules.Exclude of x = refl
swap rules.Exclude rules.Fdignore of x = refl
swap rules.Exclude rules.Ignore of x = refl
swap rules.Exclude rules.Gitignore of x = refl
swap rules.Exclude rules.Exclude of x = refl

kept_true : (b : Bool) → b ≡ cond b true false
kept_true true = refl
kept_true false = refl

both_ways : (a b : Bool) → cond a b false ≡ (b && a)
both_ways true true = refl
both_ways true false = refl
both_ways false true = refl
both_ways false false = refl

no_kind : (b : Bool) → false ≡ (b && false)
no_kind true = refl
no_kind false = refl

never : (b : Bool) → false ≡ cond b false false
never true = refl
never false = refl

if_by : (kind other : RulesKind) (read : Bool) → is_of kind (cond read (Some other) None) ≡ cond (same_kind kind other) read false
if_by kind other true = kept_true (same_kind kind other)
if_by kind other false = never (same_kind kind other)

-- a kind that is read
read_of : (kind : RulesKind) (reads : RulesKind → Bool) (found : Option RulesKind) → is_of kind (if_read reads found) ≡ (reads kind && is_of kind found)
read_of kind reads None = no_kind (reads kind)
read_of kind reads (Some other) = if_by kind other (reads other) ∙ swap kind other reads false ∙ both_ways (same_kind kind other) (reads kind)

-- an item leads to rules of a kind that are read where it has them and they count
has_read : {R E : Type 0} (kind : RulesKind) (reads : RulesKind → Bool) (x : Item R E) → is_of kind (if_read reads (kind_of x)) ≡ (reads kind && has kind x)
has_read kind reads x = read_of kind reads (kind_of x) ∙ ap (λ (b : Bool). reads kind && b) (leads kind x)

-- ---- the links of a list

abbrev first_of : {X : Type 0} → List X → Option X
first_of [] = None
first_of (x ∷ xs) = Some x

find_or : {X : Type 0} (test : X → Bool) (x : X) (xs : List X) (b : Bool) → find test xs ≡ first_of (filter test xs) → cond b (Some x) (find test xs) ≡ first_of (cond b (x ∷ filter test xs) (filter test xs))
find_or test x xs true rest = refl
find_or test x xs false rest = rest

find_first : {X : Type 0} (test : X → Bool) (xs : List X) → find test xs ≡ first_of (filter test xs)
find_first test [] = refl
find_first test (x ∷ xs) = find_or test x xs (test x) (find_first test xs)

module _ (texts : Texts) (directory : List ℕ) {R E : Type 0} where
  abbrev git_of : Option (Item R E) → Option FileType
  git_of found = option_and_then (git_by texts directory) found

  one_by : (items : List (Item R E)) → is_repository (git_of (first_of items)) ≡ true → length items ≤ 1 → length items ≡ 1
  one_by [] is few = absurd (cc)
  one_by (x ∷ items) is few = omega (arith, few)

  -- where `.git` is found there is one
  one_git : (list : List (Item R E)) → is_repository (git_in texts directory list) ≡ true → length (filter is_git list) ≤ 1 → length (filter is_git list) ≡ 1
  one_git list is few = one_by (filter is_git list) (sym (ap (λ (o : Option (Item R E)). is_repository (git_of o)) (find_first is_git list)) ∙ is) few

cond_read : (b : Bool) (before : ℕ) (found : Result (Option (List Pattern)) ErrorKind) → cond b (found_links before found) [] ≡ found_links before (cond b found (Ok None))
cond_read true before found = refl
cond_read false before found = refl

missing_links : (before : ℕ) (k : ErrorKind) (b : Bool) → [] ≡ found_links before (cond b (Ok None) (Err k))
missing_links before k true = refl
missing_links before k false = refl

-- a file that is listed, and one that is looked for
typed_links : (before : ℕ) (type : Result FileType ErrorKind) (bytes : Result (List ℕ) ErrorKind) → cond (is_regular type) (found_links before (rules_read bytes)) [] ≡ found_links before (rules_typed type bytes)
typed_links before (Ok type) bytes = cond_read (is_file type) before (rules_read bytes)
typed_links before (Err k) bytes = missing_links before k (is_missing k)

by_reads : {X : Type 0} (test : X → Bool) (ls ms : List Link) (xs : List X) (b : Bool) → (b ≡ true → times (length (filter test xs)) ls ≡ ms) → flat_map (λ y. cond (b && test y) ls []) xs ≡ cond b ms []
by_reads test ls ms xs true is = by_number test ls xs ∙ is refl
by_reads test ls ms xs false is = no_test test ls xs

module _ (texts : Texts) (reads : RulesKind → Bool) (directory : List ℕ) (before : ℕ) where
  -- what a list's file of rules has, and one that is looked for
  abbrev listed_file : RulesKind → Result (Option (List Pattern)) ErrorKind
  listed_file kind = rules_found texts kind (may_miss kind) (join directory (file_of kind))

  abbrev pub looked_for : RulesKind → Result (Option (List Pattern)) ErrorKind
  looked_for kind = rules_found texts kind true (join directory (file_of kind))

  abbrev put_own : Option RulesKind → Chain → Chain
  put_own None chain = chain
  put_own (Some kind) chain = put_at kind before (listed_file kind) chain

  own_links : (kind : RulesKind) (own : Option RulesKind) (chain : Chain) → links_in kind (put_own own chain) ≡ links_in kind chain ++ cond (is_of kind own) (found_links before (listed_file kind)) []
  own_links kind None chain = sym (append-nil (links_in kind chain))
  own_links kind (Some other) chain =
      put_links kind (source_in directory before other 0) (listed_file other) chain
      ∙ ap (λ (l : List Link). links_in kind chain ++ l) (swap kind other (λ k. found_links before (listed_file k)) [])

  own_repository : (own : Option RulesKind) (chain : Chain) → (put_own own chain).in_repository ≡ chain.in_repository
  own_repository None chain = refl
  own_repository (Some kind) chain = put_repository (source_in directory before kind 0) (listed_file kind) chain

  own_front : (own : Option RulesKind) (chain : Chain) → ((put_own own chain).front ≡ chain.front) × ((put_own own chain).root_len ≡ chain.root_len)
  own_front None chain = (refl, refl)
  own_front (Some kind) chain = put_front (source_in directory before kind 0) (listed_file kind) chain

  module _ {R E : Type 0} where
    abbrev put_item : Chain → Item R E → Chain
    put_item chain x = put_own (if_read reads (kind_of x)) chain

    own_put : (kind : Option RulesKind) (depth : ℕ) (made : Made R E) → (with_own texts reads directory before kind depth made).chain ≡ put_own kind made.chain
    own_put None depth made = refl
    own_put (Some kind) depth made = found_put (source_in directory before kind depth) (listed_file kind) made

    all_put : (made : Made R E) (list : List (Item R E)) → (fold (with_listed texts reads directory before) made list).chain ≡ fold put_item made.chain list
    all_put made [] = refl
    all_put made (x ∷ list) =
        all_put (with_listed texts reads directory before made x) list
        ∙ ap (λ (c : Chain). fold put_item c list) (own_put (if_read reads (kind_of x)) (depth_of x) (with_item x made))

    all_links : (kind : RulesKind) (chain : Chain) (list : List (Item R E))
        → links_in kind (fold put_item chain list) ≡ links_in kind chain ++ flat_map (λ x. cond (is_of kind (if_read reads (kind_of x))) (found_links before (listed_file kind)) []) list
    all_links kind chain [] = sym (append-nil (links_in kind chain))
    all_links kind chain (x ∷ list) =
        let first : List Link = cond (is_of kind (if_read reads (kind_of x))) (found_links before (listed_file kind)) [] in
        let others : List Link = flat_map (λ y. cond (is_of kind (if_read reads (kind_of y))) (found_links before (listed_file kind)) []) list in
        all_links kind (put_item chain x) list ∙ ap (λ (l : List Link). l ++ others) (own_links kind (if_read reads (kind_of x)) chain)
        ∙ append_assoc (links_in kind chain) first others

    all_repository : (chain : Chain) (list : List (Item R E)) → (fold put_item chain list).in_repository ≡ chain.in_repository
    all_repository chain [] = refl
    all_repository chain (x ∷ list) = all_repository (put_item chain x) list ∙ own_repository (if_read reads (kind_of x)) chain

    all_front : (chain : Chain) (list : List (Item R E)) → ((fold put_item chain list).front ≡ chain.front) × ((fold put_item chain list).root_len ≡ chain.root_len)
    all_front chain [] = (refl, refl)
    all_front chain (x ∷ list) =
        let rest = all_front (put_item chain x) list in
        let first = own_front (if_read reads (kind_of x)) chain in
        (rest.0 ∙ first.0, rest.1 ∙ first.1)

    -- what a list leads to of a kind
    number_read : (kind : RulesKind) (list : List (Item R E)) → Agrees texts directory list → (reads rules.Exclude ≡ true → is_repository (git_in texts directory list) ≡ true) → reads kind ≡ true
        → times (length (filter (has kind) list)) (found_links before (listed_file kind)) ≡ found_links before (looked_for kind)
    number_read rules.Fdignore list agrees git_is is =
        let path : List ℕ = join directory (file_of rules.Fdignore) in
        ap (λ (n : ℕ). times n (found_links before (listed_file rules.Fdignore))) agrees.fdignore
        ∙ once_or_not (is_regular (texts.type_of path)) (found_links before (listed_file rules.Fdignore)) ∙ typed_links before (texts.type_of path) (texts.bytes_of path)
    number_read rules.Ignore list agrees git_is is =
        let path : List ℕ = join directory (file_of rules.Ignore) in
        ap (λ (n : ℕ). times n (found_links before (listed_file rules.Ignore))) agrees.ignore
        ∙ once_or_not (is_regular (texts.type_of path)) (found_links before (listed_file rules.Ignore)) ∙ typed_links before (texts.type_of path) (texts.bytes_of path)
    number_read rules.Gitignore list agrees git_is is =
        let path : List ℕ = join directory (file_of rules.Gitignore) in
        ap (λ (n : ℕ). times n (found_links before (listed_file rules.Gitignore))) agrees.gitignore
        ∙ once_or_not (is_regular (texts.type_of path)) (found_links before (listed_file rules.Gitignore)) ∙ typed_links before (texts.type_of path) (texts.bytes_of path)
    number_read rules.Exclude list agrees git_is is =
        ap (λ (n : ℕ). times n (found_links before (listed_file rules.Exclude))) (one_git texts directory list (git_is is) agrees.once) ∙ append-nil (found_links before (listed_file rules.Exclude))

    pub list_links : (kind : RulesKind) (chain : Chain) (list : List (Item R E)) → Agrees texts directory list → (reads rules.Exclude ≡ true → is_repository (git_in texts directory list) ≡ true)
        → links_in kind (fold (with_listed texts reads directory before) (record { chain = chain; list = [] }) list).chain ≡ links_in kind chain ++ cond (reads kind) (found_links before (looked_for kind)) []
    list_links kind chain list agrees git_is =
        ap (links_in kind) (all_put (record { chain = chain; list = [] }) list) ∙ all_links kind chain list
        ∙ ap (λ (l : List Link). links_in kind chain ++ l)
        (same_tests (λ x. is_of kind (if_read reads (kind_of x))) (λ x. reads kind && has kind x) (found_links before (listed_file kind)) (has_read kind reads) list
        ∙ by_reads (has kind) (found_links before (listed_file kind)) (found_links before (looked_for kind)) list (reads kind) (number_read kind list agrees git_is))

    pub list_repository : (chain : Chain) (list : List (Item R E)) → (fold (with_listed texts reads directory before) (record { chain = chain; list = [] }) list).chain.in_repository ≡ chain.in_repository
    list_repository chain list = ap (λ (c : Chain). c.in_repository) (all_put (record { chain = chain; list = [] }) list) ∙ all_repository chain list

    pub list_front : (chain : Chain) (list : List (Item R E))
        → (let left : Chain = (fold (with_listed texts reads directory before) (record { chain = chain; list = [] }) list).chain in (left.front ≡ chain.front) × (left.root_len ≡ chain.root_len))
    list_front chain list =
        let same = all_put (record { chain = chain; list = [] }) list in
        let all = all_front chain list in
        (ap (λ (c : Chain). c.front) same ∙ all.0, ap (λ (c : Chain). c.root_len) same ∙ all.1)
