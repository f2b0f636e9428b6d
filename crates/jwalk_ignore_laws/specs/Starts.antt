-- Rules that are the same wherever a walk starts.
use Rattle.std.specs.Prelude.{◌≡◌, ◌≢◌, ◌≤◌, ℕ, Bool, true, false, List, [], ◌∷◌, ◌++◌, filter, length, map, Option, Some, None, Result, Ok, Err, if◌then◌else◌}
use Rattle.std.specs.declared.io.ErrorKind.{ErrorKind}
use Rattle.jwalk_model.specs.Counted.{Worth}
use Rattle.jwalk_model.specs.Entry.{Item}
use Rattle.jwalk_model.specs.FileType.{is_file}
use Rattle.jwalk_model.specs.declared.file_type.FileType.{FileType}
use Rattle.jwalk_model.specs.PathTexts.{IsName}
use Rattle.jwalk_model.specs.Paths.{join, parent}
use Rattle.jwalk_ignore.specs.Pattern.{Pattern}
use Rattle.jwalk_ignore.specs.Rules.Chain.{Chain, Link, below_root, chain_says, place_in}
use Rattle.jwalk_ignore.specs.Rules.Texts.{Texts}
use Rattle.jwalk_ignore.specs.Callback.IgnoreFiles.{at_root, file_of, git_in, is_git, in_directory, own_kind, root_of, with_folder, with_folders}
use Rattle.jwalk_ignore.specs.Rules.Folder.{ends_git, folder_at, folders_above}
use Rattle.jwalk_ignore.specs.Rules.Git.{git_at}
use Rattle.jwalk_ignore.specs.Callback.Settings.{Settings}
use Rattle.jwalk_ignore.specs.jwalk_ignore_rules.declared.rules.rules_kind.RulesKind.{RulesKind}
use Rattle.jwalk_ignore.specs.jwalk_ignore_rules.declared.rules.rules_kind.RulesKind.TheVariants as rules

-- ---- from above

-- The folders above a path are its parent, and those above that, where no `.git` counts if it ends at the parent.
abbrev pub FoldersAreAbove : Type 0
FoldersAreAbove = (texts : Texts) (path above : List ℕ) → parent path ≡ Some above
    → folders_above texts false (length path) path ≡ folder_at texts false above ∷ folders_above texts (ends_git (folder_at texts false above)) (length above) above

-- rules in force, wherever the root is
abbrev pub unplaced : Chain → Chain
unplaced chain = record chain { front = []; root_len = 0 }

module _ (settings : Settings) (texts : Texts) where
  -- the rules with which a walk begins at an absolute path
  abbrev pub begun : List ℕ → Chain
  begun path = (with_folders {R = Unit {0}} {E = Unit {0}} settings texts path (record { chain = below_root path path; list = [] })).chain

  -- rules in force, and a folder's own
  abbrev pub in_folder : Chain → List ℕ → Chain
  in_folder chain folder = (with_folder {R = Unit {0}} {E = Unit {0}} settings texts (record { chain = chain; list = [] }) (folder_at texts false folder)).chain

-- A walk begins so where its root's path is its own absolute one.
abbrev pub WalksBeginSo : Type 0
WalksBeginSo = (settings : Settings) (texts : Texts) (chain : Chain) (root : Item Worth Worth) (path : List ℕ) → root_of root ≡ Some path → texts.absolute_of path ≡ Ok path
    → (at_root settings texts chain (root ∷ [])).chain ≡ begun settings texts path

-- A walk begins with the rules that one from the parent begins with, and the parent's own.
abbrev pub RulesComeFromAbove : Type 0
RulesComeFromAbove = (settings : Settings) (texts : Texts) (path above : List ℕ) → parent path ≡ Some above
    → unplaced (begun settings texts path) ≡ unplaced (in_folder settings texts (begun settings texts above) above)

-- ---- lists that agree with the texts

-- whether two kinds are the same
abbrev pub same_kind : RulesKind → RulesKind → Bool
same_kind rules.Fdignore rules.Fdignore = true
same_kind rules.Ignore rules.Ignore = true
same_kind rules.Gitignore rules.Gitignore = true
same_kind rules.Exclude rules.Exclude = true
same_kind _ _ = false

-- whether there is a kind, and it is this one
abbrev pub is_of : RulesKind → Option RulesKind → Bool
is_of kind None = false
is_of kind (Some other) = same_kind kind other

-- whether a type can be told, and is that of a regular file
abbrev pub is_regular : Result FileType ErrorKind → Bool
is_regular (Ok type) = is_file type
is_regular (Err k) = false

-- how many items of a list are files of rules of this kind: regular files of its name, and no links to one
abbrev pub number_in : {R E : Type 0} → RulesKind → List (Item R E) → ℕ
number_in kind list = length (filter (λ x. is_of kind (own_kind x)) list)

-- how many are to be in the list of a directory: one where the texts have a regular file there
abbrev pub number_at : Texts → RulesKind → List ℕ → ℕ
number_at texts kind directory = if is_regular (texts.type_of (join directory (file_of kind))) then 1 else 0

-- The list of a directory agrees with the texts: it has a file of rules just where they have one, and once, and its `.git`, of which it has one at most, leads where theirs does.
pub record Agrees {R E : Type 0} (texts : Texts) (directory : List ℕ) (list : List (Item R E)) : Type 0 where
  pub fdignore : number_in rules.Fdignore list ≡ number_at texts rules.Fdignore directory
  pub ignore : number_in rules.Ignore list ≡ number_at texts rules.Ignore directory
  pub gitignore : number_in rules.Gitignore list ≡ number_at texts rules.Gitignore directory
  pub git : git_in texts directory list ≡ git_at texts directory
  pub once : length (filter is_git list) ≤ 1

-- ---- from any start

-- the lists of directories, by their paths
abbrev pub Lists : Type 0
Lists = List ℕ → List (Item Worth Worth)

-- the directory below another by these names
abbrev pub below : List ℕ → List (List ℕ) → List ℕ
below directory [] = directory
below directory (name ∷ names) = below (join directory name) names

module _ (settings : Settings) (texts : Texts) (lists : Lists) where
  -- the rules with which a walk comes to that directory, if it comes to the other with these
  abbrev pub come_to : Chain → List ℕ → List (List ℕ) → Chain
  come_to chain directory [] = chain
  come_to chain directory (name ∷ names) = come_to (in_directory settings texts directory chain (lists directory)).chain (join directory name) names

  -- Each directory on the way is the parent of the next, and its list agrees with the texts.
  abbrev pub IsWay : List ℕ → List (List ℕ) → Type 0
  IsWay directory [] = Unit {0}
  IsWay directory (name ∷ names) =
      IsName name × (parent (join directory name) ≡ Some directory) × Agrees texts directory (lists directory) × IsWay (join directory name) names

-- the links of a kind
abbrev pub links_in : RulesKind → Chain → List Link
links_in rules.Fdignore chain = chain.fdignore
links_in rules.Ignore chain = chain.ignore
links_in rules.Gitignore chain = chain.gitignore
links_in rules.Exclude chain = chain.exclude

-- the patterns of each file of rules of a kind, the farthest first
abbrev pub patterns_in : RulesKind → Chain → List (List Pattern)
patterns_in kind chain = map (λ l. l.patterns) (links_in kind chain)

-- Two chains of rules in force in a directory have the same patterns of each kind, in the same order, and say the same of every path below.
pub record AreTheSame (directory : List ℕ) (a b : Chain) : Type 0 where
  pub repository : a.in_repository ≡ b.in_repository
  pub patterns : (kind : RulesKind) → patterns_in kind a ≡ patterns_in kind b
  pub says : (rest : List ℕ) (is_dir : Bool) → chain_says a (place_in a directory ++ 47 ∷ rest) is_dir ≡ chain_says b (place_in b directory ++ 47 ∷ rest) is_dir

-- Where rules above the root count, those with which a walk comes to a directory are those with which a walk begins that starts there, whatever lies between.
abbrev pub RulesAreTheSame : Type 0
RulesAreTheSame = (settings : Settings) (texts : Texts) (lists : Lists) (root : List ℕ) (names : List (List ℕ))
    → settings.above_the_root ≡ true → root ≢ [] → IsWay settings texts lists root names
    → AreTheSame (below root names) (come_to settings texts lists (begun settings texts root) root names) (begun settings texts (below root names))
