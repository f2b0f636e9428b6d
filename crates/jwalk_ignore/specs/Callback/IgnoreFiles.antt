-- What the callback makes of lists: which rules are read, and what they leave.
use Rattle.std.specs.Prelude.{ℕ, Bool, true, false, ◌&&◌, ◌||◌, not, List, [], ◌∷◌, ◌++◌, filter, find, fold, reverse, length, take, drop, bytes_eq, codes, Option, Some, None, option_map, option_and_then, is_some, Result, Ok, Err, if◌then◌else◌}
use Rattle.std.specs.Option.{option_map_or}
use Rattle.std.specs.declared.io.ErrorKind.{ErrorKind}
use Rattle.std.specs.declared.io.ErrorKind.TheVariants as kind
use Rattle.jwalk.specs.jwalk_job.Error as error
use Rattle.jwalk.specs.jwalk_model.FileType.{is_dir, is_file, is_symlink}
use Rattle.jwalk.specs.jwalk_model.declared.file_type.FileType.{FileType}
use Rattle.jwalk.specs.jwalk_model.Paths.{file_name, join}
use Rattle.jwalk.specs.jwalk_model.Error.{Failure, io}
use Rattle.jwalk.specs.jwalk_model.Entry.{Item, is_hidden}
use Rattle.jwalk_ignore.specs.Rules.Chain.{Chain, below_root, chain_says, entered, is_ignored, may_miss, place_in, with_link}
use Rattle.jwalk_ignore.specs.Rules.Folder.{Folder, folders_above}
use Rattle.jwalk_ignore.specs.Rules.Git.{git, git_at, is_repository}
use Rattle.jwalk_ignore.specs.Rules.Line.{patterns_of}
use Rattle.jwalk_ignore.specs.Rules.Matching.{or_else, patterns_say}
use Rattle.jwalk_ignore.specs.Pattern.{Pattern}
use Rattle.jwalk_ignore.specs.Rules.Texts.{Texts}
use Rattle.jwalk_ignore_rules.specs.declared.rules.decision.Decision.{Decision}
use Rattle.jwalk_ignore_rules.specs.declared.rules.rules_kind.RulesKind.{RulesKind}
use Rattle.jwalk_ignore_rules.specs.declared.rules.rules_kind.RulesKind.TheVariants as rules
use Rattle.jwalk_ignore.specs.Callback.Failed.{behind, failed_path}
use Rattle.jwalk_ignore.specs.Callback.Settings.{Settings}

-- the file that has rules of a kind, below their directory
abbrev pub file_of : RulesKind → List ℕ
file_of rules.Fdignore = codes ".fdignore"
file_of rules.Ignore = codes ".ignore"
file_of rules.Gitignore = codes ".gitignore"
file_of rules.Exclude = codes ".git/info/exclude"

-- whether files of a kind are read in a directory that is in a repository or not, and whose `.git` leads to this
abbrev pub is_read : Settings → Bool → Option FileType → RulesKind → Bool
is_read settings in_repository found rules.Fdignore = settings.fdignore
is_read settings in_repository found rules.Ignore = true
is_read settings in_repository found rules.Gitignore = settings.version_control && (settings.anywhere || in_repository)
is_read settings in_repository found rules.Exclude = settings.version_control && is_repository found

-- the kind of rules that a regular file of this name has
abbrev pub kind_of_file : List ℕ → Option RulesKind
kind_of_file name =
    if bytes_eq name (codes ".fdignore") then Some rules.Fdignore
    else if bytes_eq name (codes ".ignore") then Some rules.Ignore
    else if bytes_eq name (codes ".gitignore") then Some rules.Gitignore
    else None

-- the kind of rules that an item has itself: it is a regular file, and no link to one
abbrev pub own_kind : {R E : Type 0} → Item R E → Option RulesKind
own_kind (Ok e) = if is_file e.file_type && not e.through_link then kind_of_file e.file_name else None
own_kind (Err f) = None

-- whether the last part of a path is `.git`
abbrev pub is_git_path : List ℕ → Bool
is_git_path path = option_map_or (λ name. bytes_eq name git) (file_name path) false

-- whether an item is of the name `.git`: an entry, or an error at such a path
abbrev pub is_git : {R E : Type 0} → Item R E → Bool
is_git (Ok e) = bytes_eq e.file_name git
is_git (Err f) = option_map_or is_git_path (error.path_of f) false

-- the kind of rules that an item leads to
abbrev pub kind_of : {R E : Type 0} → Item R E → Option RulesKind
kind_of x = if is_git x then Some rules.Exclude else own_kind x

-- a kind, if it is read
abbrev pub if_read : (RulesKind → Bool) → Option RulesKind → Option RulesKind
if_read reads None = None
if_read reads (Some kind) = if reads kind then Some kind else None

-- the depth of an item
abbrev pub depth_of : {R E : Type 0} → Item R E → ℕ
depth_of (Ok e) = e.depth
depth_of (Err f) = error.depth_of f

-- what an item of the name `.git` leads to: the texts are asked where it is a link or an error
abbrev pub git_by : {R E : Type 0} → Texts → List ℕ → Item R E → Option FileType
git_by texts directory (Ok e) = if is_symlink e.file_type then git_at texts directory else Some e.file_type
git_by texts directory (Err f) = git_at texts directory

-- what `.git` leads to in the list of a directory
abbrev pub git_in : {R E : Type 0} → Texts → List ℕ → List (Item R E) → Option FileType
git_in texts directory list = option_and_then (git_by texts directory) (find is_git list)

-- whether nothing is at a path
abbrev pub is_missing : ErrorKind → Bool
is_missing kind.NotFound = true
is_missing kind.NotADirectory = true
is_missing _ = false

-- the type of the file of rules of a kind at a path: `info/exclude` may be a link to one
abbrev pub type_of : Texts → RulesKind → List ℕ → Result FileType ErrorKind
type_of texts rules.Fdignore path = texts.type_of path
type_of texts rules.Ignore path = texts.type_of path
type_of texts rules.Gitignore path = texts.type_of path
type_of texts rules.Exclude path = texts.target_type_of path

-- rules by their file's bytes
abbrev pub rules_read : Result (List ℕ) ErrorKind → Result (Option (List Pattern)) ErrorKind
rules_read (Ok bytes) = Ok (Some (patterns_of bytes))
rules_read (Err k) = Err k

-- rules by the type of what is there, and by its bytes; none where nothing is, or no regular file
abbrev pub rules_typed : Result FileType ErrorKind → Result (List ℕ) ErrorKind → Result (Option (List Pattern)) ErrorKind
rules_typed (Ok type) bytes = if is_file type then rules_read bytes else Ok None
rules_typed (Err k) bytes = if is_missing k then Ok None else Err k

-- the rules of a kind at a path; a file that may be missing is looked for first
abbrev pub rules_found : Texts → RulesKind → Bool → List ℕ → Result (Option (List Pattern)) ErrorKind
rules_found texts kind may_miss path =
    if may_miss then rules_typed (type_of texts kind path) (texts.bytes_of path) else rules_read (texts.bytes_of path)

-- the rules of one file that are to be read: their kind, the folder that they are in, how much of a path is before what they match, the depth of the entry that they are read for, and whether the file may be missing
pub record Source : Type 0 where
  pub kind : RulesKind
  pub folder : List ℕ
  pub before : ℕ
  pub depth : ℕ
  pub may_miss : Bool

-- where they are
abbrev pub path_of : Source → List ℕ
path_of source = join source.folder (file_of source.kind)

-- rules in force and a list, as far as they are made
pub record Made (R E : Type 0) : Type 0 where
  pub chain : Chain
  pub list : List (Item R E)

module _ {R E : Type 0} where
  -- with rules that were read, or the error behind what the list has
  abbrev pub with_found : Source → Result (Option (List Pattern)) ErrorKind → Made R E → Made R E
  with_found source (Ok (Some patterns)) made =
      record { chain = with_link source.kind (record { before = source.before; patterns = patterns }) made.chain; list = made.list }
  with_found source (Ok None) made = made
  with_found source (Err k) made =
      record { chain = made.chain; list = made.list ++ Err (io source.depth (Some (path_of source)) k) ∷ [] }

  -- with the rules of a file
  abbrev pub with_rules : Texts → Source → Made R E → Made R E
  with_rules texts source made = with_found source (rules_found texts source.kind source.may_miss (path_of source)) made

  -- with one item more
  abbrev pub with_item : Item R E → Made R E → Made R E
  with_item x made = record { chain = made.chain; list = made.list ++ x ∷ [] }

-- the rules of a kind that a directory's own list leads to, for an entry at this depth
abbrev pub source_in : List ℕ → ℕ → RulesKind → ℕ → Source
source_in directory before kind depth = record { kind = kind; folder = directory; before = before; depth = depth; may_miss = may_miss kind }

-- A directory's own list: each file of rules in it that counts is read, and an error comes behind its entry.
module _ {R E : Type 0} (texts : Texts) (reads : RulesKind → Bool) (directory : List ℕ) (before : ℕ) where
  -- with the rules of a kind, if there is one
  abbrev pub with_own : Option RulesKind → ℕ → Made R E → Made R E
  with_own None depth made = made
  with_own (Some kind) depth made = with_rules texts (source_in directory before kind depth) made

  -- with an item more, and the rules that are read for it
  abbrev pub with_listed : Made R E → Item R E → Made R E
  with_listed made x = with_own (if_read reads (kind_of x)) (depth_of x) (with_item x made)

-- the rules in force in a directory whose list this is, with those that it has itself, and the list with their errors
abbrev pub own_rules : {R E : Type 0} → Settings → Texts → List ℕ → Chain → List (Item R E) → Made R E
own_rules settings texts directory chain list =
    let found = git_in texts directory list in
    let inside = entered (is_repository found) chain in
    fold (with_listed texts (is_read settings inside.in_repository found) directory (length (place_in inside directory))) (record { chain = inside; list = [] }) list

-- whether a name is shown: it isn't `.git`, and not hidden where hidden names are dropped
abbrev pub shows_name : Settings → List ℕ → Bool
shows_name settings name = not (bytes_eq name git) && (settings.keeps_hidden || not (is_hidden name))

-- whether the rules of a kind are at this place below their directory
abbrev pub is_of_rules : List ℕ → Bool
is_of_rules place = bytes_eq place (file_of rules.Exclude) || is_some (kind_of_file place)

-- a place below a directory as a name in it: none where a file of rules is, whose error says that they aren't known
abbrev pub unless_of_rules : List ℕ → Option (List ℕ)
unless_of_rules place = if is_of_rules place then None else Some place

-- the name in a directory that an error is dropped with, if it is with one
abbrev pub failed_name : Settings → List ℕ → Failure → Option (List ℕ)
failed_name settings directory f =
    if settings.drops_errors then option_and_then (λ path. unless_of_rules (behind (length directory) path)) (failed_path f) else None

-- whether an item of a directory is shown: its name is, or it is an error that is dropped with none
abbrev pub is_shown : {R E : Type 0} → Settings → List ℕ → Item R E → Bool
is_shown settings directory (Ok e) = shows_name settings e.file_name
is_shown settings directory (Err f) = option_map_or (shows_name settings) (failed_name settings directory f) true

-- a path without a `./` in front
abbrev pub without_dot : List ℕ → List ℕ
without_dot path = if bytes_eq (take 2 path) (codes "./") then drop 2 path else path

-- what the rules that are given say of a name in a directory: they match its path
abbrev pub given_says : List Pattern → List ℕ → List ℕ → Bool → Decision
given_says given directory name is_dir = patterns_say given (without_dot (directory ++ 47 ∷ name)) is_dir

-- whether a name in a directory stays, of a directory or of another file: the rules in force at its place don't ignore it, nor do those that are given where these say nothing
abbrev pub keeps_name : Settings → List ℕ → Chain → List ℕ → List ℕ → Bool → Bool
keeps_name settings directory chain place name is_dir =
    not (is_ignored (or_else (chain_says chain (place ++ 47 ∷ name) is_dir) (given_says settings.given directory name is_dir)))

-- whether an error stays that is dropped with this name, if it is with one: the name does, of a directory or of another file
abbrev pub keeps_failed : Settings → List ℕ → Chain → List ℕ → Option (List ℕ) → Bool
keeps_failed settings directory chain place None = true
keeps_failed settings directory chain place (Some name) =
    keeps_name settings directory chain place name true || keeps_name settings directory chain place name false

-- whether an item of a directory stays
abbrev pub is_kept : {R E : Type 0} → Settings → List ℕ → Chain → List ℕ → Item R E → Bool
is_kept settings directory chain place (Ok e) = keeps_name settings directory chain place e.file_name (is_dir e.file_type)
is_kept settings directory chain place (Err f) = keeps_failed settings directory chain place (failed_name settings directory f)

-- a directory's list: its rules are read, and then what is hidden or ignored is dropped
abbrev pub in_directory : {R E : Type 0} → Settings → Texts → List ℕ → Chain → List (Item R E) → Made R E
in_directory settings texts directory chain list =
    let own = own_rules settings texts directory chain list in
    record { chain = own.chain; list = filter (is_kept settings directory own.chain (place_in own.chain directory)) (filter (is_shown settings directory) own.list) }

-- the path of an item's directory
abbrev pub root_of : {R E : Type 0} → Item R E → Option (List ℕ)
root_of (Ok e) = option_map (λ c. c.path) e.read_children
root_of (Err f) = None

-- the rules of a kind in a folder above the root
abbrev pub source_above : Folder → RulesKind → Source
source_above folder kind = record { kind = kind; folder = folder.path; before = length folder.path; depth = 0; may_miss = true }

-- whether rules of a kind go on in a repository inside another
abbrev pub goes_on : RulesKind → Bool
goes_on rules.Fdignore = true
goes_on rules.Ignore = true
goes_on rules.Gitignore = false
goes_on rules.Exclude = false

-- whether files of a kind are read in a folder above the root that is in a repository or not
abbrev pub is_read_above : Settings → Folder → Bool → RulesKind → Bool
is_read_above settings folder in_repository kind =
    settings.above_the_root && (goes_on kind || not folder.is_outer) && is_read settings in_repository folder.git kind

-- all kinds, in the order in which they are read in a folder above the root
abbrev pub all_kinds : List RulesKind
all_kinds = rules.Exclude ∷ rules.Gitignore ∷ rules.Ignore ∷ rules.Fdignore ∷ []

module _ {R E : Type 0} (settings : Settings) (texts : Texts) where
  -- the same chain, in a folder
  abbrev pub entered_above : Folder → Made R E → Made R E
  entered_above folder made = record { chain = entered (is_repository folder.git) made.chain; list = made.list }

  -- with what is read of one kind in a folder
  abbrev pub with_above : Folder → Bool → RulesKind → Made R E → Made R E
  with_above folder read kind made = if read then with_rules texts (source_above folder kind) made else made

  -- with the rules of a folder above the root, kind by kind
  abbrev pub with_folder : Made R E → Folder → Made R E
  with_folder made folder =
      let inside = entered_above folder made in
      fold (λ m kind. with_above folder (is_read_above settings folder inside.chain.in_repository kind) kind m) inside all_kinds

  -- with the rules of the folders above an absolute path, the farthest first
  abbrev pub with_folders : List ℕ → Made R E → Made R E
  with_folders absolute made = fold with_folder made (reverse (folders_above texts false (length absolute) absolute))

  -- with the rules above a root, if its absolute path is found
  abbrev pub with_absolute : List ℕ → Made R E → Result (List ℕ) ErrorKind → Made R E
  with_absolute root made (Ok absolute) = with_folders absolute (record { chain = below_root root absolute; list = made.list })
  with_absolute root made (Err k) = record { chain = below_root root root; list = made.list ++ Err (io 0 (Some root) k) ∷ [] }

  -- with the rules above the root, if it is a directory with this path
  abbrev pub with_root : Option (List ℕ) → Made R E → Made R E
  with_root None made = made
  with_root (Some root) made = with_absolute root made (texts.absolute_of root)

  -- with an item more, and the rules above it
  abbrev pub with_root_item : Made R E → Item R E → Made R E
  with_root_item made x = with_root (root_of x) (with_item x made)

  -- the rules above the root, and the list that a walk begins with, of which nothing is dropped
  abbrev pub at_root : Chain → List (Item R E) → Made R E
  at_root chain list = fold with_root_item (record { chain = chain; list = [] }) list

  -- what is made of a list before another callback is given it
  abbrev pub by_rules : Option ℕ → List ℕ → Chain → List (Item R E) → Made R E
  by_rules None path chain list = at_root chain list
  by_rules (Some depth) path chain list = in_directory settings texts path chain list
