-- The rules in force in a directory.
use Rattle.std.specs.Prelude.{ℕ, Bool, true, false, List, [], ◌∷◌, ◌++◌, ◌||◌, drop, length}
use Rattle.jwalk_ignore_rules.specs.Rules.Matching.{or_else, patterns_say}
use Rattle.jwalk_ignore_rules.specs.Pattern.{Pattern}
use Rattle.jwalk_ignore_rules.specs.declared.rules.decision.Decision.{Decision}
use Rattle.jwalk_ignore_rules.specs.declared.rules.decision.Decision.TheVariants.{Ignored, Kept, Unsaid}
use Rattle.jwalk_ignore_rules.specs.declared.rules.rules_kind.RulesKind.{RulesKind}
use Rattle.jwalk_ignore_rules.specs.declared.rules.rules_kind.RulesKind.TheVariants as kind

-- the rules of one file: how much of a path is before the part that they match, and the patterns in order
pub record Link : Type 0 where
  pub before : ℕ
  pub patterns : List Pattern

-- whether the file of rules of a kind may be missing that a directory's own list leads to: only `info/exclude` isn't listed
abbrev pub may_miss : RulesKind → Bool
may_miss kind.Fdignore = false
may_miss kind.Ignore = false
may_miss kind.Gitignore = false
may_miss kind.Exclude = true

-- the rules in force: the root's absolute path and how long its own is, whether a repository is entered, and the links of each kind, the farthest first
pub record Chain : Type 0 where
  pub front : List ℕ
  pub root_len : ℕ
  pub in_repository : Bool
  pub fdignore : List Link
  pub ignore : List Link
  pub gitignore : List Link
  pub exclude : List Link

-- no rules, below a root whose path stays as it is
abbrev pub no_rules : Chain
no_rules = record { front = []; root_len = 0; in_repository = false; fdignore = []; ignore = []; gitignore = []; exclude = [] }

-- what a link says of a path
abbrev pub link_says : Link → List ℕ → Bool → Decision
link_says link path is_dir = patterns_say link.patterns (drop link.before path) is_dir

-- what links of one kind say: the nearest that says anything
abbrev pub links_say : List Link → List ℕ → Bool → Decision
links_say [] path is_dir = Unsaid
links_say (link ∷ nearer) path is_dir = or_else (links_say nearer path is_dir) (link_says link path is_dir)

-- what the rules in force say of a path: `.fdignore` before `.ignore`, this before `.gitignore`, and this before `info/exclude`
abbrev pub chain_says : Chain → List ℕ → Bool → Decision
chain_says chain path is_dir =
    or_else (links_say chain.fdignore path is_dir)
    (or_else (links_say chain.ignore path is_dir) (or_else (links_say chain.gitignore path is_dir) (links_say chain.exclude path is_dir)))

-- whether a decision says anything
abbrev pub is_said : Decision → Bool
is_said Ignored = true
is_said Kept = true
is_said Unsaid = false

-- whether a decision ignores
abbrev pub is_ignored : Decision → Bool
is_ignored Ignored = true
is_ignored Kept = false
is_ignored Unsaid = false

-- where a directory is, by the root's absolute path
abbrev pub place_in : Chain → List ℕ → List ℕ
place_in chain directory = chain.front ++ drop chain.root_len directory

-- the rules in a directory that holds `.git` or not: those of an outer repository end there, and `.fdignore` and `.ignore` go on
abbrev pub entered : Bool → Chain → Chain
entered true chain = record chain { in_repository = true; gitignore = []; exclude = [] }
entered false chain = chain

-- the rules with one file's more
abbrev pub with_link : RulesKind → Link → Chain → Chain
with_link kind.Fdignore link chain = record chain { fdignore = chain.fdignore ++ link ∷ [] }
with_link kind.Ignore link chain = record chain { ignore = chain.ignore ++ link ∷ [] }
with_link kind.Gitignore link chain = record chain { gitignore = chain.gitignore ++ link ∷ [] }
with_link kind.Exclude link chain = record chain { exclude = chain.exclude ++ link ∷ [] }

-- no rules yet, below a root with this path and this absolute one
abbrev pub below_root : List ℕ → List ℕ → Chain
below_root root absolute = record no_rules { front = absolute ++ 47 ∷ []; root_len = length root }

-- whether a list has an item
abbrev pub has_any : {X : Type 0} → List X → Bool
has_any [] = false
has_any (x ∷ xs) = true

-- whether there are any rules
abbrev pub has_rules : Chain → Bool
has_rules chain = has_any chain.fdignore || has_any chain.ignore || has_any chain.gitignore || has_any chain.exclude
