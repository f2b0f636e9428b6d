-- Which kinds of rules are read, row by row, in the order in which a folder's are.
use Rattle.std.specs.Prelude.{◌≡◌, Bool, true, false, List, [], ◌∷◌, filter, Option, Some, None, codes, refl}
use Rattle.jwalk.specs.jwalk_model.declared.file_type.FileType.{FileType}
use Rattle.jwalk.specs.jwalk_model.declared.file_type.FileType.TheVariants as type
use Rattle.jwalk_ignore.specs.Callback.Given.{first_settings}
use Rattle.jwalk_ignore.specs.Callback.IgnoreFiles.{all_kinds, given_says, is_read, is_read_above}
use Rattle.jwalk_ignore.specs.Rules.Folder.{Folder}
use Rattle.jwalk_ignore.specs.Rules.Line.{patterns_of}
use Rattle.jwalk_ignore_rules.specs.declared.rules.decision.Decision.TheVariants.{Ignored, Unsaid}
use Rattle.jwalk_ignore_rules.specs.declared.rules.rules_kind.RulesKind.{RulesKind}
use Rattle.jwalk_ignore_rules.specs.declared.rules.rules_kind.RulesKind.TheVariants.{Fdignore, Ignore, Gitignore, Exclude}
use Rattle.jwalk_ignore.specs.Callback.Settings.{Settings}

-- the kinds that are read in a directory that is in a repository or not, whose `.git` leads to this
abbrev read : Settings → Bool → Option FileType → List RulesKind
read settings in_repository found = filter (is_read settings in_repository found) all_kinds

-- the same in a folder above the root, beyond a repository or not
abbrev read_above : Settings → Bool → Bool → Option FileType → List RulesKind
read_above settings is_outer in_repository found =
    let folder : Folder = record { path = codes "/"; git = found; is_outer = is_outer } in
    filter (is_read_above settings folder in_repository) all_kinds

row_in_a_repository : read first_settings true (Some type.Dir) ≡ Exclude ∷ Gitignore ∷ Ignore ∷ []
row_in_a_repository = refl

row_in_none : read first_settings false None ≡ Ignore ∷ []
row_in_none = refl

row_without_version_control : read (record first_settings { version_control = false; anywhere = true }) true (Some type.Dir) ≡ Ignore ∷ []
row_without_version_control = refl

row_fdignore : read (record first_settings { fdignore = true }) false None ≡ Ignore ∷ Fdignore ∷ []
row_fdignore = refl

row_above : read_above first_settings false true (Some type.Dir) ≡ Exclude ∷ Gitignore ∷ Ignore ∷ []
row_above = refl

row_beyond : read_above (record first_settings { fdignore = true; anywhere = true }) true false None ≡ Ignore ∷ Fdignore ∷ []
row_beyond = refl

row_none_above : read_above (record first_settings { above_the_root = false }) false true (Some type.Dir) ≡ []
row_none_above = refl

-- what given rules say of a name in a directory: its path counts, as the walk makes it

row_given_here : given_says (patterns_of (codes "/t/a\n")) (codes "./t") (codes "a") false ≡ Ignored
row_given_here = refl

row_given_from_the_top : given_says (patterns_of (codes "/t/a\n")) (codes "/r/t") (codes "a") false ≡ Unsaid
row_given_from_the_top = refl
