-- A user's excludes.
use Rattle.std.specs.Prelude.{ℕ, ◌==◌, List, [], length, codes, Option, Some, None, Result, Ok, Err, if◌then◌else◌}
use Rattle.std.specs.declared.io.ErrorKind.{ErrorKind}
use Rattle.jwalk_ignore_rules.specs.Rules.Texts.{Texts}
use Rattle.user_excludes.specs.Home.{below_home, expanded, in_config, Home}
use Rattle.user_excludes.specs.Named.{and_then, is_missing, unnamed, with_first, Failure, Line, Named, NoValue, Unreadable}

-- What is known of the excludes behind the user's configurations and a repository's. The value that was set last counts.
abbrev pub named_by : Texts → Home → Option (List ℕ) → Result Named Failure
named_by texts home repository =
    and_then (with_first texts home (in_config home (codes "git/config")) unnamed)
    (λ named. and_then (with_first texts home (below_home home (codes ".gitconfig")) named) (with_first texts home repository))

-- the path of the excludes, if they are set: an empty one is none
abbrev pub path_set : Home → List ℕ → Option (List ℕ)
path_set home path = if length path == 0 then None else Some (expanded home path)

abbrev path_or : Option (List ℕ) → Home → Option (List ℕ) → Option (List ℕ)
path_or other home (Some path) = path_set home path
path_or other home None = other

abbrev unless_unset : Option Line → Option (List ℕ) → Result (Option (List ℕ)) Failure
unless_unset None path = Ok path
unless_unset (Some line) path = Err (NoValue line.file line.line)

-- the path of the excludes by what is known of them
abbrev pub path_by : Home → Named → Result (Option (List ℕ)) Failure
path_by home named = unless_unset named.unset (path_or (in_config home (codes "git/ignore")) home named.path)

-- a file's bytes, none if there is no such file
abbrev bytes_or_none : List ℕ → Result (List ℕ) ErrorKind → Result (List ℕ) Failure
bytes_or_none path (Ok bytes) = Ok bytes
bytes_or_none path (Err k) = if is_missing k then Ok [] else Err (Unreadable path k)

abbrev pub bytes_at : Texts → Option (List ℕ) → Result (List ℕ) Failure
bytes_at texts None = Ok []
bytes_at texts (Some path) = bytes_or_none path (texts.bytes_of path)

-- the bytes of a user's excludes, in a repository with a configuration at this path
abbrev pub user_excludes : Texts → Home → Option (List ℕ) → Result (List ℕ) Failure
user_excludes texts home repository =
    and_then (and_then (named_by texts home repository) (path_by home)) (bytes_at texts)
