-- Where a repository's configuration is.
use Rattle.std.specs.Prelude.{ℕ, ◌==◌, List, take, drop, bytes_eq, codes, Option, Some, None, option_map, Result, Ok, Err, if◌then◌else◌}
use Rattle.std.specs.List.{before_first}
use Rattle.std.specs.Str.{is_utf8}
use Rattle.std.specs.declared.io.ErrorKind.{ErrorKind}
use Rattle.jwalk_ignore_rules.specs.Rules.Texts.{Texts}
use Rattle.jwalk_model.specs.Paths.{join, parent}

-- the first line of a text
abbrev pub first_line : List ℕ → List ℕ
first_line = before_first (λ byte. byte == 10)

-- bytes, if they are a text
abbrev pub text_of : List ℕ → Option (List ℕ)
text_of bytes = if is_utf8 bytes then Some bytes else None

abbrev pub text_read : Result (List ℕ) ErrorKind → Option (List ℕ)
text_read (Ok bytes) = text_of bytes
text_read (Err k) = None

-- the path that a file in place of `.git` names
abbrev pub folder_in : List ℕ → Option (List ℕ)
folder_in text = if bytes_eq (take 8 text) (codes "gitdir: ") then Some (first_line (drop 8 text)) else None

abbrev pub folder_named : Option (List ℕ) → Option (List ℕ)
folder_named None = None
folder_named (Some text) = folder_in text

-- a path as seen from a folder, if there is one
abbrev pub from_folder : List ℕ → List ℕ → Option (List ℕ) → List ℕ
from_folder folder other None = other
from_folder folder other (Some path) = join folder path

-- the folder that holds a path
abbrev pub folder_of : List ℕ → List ℕ
folder_of path = by (parent path)
  where
    by : Option (List ℕ) → List ℕ
    by (Some folder) = folder
    by None = codes ""

-- the folder of a repository, by its `.git`, which may be a file that names another
abbrev pub git_folder : Texts → List ℕ → List ℕ
git_folder texts git = from_folder (folder_of git) git (folder_named (text_read (texts.bytes_of git)))

-- the folder that the worktrees of a repository share
abbrev pub common_folder : Texts → List ℕ → List ℕ
common_folder texts folder = from_folder folder folder (option_map first_line (text_read (texts.bytes_of (join folder (codes "commondir")))))

-- the path of the configuration of a repository, by its `.git`
abbrev pub config_path : Texts → List ℕ → List ℕ
config_path texts git = join (common_folder texts (git_folder texts git)) (codes "config")
