-- The paths of errors, by which they may be dropped.
use Rattle.std.specs.Prelude.{ℕ, Bool, false, List, drop, Option, None, is_some, if◌then◌else◌}
use Rattle.std.specs.Option.{option_map_or}
use Rattle.jwalk.specs.jwalk_job.Error as error
use Rattle.jwalk.specs.jwalk_model.Error.{Failure}
use Rattle.jwalk.specs.jwalk_model.Entry.{is_hidden}
use Rattle.jwalk.specs.jwalk_model.Paths.{file_name}
use Rattle.jwalk_ignore.specs.Pattern.PatternText.{without_first_slash}

-- what is behind this many bytes of a path, without a slash in front
abbrev pub behind : ℕ → List ℕ → List ℕ
behind len path = without_first_slash (drop len path)

-- the path of an error, if it has one and what is there isn't known: a link that leads back is known to lead to a directory
abbrev pub failed_path : Failure → Option (List ℕ)
failed_path f = if is_some (error.ancestor_of f) then None else error.path_of f

-- whether the last part of a path is a hidden name
abbrev pub is_hidden_path : List ℕ → Bool
is_hidden_path path = option_map_or is_hidden (file_name path) false
