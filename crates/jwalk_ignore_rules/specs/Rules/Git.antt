-- What `.git` of a directory leads to.
use Rattle.std.specs.Prelude.{ℕ, Bool, true, false, List, codes, Option, Some, None, Result, Ok, Err}
use Rattle.std.specs.declared.io.ErrorKind.{ErrorKind}
use Rattle.jwalk_model.specs.Paths.{join}
use Rattle.jwalk_model.specs.declared.file_type.FileType.{FileType}
use Rattle.jwalk_model.specs.declared.file_type.FileType.TheVariants as type
use Rattle.jwalk_ignore_rules.specs.Rules.Texts.{Texts}

-- what may make a directory a repository
abbrev pub git : List ℕ
git = codes ".git"

-- the type that a path leads to, if that can be told
abbrev pub type_told : Result FileType ErrorKind → Option FileType
type_told (Ok type) = Some type
type_told (Err k) = None

-- what `.git` of a directory leads to
abbrev pub git_at : Texts → List ℕ → Option FileType
git_at texts directory = type_told (texts.target_type_of (join directory git))

-- whether a `.git` that leads to this makes its directory a repository
abbrev pub is_repository : Option FileType → Bool
is_repository (Some type.Dir) = true
is_repository (Some type.File) = true
is_repository _ = false
