-- Texts in which repositories have a user's excludes.
use Rattle.std.specs.Prelude.{ℕ, Bool, true, false, ◌&&◌, ◌==◌, not, List, ◌∷◌, ◌++◌, length, codes, Result, Ok, Err, if◌then◌else◌}
use Rattle.std.specs.List.{ends_with}
use Rattle.std.specs.declared.io.ErrorKind.{ErrorKind}
use Rattle.std.specs.declared.io.ErrorKind.TheVariants as kind
use Rattle.jwalk_model.specs.FileType.{is_file}
use Rattle.jwalk_model.specs.declared.file_type.FileType.{FileType}
use Rattle.jwalk_model.specs.declared.file_type.FileType.TheVariants as type
use Rattle.jwalk_ignore_rules.specs.Rules.Line.{without_mark}
use Rattle.jwalk_ignore_rules.specs.Rules.Texts.{Texts}
use Rattle.jwalk_ignore_rules.specs.declared.rules.with_excludes.WithExcludes.{WithExcludes}

abbrev pub texts_behind : {T : Type 0} → WithExcludes T → T
texts_behind it = it.texts

abbrev pub excludes_of : {T : Type 0} → WithExcludes T → List ℕ
excludes_of it = it.excludes.items

-- what is below each folder that may have excludes of its own
abbrev own_file : List ℕ
own_file = codes "/.git/info/exclude"

-- whether a path is that of a repository's own excludes
abbrev pub is_exclude : List ℕ → Bool
is_exclude path = ends_with ◌==◌ path own_file

-- whether the excludes are added to a file
abbrev pub adds_to : List ℕ → List ℕ → Bool
adds_to excludes path = not (length excludes == 0) && is_exclude path

-- whether nothing is at a path
abbrev pub is_missing : ErrorKind → Bool
is_missing kind.NotFound = true
is_missing kind.NotADirectory = true
is_missing _ = false

-- the type of a file that there is, whatever is found
abbrev pub some_file : Result FileType ErrorKind → Result FileType ErrorKind
some_file (Ok found) = Ok type.File
some_file (Err k) = if is_missing k then Ok type.File else Err k

-- the excludes, and a file's own lines
abbrev pub and_own : List ℕ → Result (List ℕ) ErrorKind → Result (List ℕ) ErrorKind
and_own excludes (Ok bytes) = Ok (excludes ++ 10 ∷ without_mark bytes)
and_own excludes (Err k) = Err k

-- the excludes, and the lines of the texts' own file behind them, if it is a regular file
abbrev pub behind : List ℕ → Result FileType ErrorKind → Result (List ℕ) ErrorKind → Result (List ℕ) ErrorKind
behind excludes (Ok found) bytes = if is_file found then and_own excludes bytes else Ok excludes
behind excludes (Err k) bytes = if is_missing k then Ok excludes else Err k

-- texts whose repositories have these excludes: they are in front of each repository's own
abbrev pub with_excludes : List ℕ → Texts → Texts
with_excludes excludes texts = record texts {
  bytes_of = λ path. if adds_to excludes path then behind excludes (texts.target_type_of path) (texts.bytes_of path) else texts.bytes_of path;
  target_type_of = λ path. if adds_to excludes path then some_file (texts.target_type_of path) else texts.target_type_of path;
}
