-- What rules are read from, as four functions of the path.
use Rattle.std.specs.Prelude.{ℕ, List, Result, Ok, Err}
use Rattle.std.specs.declared.io.ErrorKind.{ErrorKind}
use Rattle.std.specs.declared.io.ErrorKind.TheVariants as kind
use Rattle.jwalk_model.specs.declared.file_type.FileType.{FileType}

-- the bytes of the file at each path, the type of what is there and of what it leads to, and the absolute path of a path
pub record Texts : Type 0 where
  pub bytes_of : List ℕ → Result (List ℕ) ErrorKind
  pub type_of : List ℕ → Result FileType ErrorKind
  pub target_type_of : List ℕ → Result FileType ErrorKind
  pub absolute_of : List ℕ → Result (List ℕ) ErrorKind

-- no files, each path of which is its own absolute one
abbrev pub no_texts : Texts
no_texts = record {
  bytes_of = λ path. Err kind.NotFound;
  type_of = λ path. Err kind.NotFound;
  target_type_of = λ path. Err kind.NotFound;
  absolute_of = λ path. Ok path;
}
