-- A name in a directory.
use Rattle.std.specs.Prelude.{ℕ, List}
use Rattle.jwalk_model.specs.declared.file_type.FileType.{FileType}

-- a name, with the type of what has it
pub record Name : Type 0 where
  pub name : List ℕ
  pub file_type : FileType
