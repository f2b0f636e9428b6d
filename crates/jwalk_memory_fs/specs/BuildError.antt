-- Why a tree can't be built on.
use Rattle.std.specs.Prelude.{ℕ, List, codes}
use Rattle.jwalk_memory_fs.specs.declared.build_error.BuildError.{BuildError}
use Rattle.jwalk_memory_fs.specs.declared.build_error.BuildError.TheVariants.{NotFound, AlreadyExists, Memory}

-- the text of the error
abbrev pub text_of : BuildError → List ℕ
text_of NotFound = codes "no such file or directory"
text_of AlreadyExists = codes "the name is taken"
text_of Memory = codes "memory refused"
