-- The calls of a disk that a walk makes.
use Rattle.std.specs.Prelude.{ℕ, List, Result, Ok, Err}
use Rattle.std.specs.Path.{path_buf_bytes}
use Rattle.std.specs.declared.io.Error.{Error}
use Rattle.std.specs.declared.path.buf.PathBuf.{PathBuf}

-- the text of a link, or the error in its place
abbrev pub link_text : {A : Type 0} → Result (PathBuf A) Error → Result (List ℕ) Error
link_text (Ok target) = Ok (path_buf_bytes target)
link_text (Err e) = Err e
