-- Errors of a walk as values.
use Rattle.std.specs.Prelude.{ℕ, List, Option}
use Rattle.std.specs.declared.io.ErrorKind.{ErrorKind}

-- An error by its sort. `io` has a depth, perhaps a path, and the kind of the `io::Error`. `unnamed` came in a directory and has no path of its own: it has a depth, the directory's path and the kind. `looped` has a depth, the ancestor that a link leads back to, and the link's path.
pub data Failure : Type 0 where
  io : ℕ → Option (List ℕ) → ErrorKind → Failure
  unnamed : ℕ → List ℕ → ErrorKind → Failure
  looped : ℕ → List ℕ → List ℕ → Failure
  busy : Failure
  memory : Failure
  lost : Failure
