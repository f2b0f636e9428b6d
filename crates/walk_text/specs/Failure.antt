-- Failures of the program.
use Rattle.std.specs.Prelude.{ℕ, List, ◌++◌, codes, decimal}
use Rattle.walk_text.specs.declared.failure.Failure.{Failure}
use Rattle.walk_text.specs.declared.failure.Failure.TheVariants.{BadWords, BadTree, TooMany, Memory, Output}

-- the status that the program ends with
abbrev pub status_of : Failure → ℕ
status_of BadWords = 2
status_of (BadTree line) = 2
status_of TooMany = 1
status_of Memory = 1
status_of Output = 1

-- the text of the failure
abbrev pub text_of : Failure → List ℕ
text_of BadWords = codes "bad words"
text_of (BadTree line) = codes "bad tree, line " ++ decimal line
text_of TooMany = codes "too many"
text_of Memory = codes "memory refused"
text_of Output = codes "output can't be written"
