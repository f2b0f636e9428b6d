-- Shared texts.
use Rattle.std.specs.Prelude.{ℕ, List, String, string_bytes}
use Rattle.std.specs.Arc.{arc_value}
use Rattle.std.specs.declared.sync.Arc.{Arc}

-- the bytes of a shared text
abbrev pub text : {A : Type 0} → Arc (String A) A → List ℕ
text shared = string_bytes (arc_value shared)
