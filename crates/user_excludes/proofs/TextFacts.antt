-- Bytes that are a text, or aren't.
use Rattle.std.proofs.Common.{◌≡◌, ℕ, Bool, true, false, cond, List, Option, Some, None, Result, Ok, Err, ap, refl}
use Rattle.std.specs.Str.{IsUtf8, is_utf8}
use Rattle.std.proofs.lemmas.Str.{IsUtf8-from_is_utf8, is_utf8-from_IsUtf8}
use Rattle.user_excludes.specs.Named.{text_in, BadLine, Failure}
use Rattle.user_excludes.specs.Repository.{text_of}

no_text : (bytes : List ℕ) → (IsUtf8 bytes → ⊥) → is_utf8 bytes ≡ false
no_text bytes none = by (is_utf8 bytes) refl
  where
    by : (b : Bool) → is_utf8 bytes ≡ b → is_utf8 bytes ≡ false
    by true is = absurd (none (IsUtf8-from_is_utf8 bytes is))
    by false is = is

valued : List ℕ → ℕ → List ℕ → Bool → Result (List ℕ) Failure
valued file line value is = cond is (Ok value) (Err (BadLine file line))

-- a value that is a text, and one that isn't
pub is_value : (file : List ℕ) (line : ℕ) (value : List ℕ) → IsUtf8 value → text_in file line value ≡ Ok value
unfolding valued
is_value file line value is = ap (valued file line value) (is_utf8-from_IsUtf8 value is)

pub no_value : (file : List ℕ) (line : ℕ) (value : List ℕ) → (IsUtf8 value → ⊥) → text_in file line value ≡ Err (BadLine file line)
unfolding valued
no_value file line value none = ap (valued file line value) (no_text value none)

some_if : List ℕ → Bool → Option (List ℕ)
some_if bytes is = cond is (Some bytes) None

-- a file's bytes that are a text, and those that aren't
pub is_text : (bytes : List ℕ) → IsUtf8 bytes → text_of bytes ≡ Some bytes
unfolding some_if
is_text bytes is = ap (some_if bytes) (is_utf8-from_IsUtf8 bytes is)

pub none_of : (bytes : List ℕ) → (IsUtf8 bytes → ⊥) → text_of bytes ≡ None
unfolding some_if
none_of bytes none = ap (some_if bytes) (no_text bytes none)
