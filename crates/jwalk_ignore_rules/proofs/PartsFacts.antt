-- How the names of a pattern are read on.
use Prim.Native.Nat.{zero}
use Rattle.std.proofs.Common.{◌≡◌, ◌≤◌, ◌<◌, ℕ, suc, List, [], ◌∷◌, Option, Some, None, Bool, true, false, length, ap, refl, arith, map, rules, tests}
use Rattle.std.specs.Bool.{◌==◌}
use Rattle.std.specs.Prelude.{◌&&◌}
use Rattle.std.specs.List.{list_all}
use Rattle.jwalk_ignore_rules.specs.Pattern.ByteTest.{ByteTest}
use Rattle.jwalk_ignore_rules.specs.declared.pattern.part.Part.{Part}
use Rattle.jwalk_ignore_rules.specs.Pattern.NamesRead.{NamesRead, added, finished, parts_in}
use Rattle.jwalk_ignore_rules.specs.Pattern.Token.{Token, token_in}

-- what is read behind a token
abbrev going_on : ℕ → NamesRead → Option (Token × List ℕ) → Option (List (Part (List (Part ByteTest))))
going_on n read found = elim found [
  | None ↦ None
  | Some next ↦ parts_in n (added next.0 read) next.1
]

-- a malformed token
pub no_token : (n : ℕ) (read : NamesRead) (rest : List ℕ) → (length rest == 0) ≡ false → token_in rest ≡ None → parts_in n read rest ≡ None
no_token n read [] some none = cc
no_token zero read (byte ∷ behind) some none = refl
no_token (suc n) read (byte ∷ behind) some none = ap (going_on n read) none

-- the end of a text
pub at_end : (n : ℕ) (read : NamesRead) (rest : List ℕ) → (length rest == 0) ≡ true → parts_in n read rest ≡ Some (finished read)
at_end n read [] none = refl
at_end n read (byte ∷ behind) none = let clash : suc (length behind) ≡ 0 = search (rules, tests) in absurd (omega arith)

-- reading on behind one token
pub next_token : (n : ℕ) (read : NamesRead) (rest : List ℕ) (token : Token) (behind : List ℕ) → token_in rest ≡ Some (token, behind)
    → length rest ≤ n → length behind < length rest → (m : ℕ) × (length behind ≤ m) × (parts_in n read rest ≡ parts_in m (added token read) behind)
next_token n read [] token behind is within shorter = absurd (omega arith)
next_token zero read (byte ∷ after) token behind is within shorter = absurd (omega arith)
next_token (suc n) read (byte ∷ after) token behind is within shorter = (n, omega arith, ap (going_on n read) is)

-- a test of all items by value
pub list_all-map : {X Y : Type 0} (value : X → Y) (test : Y → Bool) (xs : List X) → list_all test (map value xs) ≡ list_all (λ x. test (value x)) xs
list_all-map value test [] = refl
list_all-map value test (x ∷ xs) = ap (λ (b : Bool). test (value x) && b) (list_all-map value test xs)
