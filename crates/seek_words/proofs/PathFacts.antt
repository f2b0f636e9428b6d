-- Which joined paths are absolute.
use Rattle.std.proofs.Common.{◌≡◌, ◌∙◌, ℕ, Bool, true, false, ◌||◌, List, [], ◌∷◌, ◌++◌, ◌==◌, if◌then◌else◌, refl}
use Rattle.jwalk_model.specs.Paths.{slash, join, starts_with_slash, with_slash}

or_true : (b : Bool) → true ≡ (b || true)
or_true true = refl
or_true false = refl

or_false : (b : Bool) → b ≡ (b || false)
or_false true = refl
or_false false = refl

one_slash : (c : ℕ) (b : List ℕ) (is : Bool) → (c == slash) ≡ is → starts_with_slash ((if is then c ∷ [] else c ∷ slash ∷ []) ++ b) ≡ is
one_slash c b true is = is
one_slash c b false is = is

with_slash_starts : (a b : List ℕ) → starts_with_slash b ≡ false → starts_with_slash (with_slash a ++ b) ≡ starts_with_slash a
with_slash_starts [] b none = none
with_slash_starts (c ∷ []) b none = one_slash c b (c == slash) refl
with_slash_starts (c ∷ d ∷ cs) b none = refl

joined : (a b : List ℕ) (is : Bool) → starts_with_slash b ≡ is → starts_with_slash (if is then b else with_slash a ++ b) ≡ (starts_with_slash a || is)
joined a b true is = is ∙ or_true (starts_with_slash a)
joined a b false is = with_slash_starts a b is ∙ or_false (starts_with_slash a)

-- a joined path is absolute if either part is
joined_starts : (a b : List ℕ) → starts_with_slash (join a b) ≡ (starts_with_slash a || starts_with_slash b)
joined_starts a b = joined a b (starts_with_slash b) refl

-- the same, under a name of letters alone
pub slashes : (a b : List ℕ) → starts_with_slash (join a b) ≡ (starts_with_slash a || starts_with_slash b)
slashes = joined_starts
