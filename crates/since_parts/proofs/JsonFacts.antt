-- The data of differences.
use Rattle.std.proofs.Common.{◌≡◌, ℕ, Bool, true, false, ◌||◌, List, [], ◌∷◌, map, refl, ap}
use Rattle.jwalk_changes.specs.declared.change.Change.TheVariants.{Added, Removed, Changed}
use Rattle.serde_json.specs.Data.{object, string}
use Rattle.serde_json.specs.View.{items_of}
use Rattle.serde_json.specs.Written.{has_float, items_have_float}
use Rattle.since_parts.specs.Differences.{Difference}
use Rattle.since_parts.specs.Json.{members_of, words_of}

-- texts are no floats
texts_have_none : (words : List (List ℕ)) → items_have_float (items_of (map string words)) ≡ false
texts_have_none [] = refl
texts_have_none (word ∷ words) = texts_have_none words

-- no number in the data of differences is a float
pub none_has_float : (long : Bool) (change : Difference) → has_float (object (members_of long change)) ≡ false
none_has_float true (Added found) = refl
none_has_float true (Removed old) = refl
none_has_float true (Changed old found which) = ap (λ b. b || (false || (false || false))) (texts_have_none (words_of which))
none_has_float false (Added found) = refl
none_has_float false (Removed old) = refl
none_has_float false (Changed old found which) = refl
