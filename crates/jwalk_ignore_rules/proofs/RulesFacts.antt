-- The last pattern that matches.
use Rattle.std.proofs.Common.{◌≡◌, ℕ, Bool, true, false, List, [], ◌∷◌, ◌++◌, map, ap, refl}
use Rattle.jwalk_ignore_rules.specs.Pattern.{Pattern, decision_of}
use Rattle.jwalk_ignore_rules.specs.Rules.{LastMatch, Says}

-- all of a list by value, of which the last is known
pub map_last : {X Y : Type 0} (value : X → Y) (before : List X) (last : X) (behind : List Y)
    → map value (before ++ last ∷ []) ++ behind ≡ map value before ++ value last ∷ behind
map_last value [] last behind = refl
map_last value (x ∷ xs) last behind = ap (λ (ys : List _). value x ∷ ys) (map_last value xs last behind)

-- what the last match says
pub says_last : (patterns : List Pattern) (path : List ℕ) (is_dir keeps : Bool) → LastMatch patterns path is_dir keeps → Says patterns path is_dir (decision_of keeps)
says_last patterns path is_dir true last = last
says_last patterns path is_dir false last = last
