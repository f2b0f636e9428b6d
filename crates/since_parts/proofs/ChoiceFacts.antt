-- Words that are these texts.
use Rattle.std.proofs.Common.{◌≡◌, ◌∙◌, ◌<◌, ◌-◌, ℕ, Bor, List, [], ◌∷◌, ap, ap₂, arith, drop, get_or, length, map, string_bytes, sym, take}
use Rattle.std.specs.declared.alloc.Global.{Global}
use Rattle.std.specs.declared.string.String.{String}
use Rattle.std.proofs.lemmas.List.{take_all}
use Rattle.jwalk_snapshot.specs.Text.{text_in}

all_taken : {X : Type 0} (x : X) (xs : List X) → take (length (x ∷ xs) - 1) (drop 1 (x ∷ xs)) ≡ xs
all_taken x xs = take_all (length (x ∷ xs) - 1) xs (omega arith)

none_below : 0 < 0 → ⊥
none_below lt = omega (arith, lt)

-- the first word is the first text, and the others are the others
pub texts_same : (ws : List (String Global)) (ts : List (Bor (List ℕ))) (w : String Global) (t : Bor (List ℕ)) → 0 < length ws → 0 < length ts → string_bytes (get_or ws 0 w) ≡ text_in (get_or ts 0 t)
    → map string_bytes (take (length ws - 1) (drop 1 ws)) ≡ map text_in (take (length ts - 1) (drop 1 ts)) → map string_bytes ws ≡ map text_in ts
texts_same [] ts w t lt below same rest = absurd (none_below lt)
texts_same (v ∷ vs) [] w t lt below same rest = absurd (none_below below)
texts_same (v ∷ vs) (s ∷ ss) w t lt below same rest =
    ap₂ (λ x l. x ∷ l) same (ap (map string_bytes) (sym (all_taken v vs)) ∙ rest ∙ ap (map text_in) (all_taken s ss))
