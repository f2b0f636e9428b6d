-- A name while it is escaped.
use Rattle.std.proofs.Common.{◌≡◌, ℕ, List, [], ◌∷◌, ◌++◌, Some, None, flat_map, length, take, drop, ap, refl, sym, ◌∙◌, inl, inr, arith}
use Rattle.std.specs.declared.slice.EscapeAscii.{EscapeAscii}
use Rattle.std.specs.Char.Escape.{escape_ascii}
use Rattle.std.specs.Char.Iter.{escape_byte_rest}
use Rattle.std.specs.Slice.Iter.{escape_ascii_rest, escape_ascii_current, escape_ascii_steps}

-- what is left of it
abbrev pub left_of : EscapeAscii → List ℕ
left_of s = escape_byte_rest (escape_ascii_current s) ++ flat_map escape_ascii (escape_ascii_rest s)

-- what comes is the first of what is left
pub first_left : (s t : EscapeAscii) (x : ℕ) → escape_ascii_steps s (Some x) t → left_of s ≡ x ∷ left_of t
first_left s t x (inl h) =
    ap (λ l. l ++ flat_map escape_ascii (escape_ascii_rest s)) h.0
    ∙ ap (λ r. (x ∷ escape_byte_rest (escape_ascii_current t)) ++ flat_map escape_ascii r) (sym h.1)
first_left s t x (inr h) =
    let current = escape_ascii_current s in
    let none : escape_byte_rest current ≡ [] = ap (λ n. take n (drop current.from current.bytes)) h.0 in
    ap (λ l. l ++ flat_map escape_ascii (escape_ascii_rest s)) none
    ∙ ap (flat_map escape_ascii) h.1.1
    ∙ ap (λ l. l ++ flat_map escape_ascii (escape_ascii_rest t)) h.1.2

no_bytes : (xs : List ℕ) → length xs ≡ 0 → xs ≡ []
no_bytes [] e = refl
no_bytes (x ∷ xs) e = absurd (omega arith)

-- at the end nothing is left
pub none_left : (s t : EscapeAscii) → escape_ascii_steps s None t → left_of s ≡ []
none_left s t h =
    let current = escape_ascii_current s in
    let none : escape_byte_rest current ≡ [] = ap (λ n. take n (drop current.from current.bytes)) h.0 in
    ap (λ l. l ++ flat_map escape_ascii (escape_ascii_rest s)) none ∙ ap (flat_map escape_ascii) (no_bytes (escape_ascii_rest s) h.1)
