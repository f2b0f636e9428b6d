-- The spaces at the end of a text.
use Prim.Native.Nat.{zero}
use Rattle.std.proofs.Common.{◌≡◌, ◌+◌, ℕ, suc, Bool, true, false, ◌≤◌, ◌<◌, get_or, List, [], ◌∷◌, length, take, drop, ap, subst, refl, sym, ◌∙◌, arith, rules, tests}
use Rattle.std.specs.Bool.{◌==◌}
use Rattle.std.specs.Prelude.{◌&&◌, ◌||◌, not, if◌then◌else◌}
use Rattle.std.specs.List.{list_all}
use Rattle.std.proofs.lemmas.List.{drop_all, at_drop_more}
use Rattle.jwalk_ignore_rules.specs.Rules.Line.{is_space, trimmed}

-- one byte in front of a beginning
in_front : (blank : Bool) (c : ℕ) (cs short : List ℕ) → short ≡ take (length short) cs
    → (if blank then [] else c ∷ short) ≡ take (length (if blank then [] else c ∷ short)) (c ∷ cs)
in_front true c cs short is = refl
in_front false c cs short is = ap (λ (xs : List ℕ). c ∷ xs) is

-- what is kept of a text is a beginning
pub a_beginning : (escaped : Bool) (text : List ℕ) → trimmed escaped text ≡ take (length (trimmed escaped text)) text
a_beginning escaped [] = refl
a_beginning escaped (c ∷ cs) = in_front (not escaped && list_all is_space (c ∷ cs)) c cs (trimmed (not escaped && c == 92) cs) (a_beginning (not escaped && c == 92) cs)

-- where what is kept of a text ends: of the bytes in front of `place` it is kept up to `end`, and of the others this many
abbrev pub whole_end : ℕ → ℕ → ℕ → ℕ
whole_end end place zero = end
whole_end end place (suc n) = place + suc n

-- all in front of a place is kept
end_here : (place n : ℕ) → whole_end place place n ≡ place + n
end_here place zero = omega arith
end_here place (suc n) = refl

-- nothing was seen yet
pub from_start : (n : ℕ) → n ≡ whole_end 0 0 n
from_start zero = refl
from_start (suc n) = omega arith

-- all was seen
pub at_end : (end place : ℕ) (escaped : Bool) (text : List ℕ) → length text ≤ place → whole_end end place (length (trimmed escaped (drop place text))) ≡ end
at_end end place escaped text seen = ap (λ (xs : List ℕ). whole_end end place (length (trimmed escaped xs))) (drop_all place text seen)

-- a byte that is kept
one_kept : (place n : ℕ) → place + suc n ≡ whole_end (place + 1) (place + 1) n
one_kept place n = let here : whole_end (place + 1) (place + 1) n ≡ (place + 1) + n = end_here (place + 1) n in omega arith

-- nothing is kept of spaces
blank_rest : (cs : List ℕ) → list_all is_space cs ≡ true → trimmed false cs ≡ []
blank_rest [] blank = refl
blank_rest (c ∷ cs) blank = ap (λ (b : Bool). if b then [] else c ∷ trimmed (c == 92) cs) blank

-- something is kept of other bytes
kept_rest : (cs : List ℕ) → list_all is_space cs ≡ false → (n : ℕ) × (length (trimmed false cs) ≡ suc n)
kept_rest [] some = absurd cc
kept_rest (c ∷ cs) some = (length (trimmed (c == 92) cs), ap (λ (b : Bool). length (if b then [] else c ∷ trimmed (c == 92) cs)) some)

-- a space that may be at the end
space_next : (blank : Bool) (end place : ℕ) (cs : List ℕ) → list_all is_space cs ≡ blank
    → whole_end end place (length (if blank then [] else 32 ∷ trimmed false cs)) ≡ whole_end end (place + 1) (length (trimmed false cs))
space_next true end place cs blank = ap (λ (xs : List ℕ). whole_end end (place + 1) (length xs)) (sym (blank_rest cs blank))
space_next false end place cs blank =
    let some = kept_rest cs blank in
    let one : place + suc (suc some.0) ≡ (place + 1) + suc some.0 = omega arith in
    ap (λ (n : ℕ). place + suc n) some.1 ∙ one ∙ ap (λ (n : ℕ). whole_end end (place + 1) n) (sym some.1)

-- a byte more
pub next_end : (escaped space : Bool) (end place c : ℕ) (cs : List ℕ) → (c == 32) ≡ space
    → whole_end end place (length (trimmed escaped (c ∷ cs)))
    ≡ whole_end (if escaped || not space then place + 1 else end) (place + 1) (length (trimmed (not escaped && c == 92) cs))
next_end true space end place c cs is = one_kept place (length (trimmed false cs))
next_end false false end place c cs is =
    ap (λ (b : Bool). whole_end end place (length (if b && list_all is_space cs then [] else c ∷ trimmed (c == 92) cs))) is ∙ one_kept place (length (trimmed (c == 92) cs))
next_end false true end place c cs is =
    let same : c ≡ 32 = search (rules, tests) in
    subst (λ (x : ℕ). whole_end end place (length (trimmed false (x ∷ cs))) ≡ whole_end end (place + 1) (length (trimmed (x == 92) cs))) (sym same)
    (space_next (list_all is_space cs) end place cs refl)

-- the byte at a place more
pub next_end_at : (escaped kept escapes : Bool) (end place : ℕ) (text : List ℕ) → place < length text
    → kept ≡ (escaped || not (is_space (get_or text place 0))) → escapes ≡ (not escaped && get_or text place 0 == 92)
    → whole_end end place (length (trimmed escaped (drop place text)))
    ≡ whole_end (if kept then place + 1 else end) (place + 1) (length (trimmed escapes (drop (place + 1) text)))
next_end_at escaped kept escapes end place text inside is_kept is_escape =
    let c : ℕ = get_or text place 0 in
    let cs : List ℕ = drop (place + 1) text in
    at_drop_more (λ (xs : List ℕ). whole_end end place (length (trimmed escaped xs))) text place 0 inside
    ∙ next_end escaped (c == 32) end place c cs refl
    ∙ ap (λ (b : Bool). whole_end (if b then place + 1 else end) (place + 1) (length (trimmed (not escaped && c == 92) cs))) (sym is_kept)
    ∙ ap (λ (b : Bool). whole_end (if kept then place + 1 else end) (place + 1) (length (trimmed b cs))) (sym is_escape)
