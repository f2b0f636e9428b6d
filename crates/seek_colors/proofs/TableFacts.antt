-- Texts in either case of letters, and the last entry of a table.
use Rattle.std.proofs.Common.{◌≡◌, ◌∙◌, ℕ, Bool, true, false, ◌↔◌, IsTrue, cond, List, [], ◌∷◌, ◌++◌, map, bytes_eq, string_bytes, Option, Some, None, sym, ap, refl}
use Rattle.std.specs.Prelude.{find, reverse}
use Rattle.std.specs.Bool.{Decides}
use Rattle.std.specs.Char.{to_ascii_lowercase}
use Rattle.std.specs.Option.{option_map}
use Rattle.std.proofs.lemmas.List.{map-append, reverse-append}
use Rattle.std.proofs.lemmas.Slice.Eq.{bytes_eq-Decides}
use Rattle.seek_colors.specs.Table.{entry_of, last_color}
use Rattle.seek_colors.specs.declared.table.Entry.{Entry}

same_test : (a b : Bool) (P : Type 0) → Decides b P → IsTrue a ↔ P → a ≡ b
same_test true true P decides is = refl
same_test false false P decides is = refl
same_test true false P decides is = sym (decides.1 (is.0 refl))
same_test false true P decides is = is.1 (decides.0 refl)

-- whether two texts are equal but for the case of letters
pub same_folded : (cs ds : List ℕ) (b : Bool) → IsTrue b ↔ (map to_ascii_lowercase cs ≡ map to_ascii_lowercase ds) → b ≡ bytes_eq (map to_ascii_lowercase cs) (map to_ascii_lowercase ds)
same_folded cs ds b test = same_test b _ _ (bytes_eq-Decides (map to_ascii_lowercase cs) (map to_ascii_lowercase ds)) test

reverse_map : {X Y : Type 0} (f : X → Y) (xs : List X) → reverse (map f xs) ≡ map f (reverse xs)
reverse_map f [] = refl
reverse_map f (x ∷ xs) =
    reverse-append (f x ∷ []) (map f xs)
    ∙ ap (λ ys. ys ++ f x ∷ []) (reverse_map f xs)
    ∙ sym (ap (map f) (reverse-append (x ∷ []) xs) ∙ map-append f (reverse xs) (x ∷ []))

either_mapped : {X Y : Type 0} (f : X → Y) (b : Bool) (x : X) (found : Option X) → cond b (Some (f x)) (option_map f found) ≡ option_map f (cond b (Some x) found)
either_mapped f true x found = refl
either_mapped f false x found = refl

find_mapped : {X Y : Type 0} (f : X → Y) (test : Y → Bool) (xs : List X) → find test (map f xs) ≡ option_map f (find (λ x. test (f x)) xs)
find_mapped f test [] = refl
find_mapped f test (x ∷ xs) = ap (cond (test (f x)) (Some (f x))) (find_mapped f test xs) ∙ either_mapped f (test (f x)) x (find (λ y. test (f y)) xs)

color_mapped : (found : Option Entry) → option_map (λ (it : List ℕ × List ℕ). it.1) (option_map entry_of found) ≡ option_map (λ (it : Entry). string_bytes it.color) found
color_mapped None = refl
color_mapped (Some entry) = refl

-- the colour of the last entry whose key passes a test
pub last_found : (test : List ℕ → Bool) (entries : List Entry) (found : Option Entry) → found ≡ find (λ (it : Entry). test (string_bytes it.key)) (reverse entries)
    → option_map (λ (it : Entry). string_bytes it.color) found ≡ last_color test (map entry_of entries)
last_found test entries found is =
    ap (option_map (λ (it : Entry). string_bytes it.color)) is
    ∙ sym (color_mapped (find (λ (it : Entry). test (string_bytes it.key)) (reverse entries)))
    ∙ ap (option_map (λ (it : List ℕ × List ℕ). it.1)) (sym (find_mapped entry_of (λ it. test it.0) (reverse entries)))
    ∙ ap (λ (es : List (List ℕ × List ℕ)). option_map (λ (it : List ℕ × List ℕ). it.1) (find (λ it. test it.0) es)) (sym (reverse_map entry_of entries))
