-- Facts about lists whose last item comes first, and about options.
use Rattle.std.proofs.Common.{◌≡◌, ◌∙◌, ◌-◌, ◌<◌, List, [], ◌∷◌, ◌++◌, map, reverse, length, drop, get_or, slice_get, refl, sym, ap, arith, Option, Some, None, is_some}
use Rattle.std.specs.Prelude.{option_map}
use Rattle.std.proofs.lemmas.List.{reverse-append, get_or-reverse, length-reverse}
use Rattle.std.proofs.lemmas.Option.{none-some, slice_get_within, slice_get-get_or, get_or_from_slice_get}

-- the last is the first of the reversed list
pub reverse-push : {X : Type 0} (xs : List X) (x : X) → reverse (xs ++ x ∷ []) ≡ x ∷ reverse xs
reverse-push xs x = reverse-append xs (x ∷ [])

-- and its view is the first of the list's views
pub popped : {X Y : Type 0} (f : X → Y) (stack left : List X) (x : X) → stack ≡ left ++ x ∷ [] → map f (reverse stack) ≡ f x ∷ map f (reverse left)
popped f stack left x is = ap (λ l. map f (reverse l)) is ∙ ap (map f) (reverse-push left x)

first_is : {X Y : Type 0} (f : X → Y) (xs : List X) (x : X) → 0 < length xs → get_or xs 0 x ≡ x → map f xs ≡ f x ∷ drop 1 (map f xs)
first_is f [] x some is = absurd (omega arith)
first_is f (y ∷ xs) x some is = ap (λ z. f z ∷ map f xs) is

-- so it is where the last is looked at
pub last_first : {X Y : Type 0} (f : X → Y) (stack : List X) (x : X) → Some x ≡ slice_get stack (length stack - 1) → map f (reverse stack) ≡ f x ∷ drop 1 (map f (reverse stack))
last_first f stack x is =
    let within : length stack - 1 < length stack = slice_get_within stack (length stack - 1) x (sym is) in
    let some : 0 < length stack = omega arith in
    let last : length stack - 1 - 0 ≡ length stack - 1 = omega arith in
    first_is f (reverse stack) x (omega (arith, length-reverse stack)) (get_or-reverse stack 0 x some ∙ ap (λ i. get_or stack i x) last ∙ get_or_from_slice_get stack (length stack - 1) x x (sym is))

-- and where there is none, there is nothing
pub no_last : {X : Type 0} (stack : List X) → None ≡ slice_get stack (length stack - 1) → stack ≡ []
no_last [] none = refl
no_last (x ∷ stack) none = absurd (none-some _ (none ∙ slice_get-get_or (x ∷ stack) (length (x ∷ stack) - 1) x (omega arith)))

pub is_some-map : {X Y : Type 0} (f : X → Y) (o : Option X) → is_some (option_map f o) ≡ is_some o
is_some-map f None = refl
is_some-map f (Some x) = refl
