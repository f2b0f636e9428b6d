-- Lists that are gone over and filtered.
use Rattle.std.proofs.Common.{◌≡◌, ◌∙◌, Bool, true, false, cond, List, [], ◌∷◌, ◌++◌, map, Option, Some, None, ap, refl, sym}
use Rattle.std.specs.Prelude.{find, fold, option_map}
use Rattle.std.specs.List.{filter}
use Rattle.std.proofs.lemmas.List.{map-append}

-- what is gone over by a view is the view of what is gone over
pub fold_by : {M N X Y : Type 0} (step : M → X → M) (other : N → Y → N) (view : M → N) (mark : X → Y)
    → ((m : M) (x : X) → other (view m) (mark x) ≡ view (step m x)) → (m : M) (xs : List X) → fold other (view m) (map mark xs) ≡ view (fold step m xs)
fold_by step other view mark same m [] = refl
fold_by step other view mark same m (x ∷ xs) =
    ap (λ (n : _). fold other n (map mark xs)) (same m x) ∙ fold_by step other view mark same (step m x) xs

filter_one : {X Y : Type 0} (mark : X → Y) (test : Y → Bool) (own : X → Bool) (x : X) (xs : List X) (b : Bool) → test (mark x) ≡ b → own x ≡ b
    → filter test (map mark xs) ≡ map mark (filter own xs) → filter test (mark x ∷ map mark xs) ≡ map mark (filter own (x ∷ xs))
filter_one mark test own x xs true is same rest =
    ap (λ (b : Bool). cond b (mark x ∷ filter test (map mark xs)) (filter test (map mark xs))) is ∙ ap (λ (ys : _). mark x ∷ ys) rest
    ∙ sym (ap (λ (b : Bool). map mark (cond b (x ∷ filter own xs) (filter own xs))) same)
filter_one mark test own x xs false is same rest =
    ap (λ (b : Bool). cond b (mark x ∷ filter test (map mark xs)) (filter test (map mark xs))) is ∙ rest
    ∙ sym (ap (λ (b : Bool). map mark (cond b (x ∷ filter own xs) (filter own xs))) same)

-- a test that a view doesn't change leaves the view of what it leaves
pub filter_by : {X Y : Type 0} (mark : X → Y) (test : Y → Bool) (own : X → Bool) → ((x : X) → test (mark x) ≡ own x) → (xs : List X)
    → filter test (map mark xs) ≡ map mark (filter own xs)
filter_by mark test own same [] = refl
filter_by mark test own same (x ∷ xs) = filter_one mark test own x xs (own x) (same x) refl (filter_by mark test own same xs)

left_one : {X : Type 0} (test : X → Bool) (x : X) (xs : List X) → test x ≡ true → filter test xs ≡ xs → filter test (x ∷ xs) ≡ x ∷ xs
left_one test x xs is rest = ap (λ (b : Bool). cond b (x ∷ filter test xs) (filter test xs)) is ∙ ap (λ (ys : _). x ∷ ys) rest

-- of a list that a test is always true of nothing is dropped
pub filter_none : {X : Type 0} (test : X → Bool) → ((x : X) → test x ≡ true) → (xs : List X) → filter test xs ≡ xs
filter_none test always [] = refl
filter_none test always (x ∷ xs) = left_one test x xs (always x) (filter_none test always xs)

-- one item more is gone over
pub fold_more : {M X Y : Type 0} (step : M → Y → M) (mark : X → Y) (m : M) (xs : List X) (x : X) → fold step m (map mark (xs ++ x ∷ [])) ≡ step (fold step m (map mark xs)) (mark x)
fold_more step mark m [] x = refl
fold_more step mark m (y ∷ xs) x = fold_more step mark (step m (mark y)) xs x

filter_seam : {Y : Type 0} (test : Y → Bool) (y : Y) (ys zs : List Y) (b : Bool) → filter test (ys ++ zs) ≡ filter test ys ++ filter test zs
    → cond b (y ∷ filter test (ys ++ zs)) (filter test (ys ++ zs)) ≡ cond b (y ∷ filter test ys) (filter test ys) ++ filter test zs
filter_seam test y ys zs true rest = ap (λ (l : _). y ∷ l) rest
filter_seam test y ys zs false rest = rest

-- one item more is filtered
pub filter_more : {X Y : Type 0} (test : Y → Bool) (mark : X → Y) (xs : List X) (x : X) → filter test (map mark (xs ++ x ∷ [])) ≡ filter test (map mark xs) ++ filter test (mark x ∷ [])
filter_more test mark [] x = refl
filter_more test mark (y ∷ xs) x =
    ap (λ (l : _). filter test (mark y ∷ l)) (map-append mark xs (x ∷ []))
    ∙ filter_seam test (mark y) (map mark xs) (mark x ∷ []) (test (mark y)) (sym (ap (filter test) (map-append mark xs (x ∷ []))) ∙ filter_more test mark xs x)

found_or : {X Y : Type 0} (view : X → Y) (b : Bool) (x : X) (r : Option X) → cond b (Some (view x)) (option_map view r) ≡ option_map view (cond b (Some x) r)
found_or view true x r = refl
found_or view false x r = refl

-- the first of what a view shows that passes a test
pub find-map : {X Y : Type 0} (view : X → Y) (test : Y → Bool) (xs : List X) → find test (map view xs) ≡ option_map view (find (λ x. test (view x)) xs)
find-map view test [] = refl
find-map view test (x ∷ xs) =
    ap (λ (r : Option _). cond (test (view x)) (Some (view x)) r) (find-map view test xs) ∙ found_or view (test (view x)) x (find (λ y. test (view y)) xs)

-- what two views show, one after the other
pub option_map-twice : {X Y Z : Type 0} (first : X → Y) (second : Y → Z) (r : Option X) → option_map (λ x. second (first x)) r ≡ option_map second (option_map first r)
option_map-twice first second None = refl
option_map-twice first second (Some x) = refl
