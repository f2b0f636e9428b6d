-- Lists of names by their last element, and the test whether two are the same.
use Rattle.std.proofs.Common.{◌≡◌, ◌≢◌, ℕ, Bool, true, false, ◌&&◌, List, [], ◌∷◌, ◌++◌, refl, sym, ap, subst, ◌∙◌, ◌⊎◌, inl, inr, append_assoc, append-nil}
use Rattle.std.proofs.lemmas.Bool.{false≢true}
use Rattle.std.specs.Str.{bytes_eq}
use Rattle.std.proofs.lemmas.Slice.Eq.{bytes_eq-Decides}
use Rattle.jwalk_model.specs.Tree.{Place, above, same_place}

-- what holds of the root, and of a child if it holds of its holder, holds of each place
pub by_last : (P : Place → Type 0) → P [] → ((front : Place) (name : List ℕ) → P front → P (front ++ name ∷ [])) → (place : Place) → P place
by_last P none more place = go [] place none
  where
    go : (done left : Place) → P done → P (done ++ left)
    go done [] h = subst P (sym (append-nil done)) h
    go done (name ∷ left) h = subst P (append_assoc done (name ∷ []) left) (go (done ++ name ∷ []) left (more done name h))

pub above-append : (front : Place) (name : List ℕ) → above (front ++ name ∷ []) ≡ front
above-append [] name = refl
above-append (m ∷ []) name = refl
above-append (m ∷ k ∷ ks) name = ap (λ (ns : Place). m ∷ ns) (above-append (k ∷ ks) name)

abbrev last_name : Place → List ℕ
last_name [] = []
last_name (m ∷ []) = m
last_name (m ∷ k ∷ ks) = last_name (k ∷ ks)

last_name-append : (front : Place) (name : List ℕ) → last_name (front ++ name ∷ []) ≡ name
last_name-append [] name = refl
last_name-append (m ∷ []) name = refl
last_name-append (m ∷ k ∷ ks) name = last_name-append (k ∷ ks) name

pub same_front : (front other : Place) (name last : List ℕ) → front ++ name ∷ [] ≡ other ++ last ∷ [] → front ≡ other
same_front front other name last e = sym (above-append front name) ∙ ap above e ∙ above-append other last

pub same_last : (front other : Place) (name last : List ℕ) → front ++ name ∷ [] ≡ other ++ last ∷ [] → name ≡ last
same_last front other name last e = sym (last_name-append front name) ∙ ap last_name e ∙ last_name-append other last

pub longer_place : (front : Place) (name : List ℕ) → front ++ name ∷ [] ≢ front
longer_place [] name e = cc
longer_place (m ∷ ms) name e = let t : ms ++ name ∷ [] ≡ ms = cc in longer_place ms name t

pub same_place-refl : (place : Place) → same_place place place ≡ true
same_place-refl [] = refl
same_place-refl (n ∷ ns) = ap (λ b. b && same_place ns ns) ((bytes_eq-Decides n n).1 refl) ∙ same_place-refl ns

pub same_place-true : (a b : Place) → same_place a b ≡ true → a ≡ b
same_place-true [] [] h = refl
same_place-true [] (m ∷ ms) h = cc
same_place-true (n ∷ ns) [] h = cc
same_place-true (n ∷ ns) (m ∷ ms) h = by (bytes_eq n m) refl (same_place-true ns ms)
  where
    by : (b : Bool) → bytes_eq n m ≡ b → (same_place ns ms ≡ true → ns ≡ ms) → n ∷ ns ≡ m ∷ ms
    by true e rest = let tails : ns ≡ ms = rest (sym (ap (λ b. b && same_place ns ms) e) ∙ h) in let heads : n ≡ m = (bytes_eq-Decides n m).0 e in cc
    by false e rest = absurd (false≢true (sym (ap (λ b. b && same_place ns ms) e) ∙ h))

pub same_place-false : (a b : Place) → a ≢ b → same_place a b ≡ false
same_place-false a b ne = by (same_place a b) refl
  where
    by : (r : Bool) → same_place a b ≡ r → same_place a b ≡ false
    by true e = absurd (ne (same_place-true a b e))
    by false e = e

pub place_cases : (a b : Place) → (a ≡ b) ⊎ (a ≢ b)
place_cases a b = by (same_place a b) refl
  where
    by : (r : Bool) → same_place a b ≡ r → (a ≡ b) ⊎ (a ≢ b)
    by true e = inl (same_place-true a b e)
    by false e = inr (λ h. false≢true (sym e ∙ ap (λ c. same_place a c) (sym h) ∙ same_place-refl a))

pub name_cases : (a b : List ℕ) → (a ≡ b) ⊎ (a ≢ b)
name_cases a b = by (bytes_eq a b) refl
  where
    by : (r : Bool) → bytes_eq a b ≡ r → (a ≡ b) ⊎ (a ≢ b)
    by true e = inl ((bytes_eq-Decides a b).0 e)
    by false e = inr (λ h. false≢true (sym e ∙ (bytes_eq-Decides a b).1 h))
