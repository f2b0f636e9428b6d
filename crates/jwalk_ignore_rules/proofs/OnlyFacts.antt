-- Patterns that take one name alone.
use Rattle.std.proofs.Common.{◌≡◌, ◌∙◌, ◌⊎◌, inl, inr, ℕ, List, [], ◌∷◌, ◌++◌, map, ap, subst, refl, sym, Option, Some, None, Result, Ok, Err}
use Rattle.std.specs.Prelude.{IfOk, IfSome}
use Rattle.std.proofs.lemmas.Bool.Decides.{Decides-eqb}
use Rattle.jwalk_ignore_rules.specs.Pattern.ByteTest.{ByteTest, Byte}
use Rattle.jwalk_ignore_rules.specs.Pattern.Glob.{EachEndsWith, IsNamed, TakesByte, TakesOnly}
use Rattle.jwalk_ignore_rules.specs.Pattern.NamePattern.{LastByteIs}
use Rattle.jwalk_ignore_rules.specs.Pattern.Names.{names_of}
use Rattle.jwalk_ignore_rules.specs.Pattern.{EndsWith, Pattern}
use Rattle.jwalk_ignore_rules.specs.declared.pattern.part.Part.{Part}
use Rattle.jwalk_ignore_rules.specs.declared.pattern.part.Part.TheVariants.{One}
use Rattle.jwalk_ignore_rules.proofs.FitsFacts.{last_taken}
use Rattle.jwalk_ignore_rules.proofs.NamesFacts.{last_byte, same_last}

-- a part that takes one byte
abbrev pub plain : ℕ → Part ByteTest
plain byte = One (Byte byte)

-- bytes take themselves alone
plain_only : (name : List ℕ) → TakesOnly (map plain name) name
plain_only [] other fits = fits
plain_only (byte ∷ name) other (item, rest, is, fit, fits) =
    is ∙ ap (λ (b : ℕ). b ∷ rest) (sym ((Decides-eqb byte item).0 fit)) ∙ ap (λ (bytes : List ℕ). byte ∷ bytes) (plain_only name rest fits)

-- so does a pattern that has no other parts
pub only_plain : (glob : List (Part ByteTest)) (name : List ℕ) → glob ≡ map plain name → TakesOnly glob name
only_plain glob name is = subst (λ (g : List (Part ByteTest)). TakesOnly g name) (sym is) (plain_only name)

module _ {X : Type 0} where
  -- a list is empty, or it has a last item
  abbrev pub ByLast : List X → Type 0
  ByLast xs = (xs ≡ []) ⊎ ((front : List X) × (last : X) × (xs ≡ front ++ last ∷ []))

  one_more : (x : X) (xs : List X) → ByLast xs → ByLast (x ∷ xs)
  one_more x xs (inl none) = inr ([], x, ap (λ (ys : List X). x ∷ ys) none)
  one_more x xs (inr (front, last, is)) = inr (x ∷ front, last, ap (λ (ys : List X). x ∷ ys) is)

  pub by_last : (xs : List X) → ByLast xs
  by_last [] = inl refl
  by_last (x ∷ xs) = one_more x xs (by_last xs)

-- where all names that fit the last part end with one byte, so do the paths that fit
pub ends_with_byte : (parts front : List (Part (List (Part ByteTest)))) (glob : List (Part ByteTest)) (byte : ℕ) → parts ≡ front ++ One glob ∷ [] → EachEndsWith glob byte → LastByteIs parts byte
ends_with_byte parts front glob byte is each before last other fits =
    let (names, (name, at_end, fit)) = last_taken IsNamed parts front glob is (names_of (before ++ last ∷ [])) fits in
    let own = each name fit in
    let end = last_byte (before ++ last ∷ []) before last refl other names name at_end in
    same_last end.0 own.0 last byte (sym end.1 ∙ own.1)

-- a pattern whose last part is a byte takes names that end with it
pub each_ends_with : (glob front : List (Part ByteTest)) (byte : ℕ) → glob ≡ front ++ One (Byte byte) ∷ [] → EachEndsWith glob byte
each_ends_with glob front byte is name fits =
    let (before, (last, at_end, fit)) = last_taken TakesByte glob front (Byte byte) is name fits in
    (before, at_end ∙ ap (λ (b : ℕ). before ++ b ∷ []) (sym ((Decides-eqb byte last).0 fit)))

-- where the last part takes one name alone, all paths that fit end with it
pub ends_with : (p : Pattern) (front : List (Part (List (Part ByteTest)))) (glob : List (Part ByteTest)) (name : List ℕ) → p.parts ≡ front ++ One glob ∷ [] → TakesOnly glob name → EndsWith p name
ends_with p front glob name is only path is_dir (dirs, fits) =
    let (before, (last, at_end, fit)) = last_taken IsNamed p.parts front glob is (names_of path) fits in
    (before, at_end ∙ ap (λ (n : List ℕ). before ++ n ∷ []) (only last fit))

-- what holds of a name holds of it where there is one
pub on_some : {T F : Type 0} (P Q : T → Type 0) → ((x : T) → P x → Q x) → (r : Result (Option T) F) → IfOk r (λ o. IfSome o P) → IfOk r (λ o. IfSome o Q)
on_some P Q more (Ok (Some x)) holds = more x holds
on_some P Q more (Ok None) holds = tt
on_some P Q more (Err e) holds = tt
