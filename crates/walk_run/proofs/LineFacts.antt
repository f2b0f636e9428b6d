-- Lines one after another.
use Rattle.std.proofs.Common.{◌≡◌, ℕ, Bool, true, false, ◌&&◌, List, [], ◌∷◌, ◌++◌, Option, Some, None, map, append_assoc, append-nil, sym, ◌∙◌, ap, refl}
use Rattle.std.specs.Io.KnownBytes.{Appends, append_known}
use Rattle.std.specs.List.{list_all}
use Rattle.std.proofs.lemmas.List.Folds.{list_all-append}
use Rattle.jwalk_model.specs.Entry.{Item}
use Rattle.jwalk_model.specs.Lines.{line_of, lines_of}

-- one text is written and then another
appends_then : (a b c : Option (List ℕ)) (xs ys : List ℕ) → Appends a b xs → Appends b c ys → Appends a c (xs ++ ys)
appends_then None b c xs ys first second = tt
appends_then (Some ws) None c xs ys first second = absurd first
appends_then (Some ws) (Some vs) None xs ys first second = absurd second
appends_then (Some ws) (Some vs) (Some us) xs ys first second = second ∙ (ap (λ l. l ++ ys) first ∙ append_assoc ws xs ys)

-- nothing is written where nothing is gathered
pub nothing_gathered : (old : Option (List ℕ)) (gathered : List ℕ) → gathered ≡ [] → Appends old (append_known old gathered) []
nothing_gathered None gathered none = tt
nothing_gathered (Some ws) gathered none = ap (λ l. ws ++ l) none

-- what was gathered is written
pub rest_written : (old mid new : Option (List ℕ)) (gathered text : List ℕ) → Appends old (append_known mid gathered) text → Appends mid new gathered → Appends old new text
rest_written None mid new gathered text first rest = tt
rest_written (Some ws) None new gathered text first rest = absurd first
rest_written (Some ws) (Some vs) None gathered text first rest = absurd rest
rest_written (Some ws) (Some vs) (Some us) gathered text first rest = rest ∙ first

module _ {R E X : Type 0} (view : X → Item R E) where
  lines_more : (xs : List X) (x : X) → lines_of (map view (xs ++ x ∷ [])) ≡ lines_of (map view xs) ++ line_of (view x)
  lines_more [] x = append-nil (line_of (view x))
  lines_more (y ∷ xs) x = ap (λ l. line_of (view y) ++ l) (lines_more xs x) ∙ sym (append_assoc (line_of (view y)) (lines_of (map view xs)) (line_of (view x)))

  -- a line is written after others
  pub line_after : (a b c : Option (List ℕ)) (xs : List X) (x : X) → Appends a b (lines_of (map view xs)) → Appends b c (line_of (view x)) → Appends a c (lines_of (map view (xs ++ x ∷ [])))
  line_after a b c xs x before more = rw lines_more (appends_then a b c (lines_of (map view xs)) (line_of (view x)) before more)

-- one more element is tested
pub all_after : {X : Type 0} (p : X → Bool) (xs : List X) (x : X) (all one : Bool) → all ≡ list_all p xs → one ≡ p x → (all && one) ≡ list_all p (xs ++ x ∷ [])
all_after p xs x all one all_is one_is = ap (λ b. b && one) all_is ∙ (ap (λ b. list_all p xs && b) (one_is ∙ and_true (p x)) ∙ sym (list_all-append p xs (x ∷ [])))
  where
    and_true : (b : Bool) → b ≡ (b && true)
    and_true true = refl
    and_true false = refl
