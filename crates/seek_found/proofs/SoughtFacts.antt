-- Patterns that are read one after another, and tests of them.
use Rattle.std.proofs.Common.{◌≡◌, ◌∙◌, ◌<◌, ◌+◌, ℕ, List, [], ◌∷◌, ◌++◌, Bor, Result, Ok, Err, inr, length, take, ap, subst, sym}
use Rattle.std.specs.Prelude.{IfErr}
use Rattle.std.specs.Result.{IsErrAnd}
use Rattle.std.proofs.Math.ListN.{get_or}
use Rattle.std.proofs.lemmas.List.{map-append, take_more}
use Rattle.seek_words.proofs.AsksFacts.{named_at}
use Rattle.program_parts.specs.Values.{texts_of}
use Rattle.seek_words.specs.declared.asked.Asked.{Asked}
use Rattle.seek_found.specs.BadPattern.{AreBadPatterns, IsBadPattern}
use Rattle.seek_found.specs.NamePattern.{IsPatternOf}
use Rattle.seek_found.specs.Sought.{ArePatternsOf}
use Rattle.seek_found.specs.declared.bad_pattern.BadPattern.{BadPattern}
use Rattle.seek_found.specs.declared.name_pattern.NamePattern.{NamePattern}

more_patterns : (asked : Asked) (texts : List (List ℕ)) (patterns : List NamePattern) (text : List ℕ) (pattern : NamePattern)
    → ArePatternsOf asked texts patterns → IsPatternOf asked text pattern → ArePatternsOf asked (texts ++ text ∷ []) (patterns ++ pattern ∷ [])
more_patterns asked [] [] text pattern are one = (one, tt)
more_patterns asked (t ∷ ts) (p ∷ ps) text pattern are one = (are.0, more_patterns asked ts ps text pattern are.1 one)
more_patterns asked [] (p ∷ ps) text pattern are one = absurd are
more_patterns asked (t ∷ ts) [] text pattern are one = absurd are

-- one more pattern
pub next_pattern : (asked : Asked) (texts : List (Bor (List ℕ))) (i : ℕ) (d : Bor (List ℕ)) (patterns : List NamePattern) (pattern : NamePattern) → i < length texts
    → ArePatternsOf asked (texts_of (take i texts)) patterns → IsPatternOf asked (get_or texts i d).now pattern → ArePatternsOf asked (texts_of (take (i + 1) texts)) (patterns ++ pattern ∷ [])
next_pattern asked texts i d patterns pattern below so_far one =
    subst (λ (ts : List (List ℕ)). ArePatternsOf asked ts (patterns ++ pattern ∷ []))
    (sym (ap texts_of (take_more texts i d below) ∙ map-append (λ it. it.now) (take i texts) (get_or texts i d ∷ [])))
    (more_patterns asked (texts_of (take i texts)) patterns (get_or texts i d).now pattern so_far one)

-- a rejected pattern is one of them
pub bad_at : (asked : Asked) (texts : List (Bor (List ℕ))) (i : ℕ) (d : Bor (List ℕ)) (bad : BadPattern) → i < length texts → IsBadPattern asked (get_or texts i d).now bad → AreBadPatterns asked (texts_of texts) bad
bad_at asked texts i d bad below is = inr ((get_or texts i d).now, named_at texts i d below, is)

-- the facts of an error are those of the returned one
pub returned : {X E : Type 0} (P : E → Type 0) (result : Result X E) (e : E) → IsErrAnd result (λ it. it ≡ e) → P e → IfErr result P
returned P (Ok x) e is known = tt
returned P (Err it) e is known = subst P (sym is) known
