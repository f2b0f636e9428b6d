-- What is computed of patterns is what the relations say.
use Rattle.std.proofs.Common.{◌≡◌, ◌∙◌, ℕ, zero, suc, Bool, true, false, List, [], ◌∷◌, ◌++◌, drop, ap, sym, refl}
use Rattle.std.specs.Prelude.{IsTrue, ◌&&◌, ◌||◌, not, if◌then◌else◌}
use Rattle.jwalk_ignore_rules.specs.Pattern.ByteTest.{fits}
use Rattle.jwalk_ignore_rules.specs.Pattern.Fits.{Fits}
use Rattle.jwalk_ignore_rules.specs.Pattern.Glob.{TakesByte, IsNamed}
use Rattle.jwalk_ignore_rules.specs.Rules.Matching.{some_rest, takes_first, is_nil, fit, is_named, matches, or_else, pattern_says, patterns_say}
use Rattle.jwalk_ignore_rules.specs.Pattern.Names.{names_of}
use Rattle.jwalk_ignore_rules.specs.Pattern.{Pattern, Matches, decision_of}
use Rattle.jwalk_ignore_rules.specs.Rules.{NoneMatches, LastMatch, Says}
use Rattle.jwalk_ignore_rules.specs.declared.rules.decision.Decision.{Decision}
use Rattle.jwalk_ignore_rules.specs.declared.rules.decision.Decision.TheVariants.{Ignored, Kept, Unsaid}
use Rattle.jwalk_ignore_rules.specs.declared.pattern.part.Part.{Part}
use Rattle.jwalk_ignore_rules.specs.declared.pattern.part.Part.TheVariants.{Many, One}

-- one of two tests is true
first_true : (a b : Bool) → a ≡ true → (a || b) ≡ true
first_true a b is = ap (λ (x : Bool). x || b) is

second_true : (a b : Bool) → b ≡ true → (a || b) ≡ true
second_true true b is = refl
second_true false b is = is

-- both are
both_true : (a b : Bool) → a ≡ true → b ≡ true → (a && b) ≡ true
both_true a b is also = ap (λ (x : Bool). x && b) is ∙ also

left_of_both : (a b : Bool) → (a && b) ≡ true → a ≡ true
left_of_both true b is = refl
left_of_both false b is = is

right_of_both : (a b : Bool) → (a && b) ≡ true → b ≡ true
right_of_both true b is = is
right_of_both false b is = absurd (cc)

module _ {X : Type 0} (test : List X → Bool) where
  -- a test that is true of what is left is true of some rest
  rest_found : (n : ℕ) (items : List X) → test (drop n items) ≡ true → some_rest test items ≡ true
  rest_found zero [] is = is
  rest_found (suc n) [] is = is
  rest_found zero (x ∷ xs) is = first_true (test (x ∷ xs)) (some_rest test xs) is
  rest_found (suc n) (x ∷ xs) is = second_true (test (x ∷ xs)) (some_rest test xs) (rest_found n xs is)

  by_first : (b : Bool) (x : X) (xs : List X) → test (x ∷ xs) ≡ b → ((some_rest test xs ≡ true) → (n : ℕ) × (test (drop n xs) ≡ true))
      → (b || some_rest test xs) ≡ true → (n : ℕ) × (test (drop n (x ∷ xs)) ≡ true)
  by_first true x xs first later is = (0, first)
  by_first false x xs first later is = let found = later is in (suc found.0, found.1)

  -- where the rest begins of which a test is true
  rest_at : (items : List X) → some_rest test items ≡ true → (n : ℕ) × (test (drop n items) ≡ true)
  rest_at [] is = (0, is)
  rest_at (x ∷ xs) is = by_first (test (x ∷ xs)) x xs refl (rest_at xs) is

module _ {T X : Type 0} (takes : T → X → Type 0) (test : T → X → Bool) where
  -- items that fit are computed to fit
  to_fit : ((t : T) (x : X) → takes t x → test t x ≡ true) → (parts : List (Part T)) (items : List X) → Fits takes parts items → fit test parts items ≡ true
  to_fit to [] items h = ap is_nil h
  to_fit to (Many ∷ parts) items h = rest_found (fit test parts) h.0 items (to_fit to parts (drop h.0 items) h.1)
  to_fit to (One t ∷ parts) items h =
      ap (takes_first (test t) (fit test parts)) h.2 ∙ both_true (test t h.0) (fit test parts h.1) (to t h.0 h.3) (to_fit to parts h.1 h.4)

  -- items that are computed to fit do
  from_fit : ((t : T) (x : X) → test t x ≡ true → takes t x) → (parts : List (Part T)) (items : List X) → fit test parts items ≡ true → Fits takes parts items
  from_fit back [] [] is = refl
  from_fit back [] (x ∷ xs) is = absurd (cc)
  from_fit back (Many ∷ parts) items is = let r = rest_at (fit test parts) items is in (r.0, from_fit back parts (drop r.0 items) r.1)
  from_fit back (One t ∷ parts) [] is = absurd (cc)
  from_fit back (One t ∷ parts) (x ∷ xs) is =
      (x, xs, refl, back t x (left_of_both (test t x) (fit test parts xs) is), from_fit back parts xs (right_of_both (test t x) (fit test parts xs) is))

-- what follows of a test, computed
implied : (a b : Bool) → (IsTrue a → IsTrue b) → (not a || b) ≡ true
implied true b h = h refl
implied false b h = refl

implies : (a b : Bool) → (not a || b) ≡ true → IsTrue a → IsTrue b
implies true b is a = is
implies false b is a = absurd (cc)

module _ (path : List ℕ) (is_dir : Bool) where
  to_matches : (p : Pattern) → Matches p path is_dir → matches p path is_dir ≡ true
  to_matches p h = both_true (not p.only_dirs || is_dir) (fit is_named p.parts (names_of path)) (implied p.only_dirs is_dir h.0)
      (to_fit IsNamed is_named (λ glob name. to_fit TakesByte fits (λ t x taken. taken) glob name) p.parts (names_of path) h.1)

  from_matches : (p : Pattern) → matches p path is_dir ≡ true → Matches p path is_dir
  from_matches p is = (
    implies p.only_dirs is_dir (left_of_both (not p.only_dirs || is_dir) (fit is_named p.parts (names_of path)) is),
    from_fit IsNamed is_named (λ glob name. from_fit TakesByte fits (λ t x taken. taken) glob name) p.parts (names_of path)
        (right_of_both (not p.only_dirs || is_dir) (fit is_named p.parts (names_of path)) is),
  )

  unmatched : (p : Pattern) (b : Bool) → matches p path is_dir ≡ b → (Matches p path is_dir → ⊥) → pattern_says p path is_dir ≡ Unsaid
  unmatched p true is never = absurd (never (from_matches p is))
  unmatched p false is never = ap (λ (b : Bool). if b then decision_of p.keeps else Unsaid) is

  none_says : (ps : List Pattern) → NoneMatches ps path is_dir → patterns_say ps path is_dir ≡ Unsaid
  none_says [] h = refl
  none_says (p ∷ ps) h = ap (λ (x : Decision). or_else x (pattern_says p path is_dir)) (none_says ps h.1) ∙ unmatched p (matches p path is_dir) refl h.0

  said_first : (keeps : Bool) (next : Decision) → or_else (decision_of keeps) next ≡ decision_of keeps
  said_first true next = refl
  said_first false next = refl

  last_says : (before : List Pattern) (p : Pattern) (behind : List Pattern) → Matches p path is_dir → NoneMatches behind path is_dir
      → patterns_say (before ++ p ∷ behind) path is_dir ≡ decision_of p.keeps
  last_says [] p behind hit none =
      ap (λ (x : Decision). or_else x (pattern_says p path is_dir)) (none_says behind none)
      ∙ ap (λ (b : Bool). if b then decision_of p.keeps else Unsaid) (to_matches p hit)
  last_says (q ∷ before) p behind hit none =
      ap (λ (x : Decision). or_else x (pattern_says q path is_dir)) (last_says before p behind hit none) ∙ said_first p.keeps (pattern_says q path is_dir)

  -- what the last match says is what is computed
  last_computed : (patterns : List Pattern) (keeps : Bool) → LastMatch patterns path is_dir keeps → decision_of keeps ≡ patterns_say patterns path is_dir
  last_computed patterns keeps h =
      ap decision_of (sym h.5) ∙ sym (last_says h.0 h.1 h.2 h.4 h.6) ∙ ap (λ (ps : List Pattern). patterns_say ps path is_dir) (sym h.3)

-- what patterns say is what is computed
pub says_computed : (patterns : List Pattern) (path : List ℕ) (is_dir : Bool) (decision : Decision) → Says patterns path is_dir decision → decision ≡ patterns_say patterns path is_dir
says_computed patterns path is_dir Ignored says = last_computed path is_dir patterns false says
says_computed patterns path is_dir Kept says = last_computed path is_dir patterns true says
says_computed patterns path is_dir Unsaid says = sym (none_says path is_dir patterns says)
