-- Whether patterns match, computed, and the patterns of several texts.
use Rattle.std.proofs.Common.{◌≡◌, ◌∙◌, ◌<◌, ◌+◌, ℕ, Bool, true, false, List, [], ◌∷◌, Option, None, Some, length, drop, ap, append_assoc, sym, refl}
use Rattle.std.proofs.Math.ListN.{get_or}
use Rattle.std.proofs.lemmas.List.{drop_more}
use Rattle.std.specs.Prelude.{IsTrue, ◌↔◌, if◌then◌else◌}
use Rattle.jwalk_ignore_rules.specs.Rules.Matching.{matches}
use Rattle.jwalk_ignore_rules.specs.Pattern.{Pattern, Matches, decision_of}
use Rattle.jwalk_ignore_rules.specs.Rules.{LastMatch, Says}
use Rattle.jwalk_ignore_rules.specs.declared.rules.decision.Decision.TheVariants.{Unsaid}
use Rattle.jwalk_ignore_rules.proofs.MatchingFacts.{says_computed}
use Rattle.seek_found.specs.Glob.{added, patterns_in, patterns_of}

-- the decision says whether the pattern matches
said_match : (keeps m : Bool) → decision_of keeps ≡ (if m then decision_of keeps else Unsaid) → m ≡ true
said_match keeps true is = refl
said_match true false is = absurd (cc)
said_match false false is = absurd (cc)

said_none : (keeps m : Bool) → Unsaid ≡ (if m then decision_of keeps else Unsaid) → m ≡ false
said_none keeps false is = refl
said_none true true is = absurd (cc)
said_none false true is = absurd (cc)

module _ (p : Pattern) (path : List ℕ) (is_dir : Bool) where
  says_match : (keeps : Bool) → LastMatch (p ∷ []) path is_dir keeps → Says (p ∷ []) path is_dir (decision_of keeps)
  says_match true last = last
  says_match false last = last

  -- the answer of a call is the computed one
  pub matches_computed : (b : Bool) → (IsTrue b ↔ Matches p path is_dir) → b ≡ matches p path is_dir
  matches_computed true told =
      sym (said_match p.keeps (matches p path is_dir)
      (says_computed (p ∷ []) path is_dir (decision_of p.keeps) (says_match p.keeps ([], p, [], refl, told.0 refl, refl, tt))))
  matches_computed false told =
      sym (said_none p.keeps (matches p path is_dir)
      (says_computed (p ∷ []) path is_dir Unsaid ((λ hit. let no : false ≡ true = told.1 hit in absurd (cc)), tt)))

added_in_turn : (one two three : Option (List Pattern)) → added one (added two three) ≡ added (added one two) three
added_in_turn None two three = refl
added_in_turn (Some one) None three = refl
added_in_turn (Some one) (Some two) None = refl
added_in_turn (Some one) (Some two) (Some three) = ap (λ (l : List Pattern). Some l) (sym (append_assoc one two three))

-- the patterns of one more text
pub next_text : (ignores_case : Bool) (texts : List (List ℕ)) (at : ℕ) (d : List ℕ) (before after : Option (List Pattern)) → at < length texts
    → after ≡ added before (patterns_of ignores_case (get_or texts at d)) → added before (patterns_in ignores_case (drop at texts)) ≡ added after (patterns_in ignores_case (drop (at + 1) texts))
next_text ignores_case texts at d before after below is =
    ap (λ (l : List (List ℕ)). added before (patterns_in ignores_case l)) (drop_more texts at d below)
    ∙ added_in_turn before (patterns_of ignores_case (get_or texts at d)) (patterns_in ignores_case (drop (at + 1) texts))
    ∙ ap (λ (it : Option (List Pattern)). added it (patterns_in ignores_case (drop (at + 1) texts))) (sym is)
