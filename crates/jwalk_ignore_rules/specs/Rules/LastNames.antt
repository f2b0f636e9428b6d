-- Which patterns match only paths that end with one name.
use Rattle.std.specs.Prelude.{◌≡◌, ◌<◌, ◌≤◌, ◌+◌, ℕ, Bool, List, [], ◌∷◌, ◌++◌, length, get_or, Option, Some, None, bytes_eq, if◌then◌else◌}
use Rattle.std.specs.BTreeMap.{get_by}
use Rattle.std.specs.Cmp.Lexicographic.{slice_cmp}
use Rattle.std.specs.Ordering.{nat_cmp}
use Rattle.std.specs.declared.vec.Vec.{Vec}
use Rattle.jwalk_ignore_rules.specs.Pattern.{Pattern, EndsWith, Matches}
use Rattle.jwalk_ignore_rules.specs.declared.rules.last_names.LastNames.{LastNames}

-- the pattern at a place matches a path
abbrev pub MatchesAt : List Pattern → List ℕ → Bool → ℕ → Pattern → Type 0
MatchesAt patterns path is_dir place pattern =
    (front : List Pattern) × (behind : List Pattern) × (patterns ≡ front ++ pattern ∷ behind) × (length front ≡ place) × Matches pattern path is_dir

-- no pattern from a place on matches a path
abbrev pub NoneFrom : List Pattern → List ℕ → Bool → ℕ → Type 0
NoneFrom patterns path is_dir from = (place : ℕ) → (pattern : Pattern) → from ≤ place → MatchesAt patterns path is_dir place pattern → ⊥

-- the pattern at a place is the last that matches a path
abbrev pub IsLastMatch : List Pattern → List ℕ → Bool → Pattern → Type 0
IsLastMatch patterns path is_dir pattern = (place : ℕ) × MatchesAt patterns path is_dir place pattern × NoneFrom patterns path is_dir (place + 1)

module _ {A : Type 0} where
  -- how many patterns there are up to the last that is listed by a name
  abbrev pub count_of : LastNames A → List ℕ → Option ℕ
  count_of names name = get_by (λ key. slice_cmp nat_cmp name key.items) names.counts

  -- nothing is listed
  abbrev pub NothingListed : LastNames A → Type 0
  NothingListed names = ((name : List ℕ) → count_of names name ≡ None) × (names.others.items ≡ [])

  -- all is listed as before
  abbrev pub IsSame : LastNames A → LastNames A → Type 0
  IsSame old new = ((name : List ℕ) → count_of new name ≡ count_of old name) × (new.others.items ≡ old.others.items)

  -- one place more is listed, by its name or among the others
  abbrev pub IsAdded : Option (Vec ℕ A) → ℕ → LastNames A → LastNames A → Type 0
  IsAdded (Some own) place old new =
      ((name : List ℕ) → count_of new name ≡ (if bytes_eq name own.items then Some (place + 1) else count_of old name)) × (new.others.items ≡ old.others.items)
  IsAdded None place old new = ((name : List ℕ) → count_of new name ≡ count_of old name) × (new.others.items ≡ old.others.items ++ place ∷ [])

  -- a place is among the others
  abbrev pub IsOther : LastNames A → ℕ → Type 0
  IsOther names place = (k : ℕ) × (k < length names.others.items) × (get_or names.others.items k 0 ≡ place)

  -- a pattern at a place is listed by a name with which its paths end
  abbrev pub IsNamedAt : LastNames A → Pattern → ℕ → Type 0
  IsNamedAt names pattern place = (name : List ℕ) × (count : ℕ) × EndsWith pattern name × (count_of names name ≡ Some count) × (place < count)

  -- a pattern at a place is among the others, or listed by a name: it can't be neither
  abbrev pub IsListed : LastNames A → Pattern → ℕ → Type 0
  IsListed names pattern place = (IsOther names place → ⊥) → (IsNamedAt names pattern place → ⊥) → ⊥

  -- each of these patterns is listed, and the others ascend, up to how many patterns there are
  abbrev pub IsIndexed : List Pattern → LastNames A → Type 0
  IsIndexed patterns names =
      ((front : List Pattern) → (pattern : Pattern) → (behind : List Pattern) → patterns ≡ front ++ pattern ∷ behind → IsListed names pattern (length front))
      × ((j k : ℕ) → j ≤ k → k < length names.others.items → get_or names.others.items j 0 ≤ get_or names.others.items k 0)
      × ((k : ℕ) → k < length names.others.items → get_or names.others.items k 0 ≤ length patterns)

  -- whatever matches a path from a place on can't be outside of the others
  abbrev pub OthersMatch : List Pattern → LastNames A → List ℕ → Bool → ℕ → Type 0
  OthersMatch patterns names path is_dir from = (place : ℕ) → (pattern : Pattern) → from ≤ place → MatchesAt patterns path is_dir place pattern → (IsOther names place → ⊥) → ⊥
