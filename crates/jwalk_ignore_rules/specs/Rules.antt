-- The rules of one ignore file.
pub mod Chain
pub mod ChainViews
pub mod ChainWorth
pub mod Folder
pub mod Git
pub mod LastNames
pub mod Line
pub mod Matching
mod MatchingRows
mod ChainRows
pub mod MemoryTexts
pub mod RealTexts
pub mod Texts
pub mod WithExcludes
use Rattle.std.specs.Prelude.{◌≡◌, ℕ, Bool, true, false, List, [], ◌∷◌, ◌++◌, map}
use Rattle.jwalk_ignore_rules.specs.Pattern.{Pattern, pattern_value, Matches}
use Rattle.jwalk_ignore_rules.specs.declared.rules.decision.Decision.{Decision}
use Rattle.jwalk_ignore_rules.specs.declared.rules.decision.Decision.TheVariants.{Ignored, Kept, Unsaid}
use Rattle.jwalk_ignore_rules.specs.declared.rules.Rules.{Rules}

-- rules by value: the patterns, in the order of their lines
abbrev pub rules_value : {A : Type 0} → Rules A → List Pattern
rules_value rules = map pattern_value rules.patterns.items.items

-- none of these patterns matches a path
abbrev pub NoneMatches : List Pattern → List ℕ → Bool → Type 0
NoneMatches [] path is_dir = Unit {0}
NoneMatches (pattern ∷ others) path is_dir = (Matches pattern path is_dir → ⊥) × NoneMatches others path is_dir

-- a pattern that begins with `!`, or one that doesn't, matches a path, and none behind it does
abbrev pub LastMatch : List Pattern → List ℕ → Bool → Bool → Type 0
LastMatch patterns path is_dir keeps =
    (before : List Pattern) × (pattern : Pattern) × (behind : List Pattern) × (patterns ≡ before ++ pattern ∷ behind)
    × Matches pattern path is_dir × (pattern.keeps ≡ keeps) × NoneMatches behind path is_dir

-- what patterns say of a path: the last that matches decides
abbrev pub Says : List Pattern → List ℕ → Bool → Decision → Type 0
Says patterns path is_dir Ignored = LastMatch patterns path is_dir false
Says patterns path is_dir Kept = LastMatch patterns path is_dir true
Says patterns path is_dir Unsaid = NoneMatches patterns path is_dir
