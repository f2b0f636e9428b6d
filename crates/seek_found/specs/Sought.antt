-- The names that are looked for.
use Rattle.std.specs.Prelude.{ℕ, Bool, ◌&&◌, List, [], ◌∷◌, map}
use Rattle.std.specs.List.{list_all}
use Rattle.program_parts.specs.Values.{texts_of}
use Rattle.seek_words.specs.declared.asked.Asked.{Asked}
use Rattle.seek_found.specs.NamePattern.{takes_name, IsPatternOf}
use Rattle.seek_found.specs.declared.name_pattern.NamePattern.{NamePattern}
use Rattle.seek_found.specs.declared.sought.Sought.{Sought}

-- whether a name passes a test and all others
abbrev pub takes_all : (List ℕ → Bool → Bool) → List (List ℕ → Bool → Bool) → List ℕ → Bool → Bool
takes_all first others text is_dir = first text is_dir && list_all (λ takes. takes text is_dir) others

-- whether a name is looked for by all patterns
abbrev pub takes_by : Sought → List ℕ → Bool → Bool
takes_by sought = takes_all (takes_name sought.first) (map takes_name sought.others.items)

-- These are the meanings of these patterns, in order.
abbrev pub ArePatternsOf : Asked → List (List ℕ) → List NamePattern → Type 0
ArePatternsOf asked [] [] = Unit {0}
ArePatternsOf asked (text ∷ texts) (pattern ∷ patterns) = IsPatternOf asked text pattern × ArePatternsOf asked texts patterns
ArePatternsOf asked _ _ = ⊥

-- The meanings of the pattern and of those of `--and`.
pub record IsFor (asked : Asked) (sought : Sought) : Type 0 where
  pub first : IsPatternOf asked asked.pattern.now sought.first
  pub others : ArePatternsOf asked (texts_of asked.others.items) sought.others.items
