-- Whether patterns match, computed, and what they then say.
use Rattle.std.specs.Prelude.{ℕ, Bool, true, false, ◌&&◌, ◌||◌, not, List, [], ◌∷◌, if◌then◌else◌}
use Rattle.jwalk_ignore_rules.specs.Pattern.ByteTest.{ByteTest, fits}
use Rattle.jwalk_ignore_rules.specs.Pattern.Names.{names_of}
use Rattle.jwalk_ignore_rules.specs.Pattern.{Pattern, decision_of}
use Rattle.jwalk_ignore_rules.specs.declared.rules.decision.Decision.{Decision}
use Rattle.jwalk_ignore_rules.specs.declared.rules.decision.Decision.TheVariants.{Ignored, Kept, Unsaid}
use Rattle.jwalk_ignore_rules.specs.declared.pattern.part.Part.{Part}
use Rattle.jwalk_ignore_rules.specs.declared.pattern.part.Part.TheVariants.{Many, One}

-- whether a test is true of a list, or of what is left of it without some first items
abbrev pub some_rest : {X : Type 0} → (List X → Bool) → List X → Bool
some_rest test [] = test []
some_rest test (x ∷ xs) = test (x ∷ xs) || some_rest test xs

-- whether the first item is taken, and the others pass a test
abbrev pub takes_first : {X : Type 0} → (X → Bool) → (List X → Bool) → List X → Bool
takes_first takes test [] = false
takes_first takes test (x ∷ xs) = takes x && test xs

-- whether a list is empty
abbrev pub is_nil : {X : Type 0} → List X → Bool
is_nil [] = true
is_nil (x ∷ xs) = false

-- whether items fit parts (`Fits`)
abbrev pub fit : {T X : Type 0} → (T → X → Bool) → List (Part T) → List X → Bool
fit takes [] items = is_nil items
fit takes (Many ∷ parts) items = some_rest (fit takes parts) items
fit takes (One test ∷ parts) items = takes_first (takes test) (fit takes parts) items

-- whether a name fits a pattern (`IsNamed`)
abbrev pub is_named : List (Part ByteTest) → List ℕ → Bool
is_named glob name = fit fits glob name

-- whether a pattern matches a path (`Matches`)
abbrev pub matches : Pattern → List ℕ → Bool → Bool
matches pattern path is_dir = (not pattern.only_dirs || is_dir) && fit is_named pattern.parts (names_of path)

-- what was said first, or else what is said next
abbrev pub or_else : Decision → Decision → Decision
or_else Ignored next = Ignored
or_else Kept next = Kept
or_else Unsaid next = next

-- what one pattern says of a path
abbrev pub pattern_says : Pattern → List ℕ → Bool → Decision
pattern_says pattern path is_dir = if matches pattern path is_dir then decision_of pattern.keeps else Unsaid

-- what patterns say of a path: the last that matches (`Says`)
abbrev pub patterns_say : List Pattern → List ℕ → Bool → Decision
patterns_say [] path is_dir = Unsaid
patterns_say (pattern ∷ others) path is_dir = or_else (patterns_say others path is_dir) (pattern_says pattern path is_dir)
