-- The names that are looked for, whatever the owner, the times and the screen are.
use Rattle.std.proofs.Common.{ℕ, Bool, List, [], ◌∷◌, Option}
use Rattle.program_parts.specs.Values.{texts_of}
use Rattle.seek_words.specs.declared.asked.Asked.{Asked}
use Rattle.seek_words.specs.declared.owner.Owner.{Owner}
use Rattle.seek_words.specs.declared.times.Times.{Times}
use Rattle.seek_found.specs.NamePattern.{IsPatternOf}
use Rattle.seek_found.specs.Sought.{ArePatternsOf, IsFor}
use Rattle.seek_found.specs.declared.name_pattern.NamePattern.{NamePattern}
use Rattle.seek_found.specs.declared.name_pattern.NamePattern.TheVariants.{Any, Expression, Glob}
use Rattle.seek_found.specs.declared.sought.Sought.{Sought}

module _ (asked : Asked) (times : Times) (colored : Bool) (owner : Option Owner) where
  shown_one : (text : List ℕ) (pattern : NamePattern) → IsPatternOf asked text pattern → IsPatternOf (record asked { times = times; colored = colored; owner = owner }) text pattern
  shown_one text Any is = is
  shown_one text (Expression expression) is =
      (is.0, is.1, record { source = is.2.source; options = is.2.options; literal = is.2.literal; read = is.2.read })
  shown_one text (Glob glob) is = is

  shown_each : (texts : List (List ℕ)) (patterns : List NamePattern) → ArePatternsOf asked texts patterns → ArePatternsOf (record asked { times = times; colored = colored; owner = owner }) texts patterns
  shown_each [] [] are = tt
  shown_each (text ∷ texts) (pattern ∷ patterns) are = (shown_one text pattern are.0, shown_each texts patterns are.1)
  shown_each [] (pattern ∷ patterns) are = absurd are
  shown_each (text ∷ texts) [] are = absurd are

  -- the patterns say the same
  pub shown_for : (sought : Sought) → IsFor asked sought → IsFor (record asked { times = times; colored = colored; owner = owner }) sought
  shown_for sought is = record {
    first = shown_one asked.pattern.now sought.first is.first;
    others = shown_each (texts_of asked.others.items) sought.others.items is.others;
  }
