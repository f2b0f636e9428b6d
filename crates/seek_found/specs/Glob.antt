-- Globs.
use Rattle.std.specs.Prelude.{ℕ, ◌==◌, Bool, false, ◌||◌, List, [], ◌∷◌, ◌++◌, length, map, Option, None, Some, option_map, if◌then◌else◌}
use Rattle.std.specs.List.{list_any}
use Rattle.jwalk_ignore_rules.specs.Rules.Matching.{matches}
use Rattle.jwalk_ignore_rules.specs.Pattern.{Pattern, pattern_in, pattern_in_either_case, pattern_value}
use Rattle.jwalk_ignore_rules.specs.Pattern.PatternText.{without_first_slash}
use Rattle.jwalk_ignore_rules.specs.declared.pattern.Pattern.{Pattern as CodePattern}
use Rattle.seek_braces.specs.Expanded.{expanded}
use Rattle.seek_found.specs.declared.glob.Glob.{Glob as CodeGlob}

-- patterns by value
abbrev pub values_of : {A : Type 0} → List (CodePattern A) → List Pattern
values_of patterns = map pattern_value patterns

-- the value of a glob: its patterns
abbrev pub glob_value : CodeGlob → List Pattern
glob_value glob = values_of glob.patterns.items

-- a pattern, in either case of letters if case doesn't count
abbrev pub in_case : Bool → Pattern → Pattern
in_case ignores_case pattern = if ignores_case then pattern_in_either_case pattern else pattern

-- whether a text begins with a `!` or a `#`
abbrev pub has_mark : List ℕ → Bool
has_mark [] = false
has_mark (c ∷ cs) = (c == 33) || (c == 35)

-- a text as the line of an ignore file, in which a mark at the beginning means itself
abbrev pub glob_line : List ℕ → List ℕ
glob_line text = (if has_mark text then 92 ∷ [] else []) ++ text

-- the pattern of a text, or none if it is malformed
abbrev pub one_pattern : Bool → List ℕ → Option Pattern
one_pattern ignores_case text = option_map (in_case ignores_case) (pattern_in (glob_line text))

-- the same as a list, which is empty for the empty text
abbrev pub patterns_of : Bool → List ℕ → Option (List Pattern)
patterns_of ignores_case text = if length text == 0 then Some [] else option_map (λ pattern. pattern ∷ []) (one_pattern ignores_case text)

-- patterns and more patterns, if none is malformed
abbrev pub added : Option (List Pattern) → Option (List Pattern) → Option (List Pattern)
added None more = None
added (Some patterns) more = option_map (λ others. patterns ++ others) more

-- the patterns of texts, or none if one is malformed
abbrev pub patterns_in : Bool → List (List ℕ) → Option (List Pattern)
patterns_in ignores_case [] = Some []
patterns_in ignores_case (text ∷ texts) = added (patterns_of ignores_case text) (patterns_in ignores_case texts)

-- the glob of a text: the patterns of all texts that it is short for
abbrev pub glob_in : Bool → List ℕ → Option (List Pattern)
glob_in ignores_case text = patterns_in ignores_case (expanded text)

-- whether a glob takes a name or an absolute path: one of its patterns matches it
abbrev pub glob_takes : List Pattern → List ℕ → Bool → Bool
glob_takes glob text is_dir = list_any (λ pattern. matches pattern (without_first_slash text) is_dir) glob
