-- The test of one pattern.
use Rattle.std.specs.Prelude.{ℕ, Bool, true, List, is_some}
use Rattle.regex.specs.Patterns.{find_str}
use Rattle.regex.specs.Strings.{matcher_pattern}
use Rattle.seek_found.specs.Glob.{glob_takes, glob_value}
use Rattle.seek_found.specs.declared.pattern_test.PatternTest.{PatternTest}
use Rattle.seek_found.specs.declared.pattern_test.PatternTest.TheVariants.{Any, Finds, Takes}

-- whether a text passes
abbrev pub takes_of : PatternTest → List ℕ → Bool → Bool
takes_of Any text is_dir = true
takes_of (Finds matcher) text is_dir = is_some (find_str (matcher_pattern matcher) text 0)
takes_of (Takes glob) text is_dir = glob_takes (glob_value glob.now) text is_dir
