-- One pattern for names.
use Rattle.std.specs.Prelude.{◌≡◌, ℕ, ◌==◌, Bool, true, false, not, ◌&&◌, ◌||◌, List, length, bytes_eq, codes, encode_utf8_all, is_some, Some, if◌then◌else◌}
use Rattle.std.specs.Str.{chars}
use Rattle.regex.specs.Patterns.{find_str, ReadsAsText}
use Rattle.regex.specs.Strings.{regex_pattern, regex_source, regex_config, IsReadFromSource}
use Rattle.regex.specs.declared.string.regex.Regex.{Regex}
use Rattle.regex_syntax.specs.Verdict.{escaped_text}
use Rattle.seek_words.specs.Case.{is_ignored}
use Rattle.seek_words.specs.Expression.{config_for}
use Rattle.seek_words.specs.declared.asked.Asked.{Asked}
use Rattle.seek_found.specs.Glob.{glob_in, glob_takes, glob_value}
use Rattle.seek_found.specs.declared.glob.Glob.{Glob as CodeGlob}
use Rattle.seek_found.specs.declared.name_pattern.NamePattern.{NamePattern}
use Rattle.seek_found.specs.declared.name_pattern.NamePattern.TheVariants.{Any, Expression, Glob}

-- whether a name is looked for: any name, one in which the regular expression is found, or one that the glob takes
abbrev pub takes_name : NamePattern → List ℕ → Bool → Bool
takes_name Any text is_dir = true
takes_name (Expression expression) text is_dir = is_some (find_str (regex_pattern expression) text 0)
takes_name (Glob glob) text is_dir = glob_takes (glob_value glob) text is_dir

-- whether a pattern takes any name
abbrev pub takes_any : Asked → List ℕ → Bool
takes_any asked pattern = (length pattern == 0) || (bytes_eq pattern (codes ".") && (not asked.glob && not asked.fixed))

-- the text of a pattern's regular expression; for a text, it is the one that reads as that text
abbrev pub source_of : Asked → List ℕ → List ℕ
source_of asked pattern = if asked.fixed then encode_utf8_all (escaped_text (chars pattern)) else pattern

-- The regular expression of a pattern, read with the options that are asked for.
pub record IsExpressionOf (asked : Asked) (pattern : List ℕ) (expression : Regex) : Type 0 where
  pub source : regex_source expression ≡ source_of asked pattern
  pub options : regex_config expression ≡ config_for asked.case
  pub literal : asked.fixed ≡ true → ReadsAsText (regex_source expression) pattern
  pub read : IsReadFromSource expression

-- The glob of a pattern.
abbrev pub IsGlobOf : Asked → List ℕ → CodeGlob → Type 0
IsGlobOf asked pattern glob = glob_in (is_ignored asked.case) pattern ≡ Some (glob_value glob)

-- The meaning of a pattern, read in the way that is asked for.
abbrev pub IsPatternOf : Asked → List ℕ → NamePattern → Type 0
IsPatternOf asked pattern Any = takes_any asked pattern ≡ true
IsPatternOf asked pattern (Expression expression) =
    (takes_any asked pattern ≡ false) × (asked.glob ≡ false) × IsExpressionOf asked pattern expression
IsPatternOf asked pattern (Glob glob) = (takes_any asked pattern ≡ false) × (asked.glob ≡ true) × IsGlobOf asked pattern glob
