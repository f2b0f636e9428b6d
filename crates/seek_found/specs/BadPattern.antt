-- The reasons why a pattern is rejected.
use Rattle.std.specs.Prelude.{◌≡◌, ◌≢◌, ◌⊎◌, ℕ, true, false, List, None}
use Rattle.std.specs.List.{Contains}
use Rattle.program_parts.specs.Values.{texts_of}
use Rattle.regex.specs.Sources.{IsRefusal}
use Rattle.regex.specs.declared.error.Error.TheVariants.{OutOfMemory}
use Rattle.seek_words.specs.Case.{is_ignored}
use Rattle.seek_words.specs.Expression.{config_for}
use Rattle.seek_words.specs.declared.asked.Asked.{Asked}
use Rattle.seek_braces.specs.Expanded.{expansions}
use Rattle.seek_found.specs.Glob.{glob_in}
use Rattle.seek_found.specs.NamePattern.{source_of, takes_any}
use Rattle.seek_found.specs.declared.bad_pattern.BadPattern.{BadPattern}
use Rattle.seek_found.specs.declared.bad_pattern.BadPattern.TheVariants.{Expression, Glob, Braces, Memory}

-- the status of the program
abbrev pub status_of : BadPattern → ℕ
status_of (Expression pattern error) = 2
status_of (Glob pattern) = 2
status_of (Braces pattern) = 2
status_of Memory = 1

-- The reason why a pattern isn't a glob: it is malformed, or short for too many texts. Or memory ran out.
abbrev pub IsNoGlob : Asked → List ℕ → BadPattern → Type 0
IsNoGlob asked text (Expression pattern error) = ⊥
IsNoGlob asked text (Glob pattern) = glob_in (is_ignored asked.case) text ≡ None
IsNoGlob asked text (Braces pattern) = expansions text ≡ None
IsNoGlob asked text Memory = Unit {0}

-- The reason why a pattern isn't a regular expression, as the grammar says for an error of syntax, or memory ran out.
abbrev pub IsNoExpression : Asked → List ℕ → BadPattern → Type 0
IsNoExpression asked text (Expression pattern error) = (error ≢ OutOfMemory) × IsRefusal (config_for asked.case) (source_of asked text) error
IsNoExpression asked text (Glob pattern) = ⊥
IsNoExpression asked text (Braces pattern) = ⊥
IsNoExpression asked text Memory = Unit {0}

-- The reason why a pattern is rejected, as a glob or as a regular expression, whichever is asked for.
abbrev pub IsBadPattern : Asked → List ℕ → BadPattern → Type 0
IsBadPattern asked text bad =
    (takes_any asked text ≡ false) × (((asked.glob ≡ true) × IsNoGlob asked text bad) ⊎ ((asked.glob ≡ false) × IsNoExpression asked text bad))

-- The reason why one of these patterns is rejected, or memory ran out.
abbrev pub AreBadPatterns : Asked → List (List ℕ) → BadPattern → Type 0
AreBadPatterns asked texts bad = (bad ≡ Memory) ⊎ ((text : List ℕ) × Contains texts text × IsBadPattern asked text bad)

-- One of these lines is short for too many, or memory ran out.
abbrev pub AreBadLines : List (List ℕ) → BadPattern → Type 0
AreBadLines lines (Expression pattern error) = ⊥
AreBadLines lines (Glob pattern) = ⊥
AreBadLines lines (Braces pattern) = (line : List ℕ) × Contains lines line × (expansions line ≡ None)
AreBadLines lines Memory = Unit {0}

-- The reason why the pattern, one of `--and` or a line of `-E` is rejected, or memory ran out.
abbrev pub IsBadFor : Asked → BadPattern → Type 0
IsBadFor asked bad =
    IsBadPattern asked asked.pattern.now bad ⊎ AreBadPatterns asked (texts_of asked.others.items) bad ⊎ AreBadLines (texts_of asked.excludes.items) bad
