-- The excludes that configurations name.
use Rattle.std.specs.Prelude.{ℕ, zero, suc, Bool, true, false, List, [], ◌∷◌, bytes_eq, codes, Option, Some, None, Result, Ok, Err, if◌then◌else◌}
use Rattle.std.specs.Str.{is_utf8}
use Rattle.std.specs.declared.io.ErrorKind.{ErrorKind}
use Rattle.std.specs.declared.io.ErrorKind.TheVariants as kind
use Rattle.jwalk_ignore_rules.specs.Rules.Texts.{Texts}
use Rattle.jwalk_model.specs.Paths.{join, parent}
use Rattle.git_config.specs.Config.{config_in, Config, Setting}
use Rattle.user_excludes.specs.Home.{expanded, Home}

-- Why the excludes aren't known: a file that can't be read; one with a bad line, or with a line that gives them no value;
-- one that is included in too many others, one in another.
pub data Failure : Type 0 where
  Unreadable : List ℕ → ErrorKind → Failure
  BadLine : List ℕ → ℕ → Failure
  NoValue : List ℕ → ℕ → Failure
  TooDeep : List ℕ → Failure

-- A line of a file.
pub record Line : Type 0 where
  pub file : List ℕ
  pub line : ℕ

-- What is known of the excludes behind some settings: the path that was named last, and where they were first named
-- without one.
pub record Named : Type 0 where
  pub path : Option (List ℕ)
  pub unset : Option Line

abbrev pub unnamed : Named
unnamed = record { path = None; unset = None }

-- whether nothing is at a path
abbrev pub is_missing : ErrorKind → Bool
is_missing kind.NotFound = true
is_missing kind.NotADirectory = true
is_missing _ = false

-- the first line
abbrev pub or_line : Option Line → List ℕ → ℕ → Option Line
or_line (Some first) file line = Some first
or_line None file line = Some (record { file = file; line = line })

-- a value that is a text; any other is a fault of its line
abbrev pub text_in : List ℕ → ℕ → List ℕ → Result (List ℕ) Failure
text_in file line value = if is_utf8 value then Ok value else Err (BadLine file line)

-- what follows a result, if it is no failure
abbrev pub and_then : {A B : Type 0} → Result A Failure → (A → Result B Failure) → Result B Failure
and_then (Ok it) next = next it
and_then (Err failure) next = Err failure

abbrev pub with_path : Named → List ℕ → Result Named Failure
with_path named path = Ok (record named { path = Some path })

abbrev valued : List ℕ → ℕ → Option (List ℕ) → Named → Result Named Failure
valued file line None named = Ok (record named { unset = or_line named.unset file line })
valued file line (Some value) named = and_then (text_in file line value) (with_path named)

-- what is known behind a setting of the excludes
abbrev pub with_value : List ℕ → Setting → Named → Result Named Failure
with_value file setting = valued file setting.line setting.value

-- the path of an included file, by the folder of the one that includes it
abbrev pub included_path : Home → List ℕ → List ℕ → List ℕ
included_path home file path = by (parent file)
  where
    by : Option (List ℕ) → List ℕ
    by (Some folder) = join folder (expanded home path)
    by None = expanded home path

abbrev included : Home → List ℕ → ℕ → Option (List ℕ) → Result (List ℕ) Failure
included home file line None = Err (BadLine file line)
included home file line (Some value) = and_then (text_in file line value) (λ path. Ok (included_path home file path))

-- the path of the file that a setting includes
abbrev pub path_in : Home → List ℕ → Setting → Result (List ℕ) Failure
path_in home file setting = included home file setting.line setting.value

abbrev pub is_excludes : Setting → Bool
is_excludes setting = bytes_eq setting.name (codes "core.excludesfile")

abbrev pub is_include : Setting → Bool
is_include setting = bytes_eq setting.name (codes "include.path")

-- what is known behind a setting
abbrev pub with_setting : (List ℕ → Named → Result Named Failure) → Home → List ℕ → Setting → Named → Result Named Failure
with_setting include home file setting named =
    if is_excludes setting then with_value file setting named
    else if is_include setting then and_then (path_in home file setting) (λ path. include path named)
    else Ok named

abbrev pub with_settings : (List ℕ → Named → Result Named Failure) → Home → List ℕ → List Setting → Named → Result Named Failure
with_settings include home file [] named = Ok named
with_settings include home file (setting ∷ settings) named =
    and_then (with_setting include home file setting named) (with_settings include home file settings)

abbrev pub unless_bad : List ℕ → Option ℕ → Named → Result Named Failure
unless_bad file None named = Ok named
unless_bad file (Some line) named = Err (BadLine file line)

-- what is known behind a configuration
abbrev pub with_config : (List ℕ → Named → Result Named Failure) → Home → List ℕ → Config → Named → Result Named Failure
with_config include home file config named =
    and_then (with_settings include home file config.settings named) (unless_bad file config.bad)

-- what is known behind the file at a path, of which these bytes are read; there is nothing in one that is missing
abbrev pub with_read : (List ℕ → Named → Result Named Failure) → List ℕ → Result (List ℕ) ErrorKind → Named → Result Named Failure
with_read says file (Ok bytes) named = says bytes named
with_read says file (Err k) named = if is_missing k then Ok named else Err (Unreadable file k)

abbrev pub too_deep : List ℕ → List ℕ → Named → Result Named Failure
too_deep file bytes named = Err (TooDeep file)

-- the same, up to a greatest number of files that include one another
abbrev pub with_file : Texts → Home → ℕ → List ℕ → Named → Result Named Failure
with_file texts home zero file named = with_read (too_deep file) file (texts.bytes_of file) named
with_file texts home (suc left) file named =
    with_read (λ bytes. with_config (with_file texts home left) home file (config_in bytes)) file (texts.bytes_of file) named

-- the same of a file that isn't included, if there is such a path
abbrev pub with_first : Texts → Home → Option (List ℕ) → Named → Result Named Failure
with_first texts home None named = Ok named
with_first texts home (Some file) named = with_file texts home 11 file named
