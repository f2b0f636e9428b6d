-- The values that words give to options.
use Rattle.std.proofs.Common.{◌≡◌, Bool, true, false, ◌&&◌, List, refl}
use Rattle.std.specs.Prelude.{Result, Ok, Err, IfOk}
use Rattle.clap.specs.Faults.{is_free_app}
use Rattle.clap.specs.Simple.{built}
use Rattle.clap.specs.Words.{App, FailsBy, HasMatchesOf, Text, fault_of, found_of, is_simple, is_simple_and_free, rows_of}
use Rattle.clap.specs.declared.error.Error.{Error}
use Rattle.clap.specs.declared.parser.matches.ArgMatches.{ArgMatches}
use Rattle.program_parts.specs.Matches.{GiveValues}

first_of_both : (a b : Bool) → (a && b) ≡ true → a ≡ true
first_of_both true b is = refl
first_of_both false b is = is

-- words that a command line takes give its options their values
pub given : (app : App) (words : List Text) → is_simple_and_free app ≡ true → (result : Result ArgMatches Error) → FailsBy (fault_of app words) result → IfOk result (HasMatchesOf app words)
    → IfOk result (λ found. GiveValues app words (rows_of (found_of found)))
given app words free (Ok found) good matches = record { good = good; values = (matches (first_of_both (is_simple app) (is_free_app (built app)) free)).0 }
given app words free (Err error) bad matches = tt
