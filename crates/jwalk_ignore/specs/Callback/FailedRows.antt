-- Which errors of a directory stay, row by row.
use Rattle.std.specs.Prelude.{◌≡◌, ℕ, Bool, true, false, List, [], ◌∷◌, Some, Err, codes, refl}
use Rattle.std.specs.declared.io.ErrorKind.TheVariants as kind
use Rattle.jwalk.specs.jwalk_model.Counted.{Worth}
use Rattle.jwalk.specs.jwalk_model.Error.{Failure, io, looped, unnamed}
use Rattle.jwalk_ignore.specs.Callback.Excluding.{excluded_by, is_included}
use Rattle.jwalk_ignore.specs.Callback.Given.{first_settings}
use Rattle.jwalk_ignore.specs.Callback.IgnoreFiles.{is_kept, is_shown}
use Rattle.jwalk_ignore.specs.Callback.Settings.{Settings}
use Rattle.jwalk_ignore.specs.Rules.Chain.{no_rules}
use Rattle.jwalk_ignore.specs.Rules.Line.{patterns_of}

-- the error of a name in `/r`
abbrev at : List ℕ → Failure
at path = io 1 (Some path) kind.PermissionDenied

-- settings with which errors are dropped, and with these rules that are given
abbrev dropping : List ℕ → Settings
dropping text = record first_settings { drops_errors = true; given = patterns_of text }

-- whether an error in `/r` is shown, and whether it stays by the rules that are given
abbrev shown : Settings → Failure → Bool
shown settings f = is_shown {R = Worth} {E = Worth} settings (codes "/r") (Err f)

abbrev stays : List ℕ → Failure → Bool
stays text f = is_kept {R = Worth} {E = Worth} (dropping text) (codes "/r") no_rules (codes "/r") (Err f)

-- whether it is left by a line of a call, where errors are dropped and those of hidden names or not
abbrev left : List ℕ → Bool → Failure → Bool
left line hidden f =
    is_included {R = Worth} {E = Worth} (record (excluded_by (line ∷ []) (codes "/r")) { drops_errors = true; drops_hidden = hidden }) [] (Err f)

row_plain : shown (dropping []) (at (codes "/r/a")) ≡ true
row_plain = refl

row_hidden : shown (dropping []) (at (codes "/r/.a")) ≡ false
row_hidden = refl

row_hidden_by_default : shown first_settings (at (codes "/r/.a")) ≡ true
row_hidden_by_default = refl

row_hidden_kept : shown (record (dropping []) { keeps_hidden = true }) (at (codes "/r/.a")) ≡ true
row_hidden_kept = refl

row_git : shown (record (dropping []) { keeps_hidden = true }) (at (codes "/r/.git")) ≡ false
row_git = refl

row_rules : shown (dropping []) (at (codes "/r/.gitignore")) ≡ true
row_rules = refl

row_exclude : shown (dropping []) (at (codes "/r/.git/info/exclude")) ≡ true
row_exclude = refl

row_no_path : shown (dropping []) (unnamed 1 (codes "/r") kind.PermissionDenied) ≡ true
row_no_path = refl

row_loop : shown (dropping []) (looped 1 (codes "/r") (codes "/r/.a")) ≡ true
row_loop = refl

row_ignored : stays (codes "a\n") (at (codes "/r/a")) ≡ false
row_ignored = refl

row_ignored_as_directory : stays (codes "a/\n") (at (codes "/r/a")) ≡ true
row_ignored_as_directory = refl

row_not_ignored : stays (codes "a\n") (at (codes "/r/b")) ≡ true
row_not_ignored = refl

row_left_out : left (codes "a") false (at (codes "/r/a")) ≡ false
row_left_out = refl

row_left_out_below : left (codes "/d/a") false (at (codes "/r/d/a")) ≡ false
row_left_out_below = refl

row_left_out_as_directory : left (codes "a/") false (at (codes "/r/a")) ≡ true
row_left_out_as_directory = refl

row_left_out_loop : left (codes "a") false (looped 1 (codes "/r") (codes "/r/a")) ≡ true
row_left_out_loop = refl

row_hidden_too : left (codes "a") true (at (codes "/r/.b")) ≡ false
row_hidden_too = refl

row_hidden_not : left (codes "a") false (at (codes "/r/.b")) ≡ true
row_hidden_not = refl
