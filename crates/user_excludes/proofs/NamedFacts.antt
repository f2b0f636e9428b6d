-- The excludes that configurations name, setting by setting.
use Rattle.std.proofs.Common.{◌≡◌, ◌∙◌, ◌<◌, ◌≤◌, ◌+◌, ◌-◌, ℕ, zero, suc, Bool, true, false, cond, List, length, map, drop, Option, Some, None, Result, Ok, Err, ap, sym, refl, arith}
use Rattle.std.specs.declared.io.ErrorKind.{ErrorKind}
use Rattle.std.proofs.Math.ListN.{get_or}
use Rattle.std.proofs.lemmas.List.{drop_all, drop_more}
use Rattle.jwalk_ignore_rules.specs.Rules.Texts.{Texts}
use Rattle.git_config.specs.Config.{config_in, Config, Setting as Value}
use Rattle.git_config.specs.Readings.{setting_value}
use Rattle.git_config.specs.declared.config.Setting.{Setting}
use Rattle.user_excludes.specs.Home.{Home}
use Rattle.user_excludes.specs.Named.{and_then, is_excludes, is_include, is_missing, path_in, unless_bad, with_value, too_deep, with_config, with_file, with_read, with_setting, with_settings, Failure, Named, Unreadable}
use Rattle.user_excludes.specs.NamedViews.{read_or_none, FailsWith}
use Rattle.user_excludes.specs.declared.unread.Unread.{Unread}
use Rattle.user_excludes.proofs.UnreadFacts.{fails_as, fails_then}

-- one more setting
pub next_setting : (include : List ℕ → Named → Result Named Failure) (home : Home) (file : List ℕ) (items : List Setting) (i : ℕ) (setting : Setting) (named : Named)
    → i < length items → setting ≡ get_or items i setting
    → with_settings include home file (map setting_value (drop i items)) named
    ≡ and_then (with_setting include home file (setting_value setting) named) (with_settings include home file (map setting_value (drop (i + 1) items)))
next_setting include home file items i setting named below is =
    ap (λ (rest : List Setting). with_settings include home file (map setting_value rest) named) (drop_more items i setting below)
    ∙ ap (λ (it : Setting). and_then (with_setting include home file (setting_value it) named) (with_settings include home file (map setting_value (drop (i + 1) items)))) (sym is)

-- a file that may include others
pub with_file_on : (texts : Texts) (home : Home) (left : ℕ) (file : List ℕ) (named : Named) → 0 < left
    → with_file texts home left file named
    ≡ with_read (λ bytes. with_config (with_file texts home (left - 1)) home file (config_in bytes)) file (texts.bytes_of file) named
with_file_on texts home zero file named some = absurd (omega arith)
with_file_on texts home (suc n) file named some =
    let same : n ≡ suc n - 1 = omega arith in
    ap (λ (m : ℕ). with_read (λ bytes. with_config (with_file texts home m) home file (config_in bytes)) file (texts.bytes_of file) named) same

-- what is known behind a file, if there is one
or_named : Named → (List ℕ → Named → Result Named Failure) → Option (List ℕ) → Result Named Failure
or_named named says (Some bytes) = says bytes named
or_named named says None = Ok named

-- a file is read first
read_first : (says : List ℕ → Named → Result Named Failure) (file : List ℕ) (is : Result (List ℕ) ErrorKind) (named : Named)
    → with_read says file is named ≡ and_then (read_or_none file is) (or_named named says)
unfolding or_named
read_first says file (Ok bytes) named = refl
read_first says file (Err k) named = by (is_missing k)
  where
    by : (missing : Bool) → cond missing (Ok named) (Err (Unreadable file k)) ≡ and_then (cond missing (Ok None) (Err (Unreadable file k))) (or_named named says)
    by true = refl
    by false = refl

read_fails : (says : List ℕ → Named → Result Named Failure) (file : List ℕ) (is : Result (List ℕ) ErrorKind) (named : Named) (reason : Unread)
    → FailsWith reason (read_or_none file is) → FailsWith reason (with_read says file is named)
read_fails says file is named reason fails =
    fails_as reason (and_then (read_or_none file is) (or_named named says)) (with_read says file is named) (read_first says file is named)
    (fails_then reason (read_or_none file is) (or_named named says) fails)

-- a file that can't be read
pub file_fails : (texts : Texts) (home : Home) (left : ℕ) (file : List ℕ) (named : Named) (reason : Unread)
    → FailsWith reason (read_or_none file (texts.bytes_of file)) → FailsWith reason (with_file texts home left file named)
file_fails texts home zero file named reason fails = read_fails (too_deep file) file (texts.bytes_of file) named reason fails
file_fails texts home (suc left) file named reason fails =
    read_fails (λ bytes. with_config (with_file texts home left) home file (config_in bytes)) file (texts.bytes_of file) named reason fails

-- a file with this configuration
pub file_is : (texts : Texts) (home : Home) (left : ℕ) (file bytes : List ℕ) (config : Config) (named : Named) → 0 < left
    → read_or_none file (texts.bytes_of file) ≡ Ok (Some bytes) → config ≡ config_in bytes
    → with_file texts home left file named ≡ with_config (with_file texts home (left - 1)) home file config named
unfolding or_named
file_is texts home left file bytes config named some read is =
    let says : List ℕ → Named → Result Named Failure = λ bytes. with_config (with_file texts home (left - 1)) home file (config_in bytes) in
    with_file_on texts home left file named some
    ∙ read_first says file (texts.bytes_of file) named
    ∙ ap (λ (r : Result (Option (List ℕ)) Failure). and_then r (or_named named says)) read
    ∙ ap (λ (c : Config). with_config (with_file texts home (left - 1)) home file c named) (sym is)

-- a setting of the excludes that fails
pub excludes_fail : (include : List ℕ → Named → Result Named Failure) (home : Home) (file : List ℕ) (setting : Value) (named : Named) (reason : Unread)
    → true ≡ is_excludes setting → FailsWith reason (with_value file setting named) → FailsWith reason (with_setting include home file setting named)
excludes_fail include home file setting named reason is fails =
    let rest : Result Named Failure = cond (is_include setting) (and_then (path_in home file setting) (λ path. include path named)) (Ok named) in
    fails_as reason (with_value file setting named) (with_setting include home file setting named)
    (ap (λ (b : Bool). cond b (with_value file setting named) rest) (sym is)) fails

including : (include : List ℕ → Named → Result Named Failure) (home : Home) (file : List ℕ) (setting : Value) (named : Named)
    → false ≡ is_excludes setting → true ≡ is_include setting
    → with_setting include home file setting named ≡ and_then (path_in home file setting) (λ path. include path named)
including include home file setting named isnt is =
    let last : Result Named Failure = and_then (path_in home file setting) (λ path. include path named) in
    ap (λ (b : Bool). cond b (with_value file setting named) (cond (is_include setting) last (Ok named))) (sym isnt)
    ∙ ap (λ (b : Bool). cond b last (Ok named)) (sym is)

-- a setting includes no path
pub path_fails : (include : List ℕ → Named → Result Named Failure) (home : Home) (file : List ℕ) (setting : Value) (named : Named) (reason : Unread)
    → false ≡ is_excludes setting → true ≡ is_include setting → FailsWith reason (path_in home file setting) → FailsWith reason (with_setting include home file setting named)
path_fails include home file setting named reason isnt is fails =
    fails_as reason (and_then (path_in home file setting) (λ path. include path named)) (with_setting include home file setting named)
    (including include home file setting named isnt is) (fails_then reason (path_in home file setting) (λ path. include path named) fails)

-- an included file fails
pub included_fails : (include : List ℕ → Named → Result Named Failure) (home : Home) (file : List ℕ) (setting : Value) (named : Named) (path : List ℕ) (reason : Unread)
    → false ≡ is_excludes setting → true ≡ is_include setting → path_in home file setting ≡ Ok path → FailsWith reason (include path named) → FailsWith reason (with_setting include home file setting named)
included_fails include home file setting named path reason isnt is at fails =
    fails_as reason (include path named) (with_setting include home file setting named)
    (including include home file setting named isnt is ∙ ap (λ (r : Result (List ℕ) Failure). and_then r (λ path. include path named)) at) fails

module _ (texts : Texts) (home : Home) (left : ℕ) (file bytes : List ℕ) (config : Config) (first named : Named) (items : List Setting) (i : ℕ)
    (some : 0 < left) (read : read_or_none file (texts.bytes_of file) ≡ Ok (Some bytes)) (is : config ≡ config_in bytes) (all : config.settings ≡ map setting_value items)
    (so_far : with_settings (with_file texts home (left - 1)) home file (map setting_value items) first ≡ with_settings (with_file texts home (left - 1)) home file (map setting_value (drop i items)) named) where
  told : with_settings (with_file texts home (left - 1)) home file config.settings first ≡ with_settings (with_file texts home (left - 1)) home file (map setting_value (drop i items)) named
  told = ap (λ (settings : List Value). with_settings (with_file texts home (left - 1)) home file settings first) all ∙ so_far

  -- one of the settings of a file fails
  pub setting_fails : (setting : Setting) (reason : Unread) → i < length items → setting ≡ get_or items i setting
      → FailsWith reason (with_setting (with_file texts home (left - 1)) home file (setting_value setting) named) → FailsWith reason (with_file texts home left file first)
  setting_fails setting reason below at fails =
      let include : List ℕ → Named → Result Named Failure = with_file texts home (left - 1) in
      let rest : Named → Result Named Failure = with_settings include home file (map setting_value (drop (i + 1) items)) in
      fails_as reason (with_config include home file config first) (with_file texts home left file first) (file_is texts home left file bytes config first some read is)
      (fails_then reason (with_settings include home file config.settings first) (unless_bad file config.bad)
      (fails_as reason (and_then (with_setting include home file (setting_value setting) named) rest) (with_settings include home file config.settings first)
      (told ∙ next_setting include home file items i setting named below at)
      (fails_then reason (with_setting include home file (setting_value setting) named) rest fails)))

  -- all settings are told
  pub file_ends : length items ≤ i → with_file texts home left file first ≡ unless_bad file config.bad named
  file_ends past =
      let include : List ℕ → Named → Result Named Failure = with_file texts home (left - 1) in
      file_is texts home left file bytes config first some read is
      ∙ ap (λ (r : Result Named Failure). and_then r (unless_bad file config.bad))
      (told ∙ ap (λ (xs : List Setting). with_settings include home file (map setting_value xs) named) (drop_all i items past))
