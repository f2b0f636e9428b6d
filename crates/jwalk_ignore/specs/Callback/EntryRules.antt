-- The rules that decide on the entries of a directory.
use Rattle.std.specs.Prelude.{◌≡◌, ℕ, Bool, List}
use Rattle.jwalk.specs.jwalk_model.Entry.{Item}
use Rattle.jwalk_ignore.specs.Callback.IgnoreFiles.{is_kept}
use Rattle.jwalk_ignore.specs.Callback.Places.{IsPlaced}
use Rattle.jwalk_ignore.specs.Callback.Settings.{Settings, settings_value}
use Rattle.jwalk_ignore.specs.Rules.Chain.{Chain, place_in}
use Rattle.jwalk_ignore.specs.Rules.ChainViews.{chain_value}
use Rattle.jwalk_ignore.specs.declared.callback.entry_rules.EntryRules.{EntryRules}

-- This is set, and these rules are in force in this directory. Both buffers are placed there.
pub record Decide {A : Type 0} (settings : Settings) (directory : List ℕ) (chain : Chain) (rules : EntryRules A) : Type 0 where
  pub settings_are : settings_value rules.settings.now ≡ settings
  pub directory_is : rules.directory.now ≡ directory
  pub chain_is : chain_value rules.chain.now ≡ chain
  pub placed : IsPlaced (place_in chain directory) rules.places
  pub at_path : IsPlaced directory rules.paths

-- The rules decide by this test on the items of their directory.
pub record DecideBy {A R E : Type 0} (rules : EntryRules A) (test : Item R E → Bool) : Type 0 where
  pub settings : Settings
  pub directory : List ℕ
  pub chain : Chain
  pub decide : Decide settings directory chain rules
  pub by : test ≡ is_kept settings directory chain (place_in chain directory)
