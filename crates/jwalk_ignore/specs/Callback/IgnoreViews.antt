-- What the callback makes of walks, by value.
use Rattle.std.specs.Prelude.{◌≡◌, ℕ, List, Option}
use Rattle.jwalk.specs.jwalk_model.Counted.{Worth, both}
use Rattle.jwalk.specs.jwalk_model.Entry.{Item}
use Rattle.jwalk.specs.jwalk_model.Job.{Processing, KeepsDepthsOf}
use Rattle.jwalk.specs.jwalk_job.Given.{Given}
use Rattle.jwalk_ignore.specs.Rules.Chain.{Chain}
use Rattle.jwalk_ignore.specs.Rules.ChainWorth.{chain_worth, rules_of, with_chain}
use Rattle.jwalk_ignore.specs.Callback.IgnoreFiles.{by_rules}
use Rattle.jwalk_ignore.specs.Rules.Texts.{Texts}
use Rattle.jwalk_ignore.specs.declared.callback.ignore_files.IgnoreFiles.{IgnoreFiles}
use Rattle.jwalk_ignore.specs.Callback.Settings.{Settings, settings_value}

-- the parts of a callback of this kind
module _ {T P : Type 0} where
  abbrev pub texts_of : IgnoreFiles T P → T
  texts_of it = it.reader.texts

  abbrev pub settings_of : IgnoreFiles T P → Settings
  settings_of it = settings_value it.reader.settings

  abbrev pub next_of : IgnoreFiles T P → P
  next_of it = it.next

-- what is made of a list: rules are read and what they ignore is dropped, and the other callback is given the rest
abbrev pub ignoring : Settings → Texts → Processing Worth Worth → Processing Worth Worth
ignoring settings texts next depth path state list =
    let left = by_rules settings texts depth path (rules_of state) list in
    next depth path (with_chain left.chain state) left.list

-- what is given, with another function of lists
abbrev pub with_processed : {R E : Type 0} → Given R E → (next : Processing Worth Worth) → KeepsDepthsOf next → Given R E
with_processed given next keeps = record {
  read_dir_state = given.read_dir_state;
  dir_entry_state = given.dir_entry_state;
  processed = next;
  keeps_depths = keeps;
  new_entry = given.new_entry;
}

-- States of directories count as the rules that they hold, beside a worth of their own, which two states share that are the
-- same beside their rules.
abbrev pub CountsRules : {R E : Type 0} → (R → Chain) → (R → R → Type 0) → Given R E → (R → Worth) → Type 0
CountsRules rules_in others given own =
    ((state : _) → given.read_dir_state state ≡ both (chain_worth (rules_in state)) (own state))
    × ((old new : _) → others old new → own new ≡ own old)

-- The callback makes of lists what is given: its texts are fixed, the other callback makes what is given with a function of its own, and what is given ignores and then goes by that.
abbrev pub Ignores : {R E : Type 0} → (R → Chain) → (R → R → Type 0) → Type 0 → Texts → Settings → (Given R E → Type 0) → Given R E → Type 0
Ignores {R} {E} rules_in others fixed texts settings makes given =
    fixed × (own : R → Worth) × CountsRules rules_in others given own
    × (next : Processing Worth Worth) × (keeps : KeepsDepthsOf next) × makes (with_processed given next keeps)
    × ((depth : Option ℕ) (path : List ℕ) (state : Worth) (list : List (Item Worth Worth)) → given.processed depth path state list ≡ ignoring settings texts next depth path state list)
