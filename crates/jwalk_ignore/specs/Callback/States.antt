-- The rules that states of directories hold.
use Rattle.std.specs.Prelude.{◌≡◌}
use Rattle.jwalk_ignore.specs.Rules.Chain as value
use Rattle.jwalk_ignore.specs.Rules.ChainViews.{chain_value}
use Rattle.jwalk_ignore_rules.specs.declared.rules.chain.Chain.{Chain}
use Rattle.jwalk_ignore.specs.declared.callback.states.RulesState.{RulesState}

-- the rules that are the first of a pair, and what is beside them
module _ {A B : Type 0} where
  abbrev pub first_rules : Chain A × B → value.Chain
  first_rules state = chain_value state.0

  abbrev pub beside : Chain A × B → B
  beside state = state.1

  -- two have the same beside their rules
  abbrev pub same_beside : Chain A × B → Chain A × B → Type 0
  same_beside old new = beside new ≡ beside old

-- the rules that are the whole state
abbrev pub rules_held : RulesState → value.Chain
rules_held state = chain_value state.chain

-- two have the same beside their rules: nothing
abbrev pub nothing_beside : RulesState → RulesState → Type 0
nothing_beside old new = Unit {0}
