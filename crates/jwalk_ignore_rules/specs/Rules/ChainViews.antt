-- Rules in force as values.
use Rattle.std.specs.Prelude.{List, map, Option, Some, None, string_bytes}
use Rattle.std.specs.Arc.{arc_value}
use Rattle.std.specs.declared.sync.Arc.{Arc}
use Rattle.jwalk_ignore_rules.specs.Rules.Chain as value
use Rattle.jwalk_ignore_rules.specs.Rules.Chain.{no_rules}
use Rattle.jwalk_ignore_rules.specs.Rules.{rules_value}
use Rattle.jwalk_ignore_rules.specs.declared.rules.chain.Chain.{Chain}
use Rattle.jwalk_ignore_rules.specs.declared.rules.chain.InForce.{InForce}
use Rattle.jwalk_ignore_rules.specs.declared.rules.link.Link.{Link}

module _ {A : Type 0} where
  abbrev pub link_value : Link A → value.Link
  link_value link = record { before = link.before; patterns = rules_value link.rules }

  -- shared links
  abbrev pub links_value : List (Arc (Link A) A) → List value.Link
  links_value links = map (λ link. link_value (arc_value link)) links

  abbrev pub in_force_value : InForce A → value.Chain
  in_force_value rules = record {
    front = string_bytes (arc_value rules.front);
    root_len = rules.root_len;
    in_repository = rules.in_repository;
    fdignore = links_value rules.fdignore.items;
    ignore = links_value rules.ignore.items;
    gitignore = links_value rules.gitignore.items;
    exclude = links_value rules.exclude.items;
  }

  abbrev shared_value : Option (Arc (InForce A) A) → value.Chain
  shared_value None = no_rules
  shared_value (Some rules) = in_force_value (arc_value rules)

  -- the rules in force: none if there is no list of them
  abbrev pub chain_value : Chain A → value.Chain
  chain_value chain = shared_value chain.in_force
