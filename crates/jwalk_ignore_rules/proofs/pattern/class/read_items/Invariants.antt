use Rattle.std.proofs.Common.{◌≡◌, ◌≤◌, [], None, length}
use Rattle.jwalk_ignore_rules.specs.Pattern.Class.{items_in}
use Rattle.jwalk_ignore_rules.proofs.pattern.class.read_items.Given as goal

-- the items read, and those that are left to read, are all
abbrev pub invariant-items : goal.invariant-items
invariant-items g l = record {
  within : length l.rest ≤ length l.text;
  same : items_in [] None 0 l.text ≡ items_in l.items.items l.last 0 l.rest;
}

abbrev pub decreases-items : goal.decreases-items
decreases-items g l = length l.rest
