-- What differs at a path.
use Rattle.std.specs.Prelude.{ℕ, List, Option, Some, None, if◌then◌else◌}
use Rattle.jwalk_changes.specs.declared.facts.Facts.{Facts}
use Rattle.jwalk_changes.specs.declared.change.Change.{Change}
use Rattle.jwalk_changes.specs.declared.change.Change.TheVariants.{Added, Removed, Changed}
use Rattle.jwalk_changes.specs.Facts.{which, is_any}

-- the path of a change
abbrev pub path_of : {O N : Type 0} → (O → List (List ℕ)) → (N → List (List ℕ)) → Change O N → List (List ℕ)
path_of old_path new_path (Added new) = new_path new
path_of old_path new_path (Removed old) = old_path old
path_of old_path new_path (Changed old new w) = new_path new

module _ {O N : Type 0} (old_facts : O → Facts) (new_facts : N → Facts) where
  -- the change from an old to a new entry at the same path, if any of their facts differ
  abbrev pub change : O → N → Option (Change O N)
  change old new = if is_any (which (old_facts old) (new_facts new)) then Some (Changed old new (which (old_facts old) (new_facts new))) else None

  -- the difference between what was at a path and what is there
  abbrev pub difference : Option O → Option N → Option (Change O N)
  difference None None = None
  difference None (Some new) = Some (Added new)
  difference (Some old) None = Some (Removed old)
  difference (Some old) (Some new) = change old new
