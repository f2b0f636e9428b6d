-- The differences between what a snapshot holds and what a walk finds.
use Rattle.std.specs.Prelude.{◌≡◌, ℕ, List, [], map, string_bytes}
use Rattle.std.specs.Borrow.{Bor}
use Rattle.std.specs.declared.alloc.Global.{Global}
use Rattle.jwalk_changes.specs.AtPath.{names}
use Rattle.jwalk_changes.specs.Differences.{IsDifferences}
use Rattle.jwalk_changes.specs.declared.change.Change.{Change}
use Rattle.jwalk_changes.specs.declared.entry.Kept.{Kept}
use Rattle.jwalk_changes.specs.declared.facts.Facts.{Facts}
use Rattle.since_parts.specs.Held.{seen_in}
use Rattle.since_parts.specs.declared.held.Held.{Held}

-- the names of the path of an entry that is held, and what is compared there
abbrev pub names_held : Held → List (List ℕ)
names_held held = names (seen_in held).path

abbrev pub facts_held : Held → Facts
facts_held held = (seen_in held).facts

-- an entry that was found
abbrev pub kept_at : Bor (Kept Global) → Kept Global
kept_at found = found.now

-- the names of its path, and what is compared there
abbrev pub names_found : Bor (Kept Global) → List (List ℕ)
names_found found = names (string_bytes found.now.path)

abbrev pub facts_found : Bor (Kept Global) → Facts
facts_found found = found.now.facts

abbrev pub place_of : Bor (List ℕ) → List (List ℕ)
place_of place = names place.now

-- a difference between an entry that is held and one that was found
abbrev pub Difference : Type 0
Difference = Change Held (Bor (Kept Global))

-- These are all differences of two lists, wherever they are.
abbrev pub IsDifferencesOf : List Held → List (Bor (Kept Global)) → List Difference → Type 0
IsDifferencesOf old new changes = IsDifferences names_held facts_held names_found facts_found place_of old new [] changes

-- The same, where the entries that were found are borrowed.
pub record AreDifferences (old : List Held) (new : List (Kept Global)) (changes : List Difference) : Type 0 where
  pub found : List (Bor (Kept Global))
  pub same : map kept_at found ≡ new
  pub are : IsDifferencesOf old found changes
