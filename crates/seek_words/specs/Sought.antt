-- Which entries are looked for.
use Rattle.std.specs.Prelude.{◌≡◌, ℕ, Bool, true, ◌&&◌, List, Option, None, Some}
use Rattle.jwalk_model.specs.FileType.{is_dir}
use Rattle.jwalk_model.specs.Paths.{join}
use Rattle.jwalk_model.specs.declared.file_type.FileType.{FileType}
use Rattle.jwalk_model.specs.declared.metadata.Metadata.{Metadata}
use Rattle.seek_words.specs.Absolute.{absolute_path}
use Rattle.seek_words.specs.Empty.{is_empty_if}
use Rattle.seek_words.specs.Wanted.{Wants, is_wanted}

-- what is looked for: the depths, types, extensions, sizes and times, the texts that pass, the text in front of a
-- relative path if absolute paths are tested, whether nothing below an entry that is found is looked for, and the paths
-- of the directories without entries
pub record Sought : Type 0 where
  pub wanted : Wants
  pub takes : List ℕ → Bool → Bool
  pub front : Option (List ℕ)
  pub prunes : Bool
  pub bare : List ℕ → Bool

-- the text that is tested: the name of an entry, or its absolute path
abbrev pub subject : Option (List ℕ) → List ℕ → List ℕ → List ℕ
subject None folder name = name
subject (Some front) folder name = absolute_path front folder name

-- whether an entry is looked for, but for emptiness
abbrev pub is_met : Sought → ℕ → FileType → List ℕ → List ℕ → Option Metadata → Bool
is_met sought depth type folder name seen =
    is_wanted sought.wanted depth type name seen && sought.takes (subject sought.front folder name) (is_dir type)

-- whether an entry is looked for, by its depth, its type, its folder, its name and its metadata, if that is known
abbrev pub is_found : Sought → ℕ → FileType → List ℕ → List ℕ → Option Metadata → Bool
is_found sought depth type folder name seen =
    is_met sought depth type folder name seen && is_empty_if sought.wanted.kinds.empty type seen (sought.bare (join folder name))

-- Empty entries are looked for only if this holds.
abbrev pub IfEmpties : Type 0 → Sought → Type 0
IfEmpties fixed sought = sought.wanted.kinds.empty ≡ true → fixed
