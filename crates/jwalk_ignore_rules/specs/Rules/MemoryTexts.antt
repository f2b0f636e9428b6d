-- Texts in memory.
use Rattle.std.specs.Prelude.{◌≡◌, ℕ, List, Option, Some, None, Result, Ok, Err, option_map, bytes_eq, codes, if◌then◌else◌}
use Rattle.std.specs.BTreeMap.{get_by_text}
use Rattle.std.specs.declared.io.ErrorKind.{ErrorKind}
use Rattle.std.specs.declared.io.ErrorKind.TheVariants as kind
use Rattle.jwalk_model.specs.FileType.{is_symlink}
use Rattle.jwalk_model.specs.Paths.{join}
use Rattle.jwalk_model.specs.declared.file_type.FileType.{FileType}
use Rattle.jwalk_model.specs.declared.file_type.FileType.TheVariants as type
use Rattle.jwalk_ignore_rules.specs.Rules.Texts.{Texts}
use Rattle.jwalk_ignore_rules.specs.declared.rules.memory_texts.Content.{Content}
use Rattle.jwalk_ignore_rules.specs.declared.rules.memory_texts.Content.TheVariants.{Bytes, Unread}
use Rattle.jwalk_ignore_rules.specs.declared.rules.memory_texts.MemoryTexts.{MemoryTexts}

-- what is at a path: its type, and what reading it returns
pub record Stored : Type 0 where
  pub file_type : FileType
  pub bytes : Result (List ℕ) ErrorKind

-- a regular file
abbrev pub file : Result (List ℕ) ErrorKind → Stored
file bytes = record { file_type = type.File; bytes = bytes }

-- what is there, by value
abbrev pub stored : {A : Type 0} → Content A → Stored
stored (Bytes bytes) = file (Ok bytes.items)
stored (Unread type k) = record { file_type = type; bytes = Err k }

-- what is at a path
abbrev pub found_at : {A : Type 0} → MemoryTexts A → List ℕ → Option Stored
found_at texts path = option_map stored (get_by_text texts.contents path)

-- This is at a path in the new texts, and elsewhere what was there.
abbrev pub Holds : {A : Type 0} → List ℕ → Stored → MemoryTexts A → MemoryTexts A → Type 0
Holds path there old new = (other : List ℕ) → found_at new other ≡ (if bytes_eq path other then Some there else found_at old other)

-- what reading returns: what is missing isn't found
abbrev pub bytes_found : Option Stored → Result (List ℕ) ErrorKind
bytes_found None = Err kind.NotFound
bytes_found (Some there) = there.bytes

-- the type of what is there
abbrev pub type_found : Option Stored → Result FileType ErrorKind
type_found None = Err kind.NotFound
type_found (Some there) = Ok there.file_type

-- the type of what it leads to: a link leads nowhere
abbrev pub target_found : Option Stored → Result FileType ErrorKind
target_found None = Err kind.NotFound
target_found (Some there) = if is_symlink there.file_type then Err kind.NotFound else Ok there.file_type

-- the texts by value: a path is absolute from `/` on
abbrev pub texts_of : {A : Type 0} → MemoryTexts A → Texts
texts_of texts = record {
  bytes_of = λ path. bytes_found (found_at texts path);
  type_of = λ path. type_found (found_at texts path);
  target_type_of = λ path. target_found (found_at texts path);
  absolute_of = λ path. Ok (join (codes "/") path);
}
