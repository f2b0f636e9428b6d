-- A disk and texts of rules, as they are seen from a folder.
use Rattle.std.specs.Prelude.{◌≡◌, ℕ, Bool, true, false, List, Option, None, Some, Result, Ok, Err, option_map, string_bytes}
use Rattle.std.specs.Option.{option_map_or}
use Rattle.std.specs.declared.io.ErrorKind.{ErrorKind}
use Rattle.jwalk.specs.jwalk_model.FileSystem.{Functions}
use Rattle.jwalk.specs.jwalk_model.FileType.{is_dir}
use Rattle.jwalk.specs.jwalk_model.Metadata.{type_of}
use Rattle.jwalk.specs.jwalk_model.declared.metadata.Metadata.{Metadata}
use Rattle.jwalk.specs.jwalk_model.Paths.{dot, join}
use Rattle.jwalk_ignore.specs.Rules.Texts.{Texts}
use Rattle.program_parts.specs.Paths.{without_here}
use Rattle.seek_words.specs.declared.asked.Asked.{Asked}
use Rattle.seek_search.specs.declared.based.Based.{Based}

-- a path as it is seen from a folder, if one is named
abbrev pub based : Option (List ℕ) → List ℕ → List ℕ
based None path = path
based (Some base) path = join base (without_here path)

-- a file system as it is seen from a folder
abbrev pub functions_based : Option (List ℕ) → Functions → Functions
functions_based base fs = record {
  list_of = λ path. fs.list_of (based base path);
  meta_of = λ path. fs.meta_of (based base path);
  link_meta_of = λ path. fs.link_meta_of (based base path);
  target_of = λ path. fs.target_of (based base path);
}

-- texts of rules as they are seen from a folder
abbrev pub texts_based : Option (List ℕ) → Texts → Texts
texts_based base texts = record {
  bytes_of = λ path. texts.bytes_of (based base path);
  type_of = λ path. texts.type_of (based base path);
  target_type_of = λ path. texts.target_type_of (based base path);
  absolute_of = λ path. texts.absolute_of (based base path);
}

-- the folder that a disk or texts are seen from
abbrev pub base_of : {V : Type 0} → Based V → Option (List ℕ)
base_of it = option_map string_bytes it.base

-- the folder that a search runs in, if it isn't that of the program
abbrev pub base_asked : Asked → Option (List ℕ)
base_asked asked = option_map (λ base. base.now) asked.base

-- whether this is the metadata of a directory
abbrev pub is_folder : Result Metadata ErrorKind → Bool
is_folder (Ok m) = is_dir (type_of m)
is_folder (Err k) = false

-- whether the folder that is asked for is a directory or a link to one, if one is named, on the disk as it is seen from there
abbrev pub has_folder : Functions → Asked → Bool
has_folder fs asked = option_map_or (λ _. is_folder (fs.meta_of dot)) asked.base true

-- This is a disk, or texts, as it is seen from the folder that is asked for.
pub record IsBased {V : Type 0} (value : V) (asked : Asked) (it : Based V) : Type 0 where
  pub of : it.inner ≡ value
  pub from : base_of it ≡ base_asked asked
