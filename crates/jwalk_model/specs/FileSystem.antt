-- A file system, as four functions of the path.
use Rattle.std.specs.Prelude.{ℕ, Bool, List, Result, if◌then◌else◌}
use Rattle.std.specs.declared.io.ErrorKind.{ErrorKind}
use Rattle.jwalk_model.specs.declared.metadata.Metadata.{Metadata}
use Rattle.jwalk_model.specs.declared.seen.Seen.{Seen}

-- an item of a listing that has a name: what is seen of it, or the kind of the error in its place
pub record Named : Type 0 where
  pub name : List ℕ
  pub seen : Result Seen ErrorKind

-- an item of a listing: it is named, or it is the kind of an error
abbrev pub Listed : Type 0
Listed = Result Named ErrorKind

-- what `read_dir`, `metadata`, `symlink_metadata` and `read_link` of `std::fs` return at each path
pub record Functions : Type 0 where
  pub list_of : List ℕ → Result (List Listed) ErrorKind
  pub meta_of : List ℕ → Result Metadata ErrorKind
  pub link_meta_of : List ℕ → Result Metadata ErrorKind
  pub target_of : List ℕ → Result (List ℕ) ErrorKind

-- what is known of a path: through its last link, or of that link itself
abbrev pub metadata_at : Functions → Bool → List ℕ → Result Metadata ErrorKind
metadata_at fs through path = if through then fs.meta_of path else fs.link_meta_of path
