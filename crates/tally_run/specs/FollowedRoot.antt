-- A root that is a link, which counts as what it leads to.
use Rattle.std.specs.Prelude.{List, ℕ, Result, Ok, Err, bytes_eq, string_bytes, if◌then◌else◌}
use Rattle.std.specs.Arc.{arc_value}
use Rattle.std.specs.declared.io.ErrorKind.{ErrorKind}
use Rattle.std.specs.declared.sync.Arc.{Arc}
use Rattle.jwalk.specs.jwalk_model.FileSystem.{Functions}
use Rattle.jwalk.specs.jwalk_model.declared.metadata.Metadata.{Metadata}
use Rattle.tally_run.specs.declared.followed_root.FollowedRoot.{FollowedRoot}

-- the target of a path, if it is known, and else what is at the path
abbrev pub target_or_own : Result Metadata ErrorKind → Result Metadata ErrorKind → Result Metadata ErrorKind
target_or_own (Ok m) own = Ok m
target_or_own (Err kind) own = own

-- a file system on which a root is what it leads to
abbrev pub functions_from : List ℕ → Functions → Functions
functions_from root fs =
    record fs { link_meta_of = λ path. if bytes_eq path root then target_or_own (fs.meta_of path) (fs.link_meta_of path) else fs.link_meta_of path }

-- the disk below, and the root
abbrev pub disk_in : {S A : Type 0} → Arc (FollowedRoot S) A → S
disk_in it = arc_value (arc_value it).disk

abbrev pub root_in : {S A : Type 0} → Arc (FollowedRoot S) A → List ℕ
root_in it = string_bytes (arc_value it).root
