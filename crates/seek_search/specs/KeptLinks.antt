-- Links that lead nowhere, where links are followed.
use Rattle.std.specs.Prelude.{Bool, true, false, Result, Ok, Err, if◌then◌else◌}
use Rattle.std.specs.declared.io.ErrorKind.{ErrorKind}
use Rattle.std.specs.declared.io.ErrorKind.TheVariants.{NotFound, NotADirectory}
use Rattle.jwalk.specs.jwalk_model.FileSystem.{Functions}
use Rattle.jwalk.specs.jwalk_model.FileType.{is_symlink}
use Rattle.jwalk.specs.jwalk_model.Metadata.{type_of}
use Rattle.jwalk.specs.jwalk_model.declared.metadata.Metadata.{Metadata}

-- whether an error says that nothing is there, or that the path goes on behind what is no directory
abbrev pub is_missing : ErrorKind → Bool
is_missing NotFound = true
is_missing NotADirectory = true
is_missing _ = false

-- the link at a path whose target is missing, or else that error
abbrev pub link_alone : ErrorKind → Result Metadata ErrorKind → Result Metadata ErrorKind
link_alone kind (Ok m) = if is_symlink (type_of m) then Ok m else Err kind
link_alone kind (Err _) = Err kind

-- the target of a path, if it is known, and else the link at the path, if its target is missing
abbrev pub target_or_link : Result Metadata ErrorKind → Result Metadata ErrorKind → Result Metadata ErrorKind
target_or_link (Ok m) link = Ok m
target_or_link (Err kind) link = if is_missing kind then link_alone kind link else Err kind

-- a file system whose links that lead nowhere are their own targets, if links are followed
abbrev pub functions_kept : Bool → Functions → Functions
functions_kept follow fs =
    record fs { meta_of = λ path. if follow then target_or_link (fs.meta_of path) (fs.link_meta_of path) else fs.meta_of path }
