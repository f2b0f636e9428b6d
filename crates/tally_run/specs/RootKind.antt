-- What is found at a root.
use Rattle.std.specs.Prelude.{◌≡◌, Bool, true, false, Result}
use Rattle.std.specs.declared.io.ErrorKind.{ErrorKind}
use Rattle.jwalk.specs.jwalk_model.declared.metadata.Metadata.{Metadata}
use Rattle.program_walks.specs.Folders.{found_in, has_folders}
use Rattle.tally_run.specs.declared.roots.RootKind.{RootKind}
use Rattle.tally_run.specs.declared.roots.RootKind.TheVariants.{LeftOut, Directory, Other}

-- A root that isn't left out is a directory that others may be in, or not, by what its path leads to, where links are followed or not.
abbrev pub IsKindOf : Bool → Result Metadata ErrorKind → RootKind → Type 0
IsKindOf follow found LeftOut = Unit {0}
IsKindOf follow found Directory = has_folders follow (found_in found) ≡ true
IsKindOf follow found Other = has_folders follow (found_in found) ≡ false
