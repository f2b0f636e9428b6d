-- Items that are kept until they are given on.
use Rattle.std.specs.Prelude.{Ok, Err}
use Rattle.std.specs.IoError.{error_kind}
use Rattle.std.specs.declared.io.ErrorKind.TheVariants.{InvalidFilename}
use Rattle.jwalk_model.specs.FileSystem as value
use Rattle.jwalk_fs.specs.Views.{named}
use Rattle.jwalk_indexed_fs.specs.declared.item.Item.{Item}
use Rattle.jwalk_indexed_fs.specs.declared.item.Item.TheVariants.{Named, BadName, Unread}

-- an item as a value: a name that isn't UTF-8 is an error
abbrev pub item_of : {A : Type 0} → Item A → value.Listed
item_of (Named item) = Ok (named item)
item_of (BadName bytes) = Err InvalidFilename
item_of (Unread e) = Err (error_kind e)
