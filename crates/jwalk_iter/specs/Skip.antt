-- What a skip drops behind the item that was yielded last.
use Rattle.std.specs.Prelude.{ℕ, nat_le, nat_lt, Bool, true, false, Option, Some, None, Ok, Err}
use Rattle.jwalk_model.specs.Error as value
use Rattle.jwalk_model.specs.Error.{Failure}
use Rattle.jwalk_model.specs.FileType.{is_dir}
use Rattle.jwalk_model.specs.Entry.{Item, Children}
use Rattle.jwalk_job.specs.Error.{depth_of}
use Rattle.jwalk_iter.specs.declared.skip.Skip.{Skip}
use Rattle.jwalk_iter.specs.declared.skip.Skip.TheVariants.{Nothing, Below, From}

-- whether an item at this depth is dropped
abbrev pub drops_at : Skip → ℕ → Bool
drops_at Nothing depth = false
drops_at (Below above) depth = nat_lt above depth
drops_at (From least) depth = nat_le least depth

-- Behind a directory that was read what is below it is dropped. Behind one whose reading failed nothing is.
abbrev pub behind_directory : ℕ → Option Failure → Skip
behind_directory depth None = Below depth
behind_directory depth (Some f) = Nothing

-- Behind an entry without a directory to be read the rest of its list is dropped, unless it is a directory all the same.
abbrev pub behind_leaf : ℕ → Bool → Skip
behind_leaf depth true = Nothing
behind_leaf depth false = From depth

abbrev pub behind_entry : {R : Type 0} → ℕ → Bool → Option (Children R) → Skip
behind_entry depth directory None = behind_leaf depth directory
behind_entry depth directory (Some c) = behind_directory depth c.error

-- Behind an error that came in a list the rest of the list is dropped. Behind one that has no depth of its own nothing is.
abbrev pub behind_error : Failure → Skip
behind_error (value.io depth path kind) = From depth
behind_error (value.unnamed depth directory kind) = From depth
behind_error (value.looped depth ancestor child) = From depth
behind_error value.busy = Nothing
behind_error value.memory = Nothing
behind_error value.lost = Nothing

module _ {R E : Type 0} where
  -- the depth of an item
  abbrev pub depth_at : Item R E → ℕ
  depth_at (Ok e) = e.depth
  depth_at (Err f) = depth_of f

  -- what is dropped behind an item
  abbrev pub skip_behind : Item R E → Skip
  skip_behind (Ok e) = behind_entry e.depth (is_dir e.file_type) e.read_children
  skip_behind (Err f) = behind_error f

  -- whether an item is dropped
  abbrev pub drops : Skip → Item R E → Bool
  drops skip x = drops_at skip (depth_at x)
