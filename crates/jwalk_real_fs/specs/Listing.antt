-- A listing under way.
use Rattle.std.specs.Prelude.{◌≡◌, ◌==◌, ◌⊎◌, ℕ, Bool, true, false, not, All, List, [], ◌∷◌, ◌++◌, flat_map, map, take, Option, IfSome, Result, Ok, Err, if◌then◌else◌}
use Rattle.std.specs.List.{concat}
use Rattle.std.specs.Str.{is_utf8}
use Rattle.std.specs.IoError.{error_kind}
use Rattle.std.specs.declared.fs.attrs.Metadata as found
use Rattle.std.specs.declared.io.Error.{Error}
use Rattle.std.specs.declared.io.ErrorKind.{ErrorKind}
use Rattle.std.specs.declared.io.ErrorKind.TheVariants.{InvalidFilename, Interrupted}
use Rattle.jwalk_model.specs.FileSystem as value
use Rattle.jwalk_model.specs.declared.seen.Seen.{Seen}
use Rattle.jwalk_fs.specs.Views.{by_kind, TakesAll}
use Rattle.jwalk_fs.specs.declared.fault.Fault.{Fault}
use Rattle.jwalk_real_fs.specs.declared.disk_calls.DiskCalls as DiskCalls
use Rattle.jwalk_real_fs.specs.Seen.{IsFault, IsListed}
use Rattle.jwalk_real_fs.specs.Texts.{children, slash_ended}

-- the name of an item, or the kind of the error in its place
abbrev pub name_in : value.Listed → Result (List ℕ) ErrorKind
name_in (Ok item) = Ok item.name
name_in (Err kind) = Err kind

-- what a name is listed as: itself, or an error if it isn't UTF-8
abbrev pub told : List ℕ → Result (List ℕ) ErrorKind
told name = if is_utf8 name then Ok name else Err InvalidFilename

-- The items are those of these names, in order, with the errors in their places.
abbrev pub AreNamed : List (List ℕ) → List value.Listed → Type 0
AreNamed names items = map name_in items ≡ map told names

-- A sink takes items, of each of which this holds.
abbrev pub TakesEach : {K : Type 0} → (value.Listed → Type 0) → (K → List value.Listed → K → Type 0) → List value.Listed → K → K → Type 0
TakesEach Holds took items before after = All Holds items × TakesAll took items before after

-- A sink takes items, one for each name, in order, of each of which this holds.
abbrev pub Adds : {K : Type 0} → (value.Listed → Type 0) → (K → List value.Listed → K → Type 0) → List (List ℕ) → K → K → Type 0
Adds Holds took names before after = (items : List value.Listed) × AreNamed names items × TakesEach Holds took items before after

-- whether a call was interrupted
abbrev pub is_interrupted : ErrorKind → Bool
is_interrupted Interrupted = true
is_interrupted _ = false

-- what an error of a read gives: nothing if it was interrupted, and otherwise the error
abbrev pub given_by : ErrorKind → List value.Listed
given_by kind = if is_interrupted kind then [] else Err kind ∷ []

-- One read into a buffer gives the items of the names in it, and there may be more unless it gave nothing. An error is the last item, unless the read was interrupted.
abbrev pub IsRead : Result ℕ Error → List ℕ → Bool → List value.Listed → Type 0
IsRead (Ok count) buffer more items = (more ≡ not (count == 0)) × AreNamed (children (take count buffer)) items
IsRead (Err e) buffer more items = (more ≡ is_interrupted (error_kind e)) × (items ≡ given_by (error_kind e))

-- The bytes of a directory's names were read in pieces, one after another, and these are left. The items are those of the names in the pieces.
pub record AreReadUpTo (bytes left : List ℕ) (items : List value.Listed) : Type 0 where
  pub pieces : List (List ℕ)
  pub parts : bytes ≡ concat pieces ++ left
  pub named : AreNamed (flat_map children pieces) items

-- The items are those of all names that these bytes hold, or of the names in front of an error, which comes last.
pub record AreRead (bytes : List ℕ) (items : List value.Listed) : Type 0 where
  pub left : List ℕ
  pub read : List value.Listed
  pub front : AreReadUpTo bytes left read
  pub end : ((left ≡ []) × (items ≡ read)) ⊎ ((kind : ErrorKind) × (items ≡ read ++ Err kind ∷ []))

-- the same of a directory whose bytes may be known
abbrev pub AreReadOf : Option (List ℕ) → List value.Listed → Type 0
AreReadOf known items = IfSome known (λ bytes. AreRead bytes items)

module _ {R D : Type 0} (calls : DiskCalls.Ghosts R D) (rt : R) where
  -- The rest of an item is what asking for its name, behind this text, returned.
  abbrev pub IsAsked : List ℕ → value.Listed → Type 0
  IsAsked dir (Ok item) = (found : Result found.Metadata Error) × (seen : Result Seen Error)
      × calls.symlink_metadata_gives rt (dir ++ item.name) found × IsListed found seen × (item.seen ≡ by_kind (λ s. s) seen)
  IsAsked dir (Err kind) = Unit {0}

  -- Opening a directory, by its path ended by a slash, returned this.
  abbrev pub Opens : List ℕ → Result D Error → Type 0
  Opens path = calls.open_dir_gives rt (slash_ended path)

  -- A directory was opened. The items are those of the names that reads of it returned, with what asking for each returned. `remaining` tells the bytes of an open directory.
  abbrev pub IsListing : (D → Option (List ℕ)) → List ℕ → List value.Listed → Type 0
  IsListing remaining path items = (opened : D) × Opens path (Ok opened) × AreReadOf (remaining opened) items × All (IsAsked (slash_ended path)) items

  -- Opening it failed, and this is the fault.
  abbrev pub IsUnopened : List ℕ → Fault → Type 0
  IsUnopened path fault = (e : Error) × Opens path (Err e) × IsFault e fault
