-- Reading from left to right: a value, and the bytes behind it.
use Rattle.std.specs.Prelude.{◌≡◌, ℕ, zero, suc, ◌-◌, ◌<◌, ◌^◌, ℤ, pos, negsuc, Bool, true, false, ◌&&◌, ◌==◌, nat_lt, if◌then◌else◌, List, [], ◌∷◌, length, Option, Some, None, option_map, Result, Ok, Err, codes, decimal}
use Rattle.std.specs.Str.Parse.{digits_value}
use Rattle.std.specs.Str.{bytes_eq}
use Rattle.jwalk_model.specs.declared.file_type.FileType.{FileType}
use Rattle.jwalk_model.specs.declared.file_type.FileType.TheVariants.{Dir, File, Symlink, Other}
use Rattle.jwalk_model.specs.declared.metadata.Moment.{Moment}
use Rattle.jwalk_snapshot.specs.declared.error.SnapshotError.{SnapshotError}
use Rattle.jwalk_snapshot.specs.declared.error.SnapshotError.TheVariants.{Memory, NoSnapshot, OtherVersion, Damaged, NoText}
use Rattle.jwalk_snapshot.specs.declared.name.Facts.{Facts}
use Rattle.jwalk_snapshot.specs.declared.block.Stamp.{Stamp}
use Rattle.jwalk_snapshot.specs.declared.block.Listing.{Listing}
use Rattle.jwalk_snapshot.specs.declared.block.Listing.TheVariants.{Stamped, Unstamped, Unread}
use Rattle.jwalk_snapshot.specs.Text.{Entry, Folder, Call, Content, count_of, is_snapshot}

infixl 10 ◌>>=◌
abbrev pub ◌>>=◌ : {A B : Type 0} → Option A → (A → Option B) → Option B
(Some x) >>= f = f x
None >>= f = None

-- What a function returned, seen by view, is what reading gives, unless memory ran out. It fails with no other error.
abbrev pub Fails : {Y : Type 0} → SnapshotError → Option Y → Type 0
Fails Memory read = Unit {0}
Fails Damaged read = read ≡ None
Fails NoSnapshot read = ⊥
Fails OtherVersion read = ⊥
Fails NoText read = ⊥

abbrev pub Gives : {X Y : Type 0} → (X → Y) → Result X SnapshotError → Option Y → Type 0
Gives view (Ok x) read = read ≡ Some (view x)
Gives view (Err e) read = Fails e read

-- what is before the first such byte, and what is behind it
unfoldable pub field_at : ℕ → List ℕ → Option (List ℕ × List ℕ)
field_at end [] = None
field_at end (b ∷ bs) = if b == end then Some ([], bs) else option_map (λ f. (b ∷ f.0, f.1)) (field_at end bs)

-- the number that has this text
unfoldable pub number_in : List ℕ → Option ℕ
number_in word = let n = digits_value 10 word in if nat_lt n (2 ^ 64) && bytes_eq (decimal n) word then Some n else None

-- what a number means behind a minus, and without one
abbrev pub below_zero : Option ℕ → Option ℤ
below_zero None = None
below_zero (Some zero) = None
below_zero (Some (suc n)) = if nat_lt n (2 ^ 63) then Some (negsuc n) else None

abbrev pub from_zero : Option ℕ → Option ℤ
from_zero None = None
from_zero (Some n) = if nat_lt n (2 ^ 63) then Some (pos n) else None

-- the number that has this text, maybe with a minus
unfoldable pub signed_in : List ℕ → Option ℤ
signed_in [] = None
signed_in (b ∷ bs) = if b == 45 then below_zero (number_in bs) else from_zero (number_in (b ∷ bs))

unfoldable pub number_at : List ℕ → Option (ℕ × List ℕ)
number_at bytes = do
  word ← field_at 32 bytes
  n ← number_in word.0
  Some (n, word.1)

unfoldable pub signed_at : List ℕ → Option (ℤ × List ℕ)
signed_at bytes = do
  word ← field_at 32 bytes
  z ← signed_in word.0
  Some (z, word.1)

unfoldable pub moment_at : List ℕ → Option (Moment × List ℕ)
moment_at bytes = do
  seconds ← signed_at bytes
  nanoseconds ← number_at seconds.1
  if nat_lt nanoseconds.0 (2 ^ 32) then Some (record { seconds = seconds.0; nanoseconds = nanoseconds.0 }, nanoseconds.1) else None

-- what a letter says of a name: its type, and whether facts follow
unfoldable pub kind_of : ℕ → Option (FileType × Bool)
kind_of c =
    if c == 102 then Some (File, true)
    else if c == 100 then Some (Dir, true)
    else if c == 108 then Some (Symlink, true)
    else if c == 111 then Some (Other, true)
    else if c == 70 then Some (File, false)
    else if c == 68 then Some (Dir, false)
    else if c == 76 then Some (Symlink, false)
    else if c == 79 then Some (Other, false)
    else None

abbrev pub kind_in : List ℕ → Option (FileType × Bool)
kind_in [] = None
kind_in (c ∷ []) = kind_of c
kind_in (c ∷ d ∷ ds) = None

unfoldable pub facts_at : List ℕ → Option (Facts × List ℕ)
facts_at bytes = do
  len ← number_at bytes
  modified ← moment_at len.1
  inode ← number_at modified.1
  Some (record { len = len.0; modified = modified.0; inode = inode.0 }, inode.1)

-- facts, where they follow
unfoldable pub any_facts_at : Bool → List ℕ → Option (Option Facts × List ℕ)
any_facts_at false bytes = Some (None, bytes)
any_facts_at true bytes = do
  facts ← facts_at bytes
  Some (Some facts.0, facts.1)

unfoldable pub entry_at : List ℕ → Option (Entry × List ℕ)
entry_at bytes = do
  word ← field_at 32 bytes
  kind ← kind_in word.0
  facts ← any_facts_at kind.1 word.1
  name ← field_at 0 facts.1
  Some (record { name = name.0; file_type = kind.0; facts = facts.0 }, name.1)

unfoldable pub stamp_at : List ℕ → Option (Stamp × List ℕ)
stamp_at bytes = do
  device ← number_at bytes
  inode ← number_at device.1
  changed ← moment_at inode.1
  Some (record { identity = record { device = device.0; inode = inode.0 }; changed = changed.0 }, changed.1)

-- how a directory was listed, where its word was read
unfoldable pub listing_of : List ℕ → List ℕ → Option (Listing × List ℕ)
listing_of [] rest = None
listing_of (c ∷ []) rest =
    if c == 83 then (stamp_at rest >>= λ stamp. Some (Stamped stamp.0, stamp.1))
    else if c == 82 then Some (Unstamped, rest)
    else if c == 85 then Some (Unread, rest)
    else None
listing_of (c ∷ d ∷ ds) rest = None

unfoldable pub listing_at : List ℕ → Option (Listing × List ℕ)
listing_at bytes = do
  word ← field_at 32 bytes
  listing_of word.0 word.1

-- a number of values, one behind the other
unfoldable pub list_at : {A : Type 0} → (List ℕ → Option (A × List ℕ)) → ℕ → List ℕ → Option (List A × List ℕ)
list_at read zero bytes = Some ([], bytes)
list_at read (suc n) bytes = do
  first ← read bytes
  others ← list_at read n first.1
  Some (first.0 ∷ others.0, others.1)

unfoldable pub folder_at : List ℕ → Option (Folder × List ℕ)
folder_at bytes = do
  listing ← listing_at bytes
  count ← number_at listing.1
  path ← field_at 0 count.1
  names ← list_at entry_at count.0 path.1
  Some (record { path = path.0; listing = listing.0; names = names.0 }, names.1)

unfoldable pub call_at : List ℕ → Option (Call × List ℕ)
call_at bytes = do
  count ← number_at bytes
  root ← field_at 0 count.1
  absolute ← field_at 0 root.1
  words ← list_at (field_at 0) count.0 absolute.1
  Some (record { root = root.0; absolute = absolute.0; words = words.0 }, words.1)

unfoldable pub folders_at : List ℕ → Option (List Folder × List ℕ)
folders_at bytes = do
  count ← number_at bytes
  folders ← list_at folder_at count.0 count.1
  total ← number_at folders.1
  if total.0 == count_of folders.0 then Some (folders.0, total.1) else None

-- what is behind the mark
unfoldable pub after_mark : List ℕ → Option (List ℕ)
after_mark bytes = do
  name ← field_at 32 bytes
  version ← field_at 32 name.1
  if bytes_eq name.0 (codes "jwalk-snapshot") && bytes_eq version.0 (codes "1") then Some version.1 else None

abbrev pub content : Call → List Folder → Content
content call folders = record { call = call; folders = folders }

-- what was read, if nothing is behind it and it has a text
abbrev pub whole : Call → List Folder × List ℕ → Option Content
whole call folders = if length folders.1 == 0 && is_snapshot (content call folders.0) then Some (content call folders.0) else None

-- what has this text in front of its sum
unfoldable pub body_at : List ℕ → Option Content
body_at bytes = do
  rest ← after_mark bytes
  call ← call_at rest
  folders ← folders_at call.1
  whole call.0 folders
