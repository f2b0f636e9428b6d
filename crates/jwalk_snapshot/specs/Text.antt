-- The text of a snapshot, as a function of what the snapshot holds.
use Rattle.std.specs.Prelude.{◌≡◌, ℕ, ◌+◌, ◌<◌, ◌^◌, ℤ, Bool, true, false, not, ◌&&◌, ◌||◌, ◌==◌, nat_lt, List, [], ◌∷◌, ◌++◌, length, map, sum_by, Option, Some, None, is_some, IfSome, codes, decimal, FitsSigned, if◌then◌else◌}
use Rattle.std.specs.List.{flat_map, list_all, AllByRecursion}
use Rattle.std.specs.Int.{w64}
use Rattle.std.specs.Str.{IsUtf8}
use Rattle.std.specs.Fmt.{signed_decimal}
use Rattle.std.specs.Cmp.Lexicographic.{slice_cmp}
use Rattle.std.specs.Ordering.{nat_cmp, is_lt}
use denote.Ref.{Bor}
use Rattle.hex.specs.Hex.{encode_lower}
use Rattle.sha2.specs.Sha256.{sha256}
use Rattle.jwalk_model.specs.declared.file_type.FileType.{FileType}
use Rattle.jwalk_model.specs.declared.file_type.FileType.TheVariants.{Dir, File, Symlink, Other}
use Rattle.jwalk_model.specs.declared.metadata.Moment.{Moment}
use Rattle.jwalk_snapshot.specs.declared.name.Facts.{Facts}
use Rattle.jwalk_snapshot.specs.declared.name.Name.{Name}
use Rattle.jwalk_snapshot.specs.declared.block.Stamp.{Stamp}
use Rattle.jwalk_snapshot.specs.declared.block.Listing.{Listing}
use Rattle.jwalk_snapshot.specs.declared.block.Listing.TheVariants.{Stamped, Unstamped, Unread}
use Rattle.jwalk_snapshot.specs.declared.block.Block.{Block}
use Rattle.jwalk_snapshot.specs.declared.head.Head.{Head}
use Rattle.jwalk_snapshot.specs.declared.snapshot.Snapshot.{Snapshot}

-- ---- what a snapshot holds, apart from where its texts lie in memory

-- a name in a directory
pub record Entry : Type 0 where
  pub name : List ℕ
  pub file_type : FileType
  pub facts : Option Facts

-- a directory
pub record Folder : Type 0 where
  pub path : List ℕ
  pub listing : Listing
  pub names : List Entry

-- of which call it is
pub record Call : Type 0 where
  pub root : List ℕ
  pub absolute : List ℕ
  pub words : List (List ℕ)

-- all of it
pub record Content : Type 0 where
  pub call : Call
  pub folders : List Folder

abbrev pub entry_of : Name → Entry
entry_of n = record { name = n.name.now; file_type = n.file_type; facts = n.facts }

abbrev pub folder_of : Block → Folder
folder_of b = record { path = b.path.now; listing = b.listing; names = map entry_of b.names.items }

abbrev pub text_in : Bor (List ℕ) → List ℕ
text_in t = t.now

abbrev pub call_of : Head → Call
call_of h = record { root = h.root.now; absolute = h.absolute.now; words = map text_in h.words.items }

abbrev pub content_of : Snapshot → Content
content_of s = record { call = call_of s.head; folders = map folder_of s.blocks.items }

-- ---- its text

-- digits, and a space
abbrev pub number_text : ℕ → List ℕ
number_text n = decimal n ++ 32 ∷ []

-- the same with a sign where it is below 0
abbrev pub signed_text : ℤ → List ℕ
signed_text z = signed_decimal z ++ 32 ∷ []

-- a text, and a NUL
abbrev pub ended : List ℕ → List ℕ
ended text = text ++ 0 ∷ []

-- seconds and nanoseconds
abbrev pub moment_text : Moment → List ℕ
moment_text m = signed_text m.seconds ++ number_text m.nanoseconds

-- the letter of a type: in lower case where facts follow
abbrev pub letter : FileType → Bool → ℕ
letter Dir true = 100
letter File true = 102
letter Symlink true = 108
letter Other true = 111
letter Dir false = 68
letter File false = 70
letter Symlink false = 76
letter Other false = 79

-- length, time of modification, file number
abbrev pub facts_text : Facts → List ℕ
facts_text f = number_text f.len ++ moment_text f.modified ++ number_text f.inode

abbrev pub any_facts_text : Option Facts → List ℕ
any_facts_text None = []
any_facts_text (Some f) = facts_text f

-- the letter of the type, what is known, and the name
abbrev pub entry_text : Entry → List ℕ
entry_text e = letter e.file_type (is_some e.facts) ∷ 32 ∷ any_facts_text e.facts ++ ended e.name

-- device, inode, time of change
abbrev pub stamp_text : Stamp → List ℕ
stamp_text s = number_text s.identity.device ++ number_text s.identity.inode ++ moment_text s.changed

-- S and the stamp, R if it was read and has no stamp, U if it couldn't be read
abbrev pub listing_text : Listing → List ℕ
listing_text (Stamped s) = 83 ∷ 32 ∷ stamp_text s
listing_text Unstamped = 82 ∷ 32 ∷ []
listing_text Unread = 85 ∷ 32 ∷ []

-- how it was listed, how many names it has, its path, and its names
abbrev pub folder_text : Folder → List ℕ
folder_text f = listing_text f.listing ++ number_text (length f.names) ++ ended f.path ++ flat_map entry_text f.names

-- what a snapshot begins with
abbrev pub mark : List ℕ
mark = codes "jwalk-snapshot 1 "

-- how many words there are, the root, and the words
abbrev pub call_text : Call → List ℕ
call_text c = number_text (length c.words) ++ ended c.root ++ ended c.absolute ++ flat_map ended c.words

-- how many names are in all directories
abbrev pub count_of : List Folder → ℕ
count_of folders = sum_by (λ f. length f.names) folders

-- the same, if a number of a snapshot can be that great
abbrev pub count_in : List Folder → Option ℕ
count_in folders = if nat_lt (count_of folders) (2 ^ 64) then Some (count_of folders) else None

-- how many directories, each of them, and how many names in all
abbrev pub folders_text : List Folder → List ℕ
folders_text fs = number_text (length fs) ++ flat_map folder_text fs ++ number_text (count_of fs)

-- all that the sum is of
abbrev pub body_text : Content → List ℕ
body_text c = mark ++ call_text c.call ++ folders_text c.folders

-- the sum of a text, in hex digits, and a NUL
abbrev pub sum_text : List ℕ → List ℕ
sum_text text = ended (encode_lower (sha256 text))

-- the whole text
abbrev pub text_of : Content → List ℕ
text_of c = body_text c ++ sum_text (body_text c)

-- ---- what has a text

-- no byte is a NUL
abbrev pub is_text : List ℕ → Bool
is_text bytes = list_all (λ b. not (b == 0)) bytes

-- no byte is a NUL or a slash, and there is one
abbrev pub is_name : List ℕ → Bool
is_name bytes = is_text bytes && (not (length bytes == 0) && list_all (λ b. not (b == 47)) bytes)

-- the first is below the second in the order of bytes
abbrev pub is_below : List ℕ → List ℕ → Bool
is_below a b = is_lt (slice_cmp nat_cmp a b)

-- whether a name may follow the one before it, if there is one
abbrev pub may_follow : Option (List ℕ) → List ℕ → Bool
may_follow None name = true
may_follow (Some before) name = is_below before name

abbrev pub ascends_behind : Option (List ℕ) → List Entry → Bool
ascends_behind before [] = true
ascends_behind before (e ∷ es) = may_follow before e.name && ascends_behind (Some e.name) es

-- each name is above the one before it
abbrev pub is_ascending : List Entry → Bool
is_ascending es = ascends_behind None es

abbrev pub is_entry : Entry → Bool
is_entry e = is_name e.name

abbrev pub is_folder : Folder → Bool
is_folder f = is_text f.path && (list_all is_entry f.names && is_ascending f.names)

abbrev pub is_call : Call → Bool
is_call c = is_text c.root && (is_text c.absolute && list_all is_text c.words)

-- whether it has a text: no NULs, ascending names without slashes, and a count that fits
abbrev pub is_snapshot : Content → Bool
is_snapshot c = is_call c.call && (list_all is_folder c.folders && nat_lt (count_of c.folders) (2 ^ 64))

-- ---- what fits the types of the fields

pub record MomentFits (m : Moment) : Type 0 where
  pub seconds : FitsSigned w64 m.seconds
  pub nanoseconds : m.nanoseconds < 2 ^ 32

pub record FactsFit (f : Facts) : Type 0 where
  pub len : f.len < 2 ^ 64
  pub modified : MomentFits f.modified
  pub inode : f.inode < 2 ^ 64

pub record StampFits (s : Stamp) : Type 0 where
  pub device : s.identity.device < 2 ^ 64
  pub inode : s.identity.inode < 2 ^ 64
  pub changed : MomentFits s.changed

abbrev pub EntryFits : Entry → Type 0
EntryFits e = IfSome e.facts FactsFit

abbrev pub ListingFits : Listing → Type 0
ListingFits (Stamped s) = StampFits s
ListingFits Unstamped = Unit {0}
ListingFits Unread = Unit {0}

pub record FolderFits (f : Folder) : Type 0 where
  pub listing : ListingFits f.listing
  pub names : AllByRecursion EntryFits f.names
  pub count : length f.names < 2 ^ 64

pub record ContentFits (c : Content) : Type 0 where
  pub words : length c.call.words < 2 ^ 64
  pub folders : AllByRecursion FolderFits c.folders
  pub count : length c.folders < 2 ^ 64

-- it has a text, which is UTF-8, and its numbers fit
pub record IsSnapshot (c : Content) : Type 0 where
  pub is : is_snapshot c ≡ true
  pub fits : ContentFits c
  pub utf8 : IsUtf8 (body_text c)
