-- The owner that a call names, by the files of users and groups.
use Rattle.std.specs.Prelude.{◌≡◌, ℕ, ◌==◌, ◌||◌, is_some, List, [], ◌∷◌, codes, option_and_then, option_map, Option, None, Some, Result, Ok, Err, if◌then◌else◌}
use Rattle.std.specs.List.{after_first, before_first}
use Rattle.std.specs.Option.{option_or}
use Rattle.std.specs.declared.io.ErrorKind.{ErrorKind}
use Rattle.jwalk_ignore_rules.specs.Rules.Texts.{Texts}
use Rattle.seek_words.specs.Size.{digits_number}
use Rattle.seek_words.specs.declared.asked.Asked.{Asked}
use Rattle.seek_words.specs.declared.owner.IdTest.{IdTest}
use Rattle.seek_words.specs.declared.owner.IdTest.TheVariants.{Is, IsNot}
use Rattle.seek_words.specs.declared.owner.Owner.{Owner}
use Rattle.seek_found.specs.Accounts.{id_named, in_32_bits}

-- a text without a `+` in front
abbrev pub without_plus : List ℕ → List ℕ
without_plus [] = []
without_plus (c ∷ cs) = if c == 43 then cs else c ∷ cs

-- the number of a text of digits, which may have a `+` in front
abbrev pub number_in : List ℕ → Option ℕ
number_in text = option_and_then in_32_bits (digits_number (without_plus text))

-- the number of a text: its own, or that of a name
abbrev pub id_in : List ℕ → List ℕ → Option ℕ
id_in accounts text = option_or (number_in text) (id_named accounts text)

-- the test of a user or a group: for a number or a name, or for any but that after a `!`; an empty text names none
abbrev pub part_in : List ℕ → List ℕ → Option (Option IdTest)
part_in accounts [] = Some None
part_in accounts (c ∷ cs) =
    if c == 33 then option_map (λ id. Some (IsNot id)) (id_in accounts cs) else option_map (λ id. Some (Is id)) (id_in accounts (c ∷ cs))

-- an owner of these parts; if none is named, any owner
abbrev pub owner_by : Option IdTest → Option IdTest → Option Owner
owner_by user group = if is_some user || is_some group then Some (record { user = user; group = group }) else None

-- the same, if both parts can be read
abbrev pub owner_of_parts : Option (Option IdTest) → Option (Option IdTest) → Option (Option Owner)
owner_of_parts (Some user) (Some group) = Some (owner_by user group)
owner_of_parts _ _ = None

-- the user of a text, which a colon may end
abbrev pub user_part : List ℕ → List ℕ
user_part = before_first (λ b. b == 58)

-- the group of a text, after the first colon
abbrev pub group_part : List ℕ → List ℕ
group_part = after_first (λ b. b == 58)

-- the owner of a text, or any: a user, a colon and a group
abbrev pub owner_in : List ℕ → List ℕ → List ℕ → Option (Option Owner)
owner_in users groups text = owner_of_parts (part_in users (user_part text)) (part_in groups (group_part text))

-- the files of users and groups
abbrev pub users_file : List ℕ
users_file = codes "/etc/passwd"

abbrev pub groups_file : List ℕ
groups_file = codes "/etc/group"

-- what a file has, if it can be read
abbrev pub accounts_found : Result (List ℕ) ErrorKind → List ℕ
accounts_found (Ok bytes) = bytes
accounts_found (Err kind) = []

abbrev pub accounts_at : Texts → List ℕ → List ℕ
accounts_at texts path = accounts_found (texts.bytes_of path)

-- This is of some bytes of a file. If texts always answer the same, as `told` says, the file has these.
pub record ByFile (told : Type 0) (texts : Texts) (file : List ℕ) (is_of : List ℕ → Type 0) : Type 0 where
  pub accounts : List ℕ
  pub are : told → accounts ≡ accounts_at texts file
  pub is : is_of accounts

-- The number of a text is this, if it has one, by what a file had when it was read.
abbrev pub IsIdBy : Type 0 → Texts → List ℕ → List ℕ → Option ℕ → Type 0
IsIdBy told texts file text id = ByFile told texts file (λ accounts. id ≡ id_in accounts text)

-- The test of a user or a group is this, if the text has one.
abbrev pub IsPartBy : Type 0 → Texts → List ℕ → List ℕ → Option (Option IdTest) → Type 0
IsPartBy told texts file text part = ByFile told texts file (λ accounts. part ≡ part_in accounts text)

-- The owner of a text is this, if it has one.
abbrev pub IsOwnerBy : Type 0 → Texts → List ℕ → Option (Option Owner) → Type 0
IsOwnerBy told texts text owner = ByFile told texts users_file (λ users. ByFile told texts groups_file (λ groups. owner ≡ owner_in users groups text))

-- The owner is the one that a call names, if it names one.
abbrev pub IsOwnerFor : Type 0 → Texts → Option (List ℕ) → Option Owner → Type 0
IsOwnerFor told texts None owner = owner ≡ None
IsOwnerFor told texts (Some text) owner = IsOwnerBy told texts text (Some owner)

abbrev pub IsOwnerOf : Type 0 → Texts → Asked → Option Owner → Type 0
IsOwnerOf told texts asked owner = IsOwnerFor told texts (option_map (λ it. it.now) asked.owner_text) owner

-- A call names what isn't an owner.
abbrev pub NamesNoOwner : Type 0 → Texts → Asked → Type 0
NamesNoOwner told texts asked = (text : List ℕ) × (option_map (λ it. it.now) asked.owner_text ≡ Some text) × IsOwnerBy told texts text None
