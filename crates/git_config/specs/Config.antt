-- What git's configuration says: settings, one after another, up to a line that is bad.
use Rattle.std.specs.Prelude.{ℕ, ◌+◌, ◌==◌, Bool, false, not, ◌&&◌, ◌||◌, List, [], ◌∷◌, ◌++◌, length, take, drop, bytes_eq, Option, Some, None, if◌then◌else◌}
use Rattle.std.specs.Char.{is_ascii_alphabetic, is_ascii_alphanumeric, to_ascii_lowercase}

-- What is read of a setting's value: the name, whether the value is between quotes, its text, and the spaces behind it,
-- which count if more of it follows.
pub record Written : Type 0 where
  pub name : List ℕ
  pub quoted : Bool
  pub text : List ℕ
  pub spaces : List ℕ

-- Where a byte is: where a section or a setting may begin, or in a comment; in a header, in the name of the section,
-- behind a space, in quotes, behind a backslash there, or behind the quotes; in the name of a setting or behind a space
-- behind it; in its value, behind a backslash there, or in a comment behind it.
pub data Place : Type 0 where
  Blank : Place
  Comment : Place
  Section : List ℕ → Place
  Gap : List ℕ → Place
  Subsection : List ℕ → Place
  SubsectionEscape : List ℕ → Place
  Header : List ℕ → Place
  Key : List ℕ → Place
  KeyGap : List ℕ → Place
  Value : Written → Place
  Escape : Written → Place
  ValueComment : Written → Place

-- What a byte makes of its place: another place; the end of a section's header, or of a setting; or a fault, which is
-- told of its line, or of the next one.
pub data Step : Type 0 where
  Goes : Place → Step
  Enters : List ℕ → Step
  Sets : List ℕ → Option (List ℕ) → Step
  Fails : Step
  FailsNext : Step

-- what git takes for a space
abbrev pub is_space : ℕ → Bool
is_space byte = byte == 32 || byte == 9 || byte == 10 || byte == 13

-- whether a byte may be in the name of a section or of a setting
abbrev pub is_in_name : ℕ → Bool
is_in_name byte = is_ascii_alphanumeric byte || byte == 45

-- whether a byte begins a comment
abbrev pub is_comment : ℕ → Bool
is_comment byte = byte == 35 || byte == 59

abbrev pub after_blank : ℕ → Step
after_blank byte =
    if is_space byte then Goes Blank else if is_comment byte then Goes Comment else if byte == 91 then Goes (Section [])
    else if is_ascii_alphabetic byte then Goes (Key (to_ascii_lowercase byte ∷ [])) else Fails

abbrev pub after_comment : ℕ → Step
after_comment byte = if byte == 10 then Goes Blank else Goes Comment

-- a header begins with a name, which has a letter at least
abbrev pub after_section : List ℕ → ℕ → Step
after_section name byte =
    if byte == 93 && not (length name == 0) then Enters name
    else if is_in_name byte || byte == 46 then Goes (Section (name ++ to_ascii_lowercase byte ∷ []))
    else if not (byte == 10) && is_space byte then Goes (Gap name) else Fails

-- behind a space is another one or a quote
abbrev pub after_gap : List ℕ → ℕ → Step
after_gap name byte =
    if byte == 34 then Goes (Subsection (name ++ 46 ∷ []))
    else if not (byte == 10) && is_space byte then Goes (Gap name) else Fails

abbrev pub after_subsection : List ℕ → ℕ → Step
after_subsection name byte =
    if byte == 10 then Fails else if byte == 34 then Goes (Header name)
    else if byte == 92 then Goes (SubsectionEscape name) else Goes (Subsection (name ++ byte ∷ []))

-- behind a backslash in a header each byte is itself
abbrev pub after_subsection_escape : List ℕ → ℕ → Step
after_subsection_escape name byte = if byte == 10 then Fails else Goes (Subsection (name ++ byte ∷ []))

-- the quotes are the end of a header
abbrev pub after_header : List ℕ → ℕ → Step
after_header name byte = if byte == 93 then Enters name else if byte == 10 then FailsNext else Fails

-- no value yet
abbrev pub begun : List ℕ → Written
begun name = record { name = name; quoted = false; text = []; spaces = [] }

-- behind a name is a `=`, or the end of its line
abbrev pub after_key_gap : List ℕ → ℕ → Step
after_key_gap name byte =
    if byte == 10 then Sets name None else if byte == 32 || byte == 9 then Goes (KeyGap name)
    else if byte == 61 then Goes (Value (begun name)) else Fails

abbrev pub after_key : List ℕ → ℕ → Step
after_key name byte = if is_in_name byte then Goes (Key (name ++ to_ascii_lowercase byte ∷ [])) else after_key_gap name byte

abbrev pub with_spaces : Written → Written
with_spaces written = record written { text = written.text ++ written.spaces; spaces = [] }

-- one more byte of a value, and the spaces in front of it
abbrev pub with_text : ℕ → Written → Written
with_text byte written = record written { text = (written.text ++ written.spaces) ++ byte ∷ []; spaces = [] }

-- a space, which doesn't count in front of the value
abbrev pub with_gap : ℕ → Written → Written
with_gap byte written = if length written.text == 0 then written else record written { spaces = written.spaces ++ byte ∷ [] }

-- a quote, which begins or ends a part in which spaces and the marks of comments are text
abbrev pub with_quote : Written → Written
with_quote written = record written { quoted = not written.quoted; text = written.text ++ written.spaces; spaces = [] }

abbrev pub value_ended : Written → Step
value_ended written = Sets written.name (Some written.text)

-- behind a byte in quotes, or one that means the same outside
abbrev pub after_text : Written → ℕ → Step
after_text written byte =
    if byte == 92 then Goes (Escape (with_spaces written)) else if byte == 34 then Goes (Value (with_quote written))
    else Goes (Value (with_text byte written))

abbrev pub after_quoted : Written → ℕ → Step
after_quoted written byte = if byte == 10 then Fails else after_text written byte

abbrev pub after_plain : Written → ℕ → Step
after_plain written byte =
    if byte == 10 then value_ended written else if is_space byte then Goes (Value (with_gap byte written))
    else if is_comment byte then Goes (ValueComment written) else after_text written byte

abbrev pub after_value : Written → ℕ → Step
after_value written byte = if written.quoted then after_quoted written byte else after_plain written byte

-- the byte that one behind a backslash stands for, if it may be there
abbrev pub escaped : ℕ → Option ℕ
escaped byte =
    if byte == 116 then Some 9 else if byte == 98 then Some 8 else if byte == 110 then Some 10
    else if byte == 92 || byte == 34 then Some byte else None

abbrev pub with_escaped : Written → Option ℕ → Step
with_escaped written (Some byte) = Goes (Value (with_text byte written))
with_escaped written None = Fails

-- a value goes on in the next line behind a backslash
abbrev pub after_escape : Written → ℕ → Step
after_escape written byte = if byte == 10 then Goes (Value written) else with_escaped written (escaped byte)

abbrev pub after_value_comment : Written → ℕ → Step
after_value_comment written byte = if byte == 10 then value_ended written else Goes (ValueComment written)

-- what a byte makes of its place
abbrev pub after : Place → ℕ → Step
after Blank byte = after_blank byte
after Comment byte = after_comment byte
after (Section name) byte = after_section name byte
after (Gap name) byte = after_gap name byte
after (Subsection name) byte = after_subsection name byte
after (SubsectionEscape name) byte = after_subsection_escape name byte
after (Header name) byte = after_header name byte
after (Key name) byte = after_key name byte
after (KeyGap name) byte = after_key_gap name byte
after (Value written) byte = after_value written byte
after (Escape written) byte = after_escape written byte
after (ValueComment written) byte = after_value_comment written byte

-- a value at the end of a file, or, in quotes, a fault
abbrev pub value_or_fault : Step → Written → Step
value_or_fault fault written = if written.quoted then fault else value_ended written

-- what the end of a file makes of the place there; in some places it counts as a line
abbrev pub at_end : Place → Step
at_end Blank = Goes Blank
at_end Comment = Goes Blank
at_end (Section name) = FailsNext
at_end (Gap name) = Fails
at_end (Subsection name) = Fails
at_end (SubsectionEscape name) = Fails
at_end (Header name) = FailsNext
at_end (Key name) = Sets name None
at_end (KeyGap name) = Sets name None
at_end (Value written) = value_or_fault Fails written
at_end (Escape written) = value_or_fault FailsNext written
at_end (ValueComment written) = value_ended written

-- A setting: its name behind that of its section, with a dot between them, the value if there is a `=`, and the line on
-- which it ends. Letters of names are in lower case, but in the quotes of a header.
pub record Setting : Type 0 where
  pub name : List ℕ
  pub value : Option (List ℕ)
  pub line : ℕ

-- A configuration: its settings, up to a bad line, if there is one.
pub record Config : Type 0 where
  pub settings : List Setting
  pub bad : Option ℕ

abbrev pub full_name : List ℕ → List ℕ → List ℕ
full_name section key = if length section == 0 then key else section ++ 46 ∷ key

abbrev pub setting_of : List ℕ → List ℕ → Option (List ℕ) → ℕ → Setting
setting_of section key value line = record { name = full_name section key; value = value; line = line }

-- settings in front
abbrev pub behind : List Setting → Config → Config
behind settings config = record { settings = settings ++ config.settings; bad = config.bad }

abbrev pub no_config : Config
no_config = record { settings = []; bad = None }

abbrev pub bad_at : ℕ → Config
bad_at line = record { settings = []; bad = Some line }

-- what a step says, and what follows, of the place, the section and the line behind it
abbrev pub follow : Step → List ℕ → ℕ → (Place → List ℕ → Config) → Config
follow (Goes place) section line next = next place section
follow (Enters name) section line next = next Blank name
follow (Sets key value) section line next = behind (setting_of section key value line ∷ []) (next Blank section)
follow Fails section line next = bad_at line
follow FailsNext section line next = bad_at (line + 1)

-- whether a byte is a return in front of the end of its line, which isn't there for git
abbrev pub is_return : ℕ → List ℕ → Bool
is_return byte [] = false
is_return byte (next ∷ rest) = byte == 13 && next == 10

-- the line behind a byte
abbrev pub line_after : ℕ → ℕ → ℕ
line_after line byte = if byte == 10 then line + 1 else line

-- what the rest of a configuration says, from this place on, in this section, in this line
abbrev pub read : Place → List ℕ → ℕ → List ℕ → Config
read place section line [] = follow (at_end place) section line (λ _ _. no_config)
read place section line (byte ∷ rest) =
    if is_return byte rest then read place section line rest
    else follow (after place byte) section line (λ place section. read place section (line_after line byte) rest)

-- a file without the byte order mark that it begins with
abbrev pub without_mark : List ℕ → List ℕ
without_mark bytes = if bytes_eq (take 3 bytes) (239 ∷ 187 ∷ 191 ∷ []) then drop 3 bytes else bytes

-- what the bytes of a configuration say
abbrev pub config_in : List ℕ → Config
config_in bytes = read Blank [] 1 (without_mark bytes)
