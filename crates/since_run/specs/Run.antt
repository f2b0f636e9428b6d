-- The steps of a call.
use Rattle.std.specs.Prelude.{◌≡◌, ℕ, Bool, true, false, not, ◌==◌, ◌||◌, List, [], length, is_some, Option, None, Some, option_map, unwrap_or, Result, Ok, Err, string_bytes, if◌then◌else◌}
use Rattle.std.specs.Arc.{arc_value}
use Rattle.std.specs.IoError.{error_kind}
use Rattle.std.specs.declared.alloc.Global.{Global}
use Rattle.std.specs.declared.io.Error.{Error}
use Rattle.std.specs.declared.io.ErrorKind.{ErrorKind}
use Rattle.std.specs.declared.io.ErrorKind.TheVariants.{NotFound}
use Rattle.std.specs.declared.string.String.{String}
use Rattle.std.specs.declared.vec.Vec.{Vec}
use Rattle.jwalk_ignore_rules.specs.declared.rules.texts.Texts as Texts
use Rattle.program_parts.specs.declared.paths.Style.{Style}
use Rattle.jwalk_snapshot.specs.Text.{Content}
use Rattle.program_parts.specs.Values.{texts_of}
use Rattle.since_parts.specs.Choice.{words_by, words_of}
use Rattle.since_parts.specs.Differences.{Difference}
use Rattle.since_parts.specs.Json.{json_lines}
use Rattle.since_parts.specs.Line.{lines_of}
use Rattle.since_parts.specs.Row.{rows_of}
use Rattle.since_words.specs.declared.asked.Asked.{Asked}
use Rattle.since_parts.specs.Saved.{IsTextOf}
use Rattle.since_run.specs.declared.call.Call.{Call}
use Rattle.since_run.specs.declared.screen.Screen.{Screen}
use Rattle.since_parts.specs.declared.choice.Choice.{Choice}
use Rattle.since_parts.specs.declared.found.Found.{Found}
use Rattle.since_parts.specs.declared.tree.Tree.{Tree}

-- what ends a line
abbrev pub separator_of : Bool → ℕ
separator_of print0 = if print0 then 0 else 10

-- how paths are written
abbrev pub style_asked : Asked → Screen → Style
style_asked asked screen = record { here = false; to_terminal = screen.is_terminal; separator = separator_of asked.print0 }

-- how a call writes paths
abbrev pub style_of : {T X : Type 0} → Call T X → Style
style_of call = style_asked call.asked.now call.screen

-- the text of differences: none if no lines are asked for, and JSON if that is
abbrev pub text_asked : {T X : Type 0} → Call T X → List Difference → List ℕ
text_asked call changes =
    if call.asked.now.quiet then [] else if call.asked.now.json then json_lines call.asked.now.long changes else lines_of (style_of call) call.asked.now.long changes

-- the rows of what a snapshot holds: none if no lines are asked for
abbrev pub rows_asked : {T X : Type 0} → Call T X → Content → List ℕ
rows_asked call snapshot = if call.asked.now.quiet then [] else rows_of (style_of call) snapshot.folders

-- the status by differences
abbrev pub status_for : List Difference → ℕ
status_for changes = if length changes == 0 then 0 else 1

-- the root that is asked for, or else another
abbrev pub root_asked : Asked → List ℕ → List ℕ
root_asked asked other = unwrap_or (option_map (λ it. it.now) asked.root) other

-- whether words ask for what is compared
abbrev pub asks_choice : Asked → Bool
asks_choice asked = asked.exclude_hidden || (asked.one_file_system || (is_some asked.depth || (not (length asked.excludes.items == 0) || asked.ignore)))

-- the words for what is compared, as words of a call ask for it
abbrev pub words_in : Asked → List (List ℕ)
words_in asked = words_by asked.exclude_hidden asked.one_file_system asked.depth (texts_of asked.excludes.items) asked.ignore

-- the words for what is compared: what a call asks for, or else these
abbrev pub words_asked : Asked → List (List ℕ) → List (List ℕ)
words_asked asked other = if asks_choice asked then words_in asked else other

-- What is compared with a snapshot of these words: what the words of the call ask for, or else what the snapshot is of. Only where it is replaced, these may differ.
pub record IsChoice (asked : Asked) (words : List (List ℕ)) (choice : Choice) : Type 0 where
  pub is : words_of choice ≡ words_asked asked words
  pub same : asked.save ≡ false → words_of choice ≡ words

-- There is no file, for this reason, and it is to be made.
pub record IsMissing (asked : Asked) (error : Error) (found : Option (Vec ℕ Global)) : Type 0 where
  pub none : found ≡ None
  pub made : asked.save ≡ true
  pub kind : error_kind error ≡ NotFound

-- Reading the file of a call gives this, if files always are the same.
abbrev pub FileHolds : {T X : Type 0} → Texts.Ghosts X → Call T X → Result (List ℕ) ErrorKind → Type 0
FileHolds texts call held = texts.IsFixed (arc_value call.texts) → (texts.functions (arc_value call.texts)).bytes_of call.asked.now.file.now ≡ held

-- These are the bytes of the file, or there is none and it is to be made.
abbrev pub IsLoaded : {T X : Type 0} → Texts.Ghosts X → Call T X → Option (Vec ℕ Global) → Type 0
IsLoaded texts call None = (call.asked.now.save ≡ true) × FileHolds texts call (Err NotFound)
IsLoaded texts call (Some bytes) = FileHolds texts call (Ok bytes.items)

-- A text is to be saved if that is asked for, and it is that of a snapshot of what is found.
abbrev pub HasTextAsked : Asked → Tree → Found → Option (String Global) → Type 0
HasTextAsked asked tree found None = asked.save ≡ false
HasTextAsked asked tree found (Some text) = (asked.save ≡ true) × IsTextOf (string_bytes tree.absolute) tree.choice found (string_bytes text)

-- A file has this text now, if there is one, and else nothing changed.
abbrev pub ReplacesBy : {K : Type 0} → (K → List ℕ → List ℕ → K → Type 0) → List ℕ → K → Option (String Global) → K → Type 0
ReplacesBy replaces file old None new = new ≡ old
ReplacesBy replaces file old (Some text) new = replaces old file (string_bytes text) new
