-- The layout of printed lines.
use Rattle.std.specs.Prelude.{ℕ, Bool, List, [], ◌∷◌, ◌++◌, flat_map, string_bytes, Option, None, Some, if◌then◌else◌}
use Rattle.std.specs.Option.{option_map}
use Rattle.jwalk_model.specs.FileSystem.{Functions}
use Rattle.jwalk_model.specs.Paths.{join}
use Rattle.jwalk_model.specs.declared.file_type.FileType.{FileType}
use Rattle.jwalk_model.specs.declared.metadata.Metadata.{Metadata}
use Rattle.seek_details.specs.Details.{details_text}
use Rattle.seek_words.specs.Absolute.{absolute_path}
use Rattle.seek_words.specs.Asks.{is_slash}
use Rattle.seek_words.specs.Paint.{Painting, painted, painting_of}
use Rattle.program_parts.specs.Paths.{line_of, shown_folder, shown_text, text_line}
use Rattle.seek_words.specs.Subject.{front_of}
use Rattle.seek_words.specs.declared.layout.Layout.{Layout}
use Rattle.program_parts.specs.declared.paths.Style.{Style}

-- The form of printed lines: the style of paths, the text in front of a relative path where absolute paths are printed,
-- whether details are in front, the colors, if paths have some, and the text in place of each slash, if one is named.
pub record Form : Type 0 where
  pub style : Style
  pub front : Option (List ℕ)
  pub details : Bool
  pub painting : Option Painting
  pub slash : Option (List ℕ)

-- the form of a layout's lines over a file system
abbrev pub form_in : Functions → Layout → Form
form_in fs layout = record {
  style = layout.style;
  front = option_map front_of layout.absolute;
  details = layout.details;
  painting = option_map (painting_of fs) layout.paint;
  slash = option_map string_bytes layout.slash;
}

-- the printed path of a folder, as it is or as an absolute one
abbrev pub folder_text : Style → Option (List ℕ) → List ℕ → List ℕ
folder_text style None folder = shown_text style (shown_folder style folder)
folder_text style (Some front) folder = shown_text style (absolute_path front folder [])

-- the line of a name in a folder without colors
abbrev pub plain_line : Style → Option (List ℕ) → List ℕ → List ℕ → List ℕ
plain_line style None folder name = line_of style folder name
plain_line style (Some front) folder name = text_line style (absolute_path front folder name)

abbrev line_by : Option Painting → Style → Option (List ℕ) → FileType → Option Metadata → List ℕ → List ℕ → List ℕ
line_by None style front type seen folder name = plain_line style front folder name
line_by (Some painting) style front type seen folder name = painted painting type seen (join folder name) (folder_text style front folder) (shown_text style name) ++ style.separator ∷ []

-- the line of an entry's path, in colors or without
abbrev pub line_in : Form → FileType → Option Metadata → List ℕ → List ℕ → List ℕ
line_in form = line_by form.painting form.style form.front

-- a line with a text in place of each slash
abbrev pub slashed : List ℕ → List ℕ → List ℕ
slashed slash = flat_map (λ byte. if is_slash byte then slash else byte ∷ [])

abbrev slashed_by : Option (List ℕ) → List ℕ → List ℕ
slashed_by None line = line
slashed_by (Some slash) line = slashed slash line

-- the line of an entry's path, with the text in place of each slash; colors have no slash
abbrev pub slashed_line : Form → FileType → Option Metadata → List ℕ → List ℕ → List ℕ
slashed_line form type seen folder name = slashed_by form.slash (line_in form type seen folder name)

-- the text in front of an entry's path
abbrev pub details_before : Bool → Option Metadata → List ℕ
details_before details seen = if details then details_text seen else []

-- the line of an entry of this type, with this metadata, in this folder and of this name
abbrev pub form_line : Form → FileType → Option Metadata → List ℕ → List ℕ → List ℕ
form_line form type seen folder name = details_before form.details seen ++ slashed_line form type seen folder name
