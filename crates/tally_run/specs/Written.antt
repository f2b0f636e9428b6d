-- What is written of results.
use Rattle.std.specs.Prelude.{◌≡◌, ℕ, Bool, true, false, List, [], ◌∷◌, ◌++◌, map, filter, flat_map, Option, None, Some, if◌then◌else◌}
use Rattle.std.specs.Io.KnownBytes.{Appends}
use Rattle.program_parts.specs.declared.paths.Style.{Style}
use Rattle.serde_json.specs.Data.{array}
use Rattle.serde_json.specs.View.{items_of}
use Rattle.serde_json.specs.Written.{compact_text}
use Rattle.tally_text.specs.Document.{data_of}
use Rattle.tally_text.specs.Nodes.{largest_of, trees_of}
use Rattle.tally_text.specs.Table.{layout_for, table_text}
use Rattle.tally_text.specs.declared.node.Node.{Node}
use Rattle.tally_text.specs.declared.scale.Scale.{Scale}
use Rattle.tally_text.specs.declared.scale.Scale.TheVariants.{Human, Decimal, Kibibytes, Mebibytes, Bytes}
use Rattle.tally_words.specs.declared.asked.Asked.{Asked}
use Rattle.tally_words.specs.declared.form.Form.{Form}
use Rattle.tally_words.specs.declared.form.Form.TheVariants as form
use Rattle.tally_words.specs.declared.unit.Unit.{Unit}
use Rattle.tally_words.specs.declared.unit.Unit.TheVariants as unit
use Rattle.tally_run.specs.Results.{ArePushed, Row, TakesInto, gathered_of, is_row_large, lines_text, scale_of, style_of, sum_rows, total_of}
use Rattle.tally_run.specs.declared.results.Results.{Results}
use Rattle.tally_run.specs.declared.results.Shape.{Shape}
use Rattle.tally_run.specs.declared.results.Shape.TheVariants as shapes
use Rattle.tally_run.specs.declared.screen.Screen.{Screen}

-- whether results are lines
abbrev pub are_lines : Form → Bool
are_lines form.Table = false
are_lines form.Lines = true
are_lines form.ZeroLines = true
are_lines form.Json = false

-- the scale of a unit
abbrev scale_in : Unit → Scale
scale_in unit.Binary = Human
scale_in unit.Decimal = Decimal
scale_in unit.Kibibyte = Kibibytes
scale_in unit.Mebibyte = Mebibytes
scale_in unit.Byte = Bytes

-- how sizes are written: in a unit that is named, or else as suits a form
abbrev scale_by : Form → Option Unit → Scale
scale_by form None = if are_lines form then Kibibytes else Human
scale_by form (Some unit) = scale_in unit

abbrev pub scale_asked : Asked → Scale
scale_asked asked = scale_by asked.form asked.unit

-- what ends a line
abbrev pub separator_of : Form → ℕ
separator_of form.ZeroLines = 0
separator_of _ = 10

-- how paths are written
abbrev pub style_asked : Asked → Screen → Style
style_asked asked screen = record { here = false; to_terminal = screen.is_terminal; separator = separator_of asked.form }

-- how wide bars may be, on a terminal
abbrev pub width_of : Screen → Option ℕ
width_of screen = if screen.is_terminal then Some screen.width else None

-- the table of a tree
abbrev pub table_of : Asked → Screen → Node → List ℕ
table_of asked screen root = table_text (layout_for (scale_asked asked) (width_of screen) screen.is_terminal root) root

-- the document of trees, and a line feed
abbrev pub document_text : List Node → List ℕ
document_text trees = compact_text (array (items_of (map data_of trees))) ++ 10 ∷ []

-- trees as they are written: one document, or a table of each
abbrev pub trees_as : Form → Asked → Screen → List Node → List ℕ
trees_as form.Json asked screen trees = document_text trees
trees_as _ asked screen trees = flat_map (table_of asked screen) trees

abbrev pub trees_text : Asked → Screen → List Node → List ℕ
trees_text asked screen trees = trees_as asked.form asked screen trees

-- There are no results yet.
abbrev pub AreNoneIn : Asked → Screen → Shape → Type 0
AreNoneIn asked screen (shapes.Lines lines) =
    (are_lines asked.form ≡ true) × (gathered_of lines ≡ []) × (scale_of lines ≡ scale_asked asked) × (style_of lines ≡ style_asked asked screen)
AreNoneIn asked screen (shapes.Trees nodes) = (are_lines asked.form ≡ false) × (trees_of nodes ≡ []) × (largest_of nodes ≡ asked.largest)

-- The same, where nothing is added up yet.
pub record AreNone (asked : Asked) (screen : Screen) (results : Results) : Type 0 where
  pub shape : AreNoneIn asked screen results.shape
  pub sizes : results.threshold ≡ asked.threshold
  pub sum : results.total ≡ 0

-- What is left of results is written.
abbrev pub FinishesAs : Asked → Screen → Shape → Option (List ℕ) → Option (List ℕ) → Type 0
FinishesAs asked screen (shapes.Lines lines) before after = Appends before after (gathered_of lines)
FinishesAs asked screen (shapes.Trees nodes) before after = Appends before after (trees_text asked screen (trees_of nodes))

-- The sum of all roots is taken, if it is asked for, and then what is left is written.
pub record Finishes (asked : Asked) (screen : Screen) (results : Results) (before after : Option (List ℕ)) : Type 0 where
  pub last : Shape
  pub mid : Option (List ℕ)
  pub takes : TakesInto None (sum_rows asked.total results.total) results.shape before last mid
  pub rest : FinishesAs asked screen last mid after

-- The lines of results are written, or the trees that they make, but for those whose size isn't, and then the others.
abbrev pub WritesAs : Bool → Asked → Screen → List Row → List Row → Option (List ℕ) → Option (List ℕ) → Type 0
WritesAs true asked screen rows others before after =
    Appends before after (lines_text (scale_asked asked) (style_asked asked screen) (filter (is_row_large asked.threshold) rows ++ others))
WritesAs false asked screen rows others before after =
    (trees : List Node) × (all : List Node) × ArePushed asked.threshold asked.largest rows [] trees × ArePushed None asked.largest others trees all × Appends before after (trees_text asked screen all)

-- Results are written as is asked for, and the sum of all roots behind them, if it is asked for.
abbrev pub Writes : Asked → Screen → List Row → Option (List ℕ) → Option (List ℕ) → Type 0
Writes asked screen rows before after = WritesAs (are_lines asked.form) asked screen rows (sum_rows asked.total (total_of rows)) before after
