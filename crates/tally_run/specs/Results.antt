-- What becomes of results.
use Rattle.std.specs.Prelude.{◌≡◌, ℕ, ◌+◌, ◌==◌, nat_lt, Bool, true, false, List, [], ◌∷◌, codes, filter, flat_map, sum_by, Option, None, Some, Ok, Err, if◌then◌else◌}
use Rattle.std.specs.Io.KnownBytes.{Appends, append_known}
use Rattle.jwalk.specs.jwalk_model.Entry.{Entry}
use Rattle.jwalk_subtotals.specs.Subtotals.{Yielded}
use Rattle.jwalk_subtotals.specs.declared.subtotal.Subtotal.{Subtotal}
use Rattle.program_parts.specs.declared.paths.Style.{Style}
use Rattle.tally_text.specs.Line.{line_of}
use Rattle.tally_text.specs.Nodes.{IsLeftOut, IsPushed, largest_of, trees_of}
use Rattle.tally_text.specs.declared.node.Node.{Node}
use Rattle.tally_text.specs.declared.numbers.Numbers.{Numbers}
use Rattle.tally_text.specs.declared.scale.Scale.{Scale}
use Rattle.tally_words.specs.Threshold.{is_within}
use Rattle.tally_words.specs.declared.threshold.Threshold.{Threshold}
use Rattle.tally_run.specs.Shown.{is_shown}
use Rattle.tally_run.specs.declared.shown.Shown.{Shown}
use Rattle.tally_run.specs.declared.results.Lines.{Lines}
use Rattle.tally_run.specs.declared.results.Results.{Results}
use Rattle.tally_run.specs.declared.results.Shape.{Shape}
use Rattle.tally_run.specs.declared.results.Shape.TheVariants as shapes

-- A result that is written.
pub record Row : Type 0 where
  pub depth : ℕ
  pub folder : List ℕ
  pub name : List ℕ
  pub subtotal : Subtotal

-- a result with these parts
abbrev pub row_with : ℕ → List ℕ → List ℕ → Subtotal → Row
row_with depth folder name subtotal = record { depth = depth; folder = folder; name = name; subtotal = subtotal }

module _ {R E : Type 0} where
  -- the folder and the name that are written of an entry: a root is written as it was named
  abbrev pub folder_shown : Entry R E → List ℕ
  folder_shown e = if nat_lt 0 e.depth then e.parent_path else []

  abbrev pub name_shown : List ℕ → Entry R E → List ℕ
  name_shown root e = if nat_lt 0 e.depth then e.file_name else root

  -- the result of an entry, at or below a root
  abbrev pub row : List ℕ → Entry R E → Subtotal → Row
  row root e t = row_with e.depth (folder_shown e) (name_shown root e) t

  -- the result of what is yielded, if it is written
  abbrev pub row_of : List ℕ → Shown → Yielded R E → List Row
  row_of root shown (Ok (e, t)) = if is_shown shown e then row root e t ∷ [] else []
  row_of root shown (Err f) = []

  -- the results that are written of what is yielded
  abbrev pub rows_of : List ℕ → Shown → List (Yielded R E) → List Row
  rows_of root shown = flat_map (row_of root shown)

-- the line of a result
abbrev pub row_line : Scale → Style → Row → List ℕ
row_line scale style r = line_of scale style r.subtotal.bytes r.folder r.name

-- the lines of results
abbrev pub lines_text : Scale → Style → List Row → List ℕ
lines_text scale style = flat_map (row_line scale style)

-- a subtotal, as trees have it
abbrev pub numbers_of : Subtotal → Numbers
numbers_of t = record {
  bytes = t.bytes;
  file_bytes = t.file_bytes;
  files = t.files;
  dirs = t.dirs;
  links = t.links;
  others = t.others;
  errors = t.errors;
}

-- whether a size is written
abbrev pub is_large : Option Threshold → ℕ → Bool
is_large None bytes = true
is_large (Some threshold) bytes = is_within threshold bytes

-- whether that of a result is
abbrev pub is_row_large : Option Threshold → Row → Bool
is_row_large threshold r = is_large threshold r.subtotal.bytes

-- A result is put behind trees, or left out with all that is in it.
abbrev pub IsPut : Bool → Option ℕ → Row → List Node → List Node → Type 0
IsPut true largest r old new = IsPushed largest r.depth r.name (numbers_of r.subtotal) old new
IsPut false largest r old new = IsLeftOut r.depth old new

-- Results are put behind trees, one after another, but for those whose size isn't written.
abbrev pub ArePushed : Option Threshold → Option ℕ → List Row → List Node → List Node → Type 0
ArePushed threshold largest [] old new = new ≡ old
ArePushed threshold largest (r ∷ rows) old new =
    (mid : List Node) × IsPut (is_row_large threshold r) largest r old mid × ArePushed threshold largest rows mid new

-- the bytes that aren't written yet
abbrev pub gathered_of : Lines → List ℕ
gathered_of lines = lines.gathered.bytes.items

-- how sizes and paths are written
abbrev pub scale_of : Lines → Scale
scale_of lines = lines.scale

abbrev pub style_of : Lines → Style
style_of lines = lines.style

-- These results are taken, but for those whose size isn't written: their lines are written, or gathered; or they are put behind the trees, and nothing is written.
abbrev pub TakesInto : Option Threshold → List Row → Shape → Option (List ℕ) → Shape → Option (List ℕ) → Type 0
TakesInto threshold rows (shapes.Lines old) before (shapes.Lines new) after =
    Appends (append_known before (gathered_of old)) (append_known after (gathered_of new)) (lines_text (scale_of old) (style_of old) (filter (is_row_large threshold) rows))
    × (scale_of new ≡ scale_of old) × (style_of new ≡ style_of old)
TakesInto threshold rows (shapes.Trees old) before (shapes.Trees new) after =
    (after ≡ before) × ArePushed threshold (largest_of old) rows (trees_of old) (trees_of new) × (largest_of new ≡ largest_of old)
TakesInto threshold rows _ before _ after = ⊥

-- A result of this depth is left out. In trees, what is in it is left out with it.
abbrev pub LeavesOut : ℕ → Shape → Shape → Type 0
LeavesOut depth (shapes.Lines old) (shapes.Lines new) = new ≡ old
LeavesOut depth (shapes.Trees old) (shapes.Trees new) = IsLeftOut depth (trees_of old) (trees_of new) × (largest_of new ≡ largest_of old)
LeavesOut depth _ _ = ⊥

-- what a result of this depth adds to the sum of all roots
abbrev pub root_bytes : ℕ → ℕ → ℕ
root_bytes depth bytes = if depth == 0 then bytes else 0

-- the sum of all roots
abbrev pub total_of : List Row → ℕ
total_of = sum_by (λ (r : Row). root_bytes r.depth r.subtotal.bytes)

-- its result: of all that is counted, the size alone is told
abbrev pub sum_of : ℕ → Subtotal
sum_of bytes = record { bytes = bytes; file_bytes = 0; files = 0; dirs = 0; links = 0; others = 0; errors = 0 }

-- the result of the sum, if it is asked for
abbrev pub sum_rows : Bool → ℕ → List Row
sum_rows true total = row_with 0 [] (codes "total") (sum_of total) ∷ []
sum_rows false total = []

-- These results are taken, but for those whose size isn't written, and the roots among them are added up.
pub record Takes (rows : List Row) (old : Results) (before : Option (List ℕ)) (new : Results) (after : Option (List ℕ)) : Type 0 where
  pub sizes : new.threshold ≡ old.threshold
  pub sum : new.total ≡ old.total + total_of rows
  pub into : TakesInto old.threshold rows old.shape before new.shape after
