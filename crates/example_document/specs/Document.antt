-- What is told of the lines of a document.
use Rattle.std.proofs.Common.{arith}
use Rattle.std.specs.Prelude.{◌<◌, ℕ, zero, suc, List, [], ◌∷◌, map, flat_map, slice_get, Option, Some, None, option_map, All}
use Rattle.std.proofs.lemmas.List.Elements.{All-nil, All-cons}
use Rattle.jwalk_board.specs.Plan.{PlanTree, Falls}
use Rattle.example_document.specs.declared.document.Document.{Document}
use Rattle.example_document.specs.declared.document.Line.{Line}
use Rattle.example_document.specs.declared.document.Line.TheVariants as line
use Rattle.example_document.specs.declared.document.Told.{Told}
use Rattle.example_document.specs.declared.document.Told.TheVariants as told
use Rattle.example_document.specs.declared.line_to_read.LineToRead.{LineToRead}

-- the lines of the part with this number
abbrev pub lines_at : Document → ℕ → Option (List Line)
lines_at document n = option_map (λ lines. lines.now) (slice_get document.parts.now n)

-- none where there is no such part
abbrev pub or_none : Option (List Line) → List Line
or_none None = []
or_none (Some lines) = lines

-- the lines that are read for a line: those of the part that it names
abbrev pub lines_for : Document → Line → List Line
lines_for document (line.Text t) = []
lines_for document (line.Part n) = or_none (lines_at document n)

-- what is told of a part, where this many levels may be entered
abbrev pub told_of_part : ℕ → ℕ → Option (List Line) → Told
told_of_part n levels None = told.Missing n
told_of_part n zero (Some lines) = told.TooDeep n
told_of_part n (suc levels) (Some lines) = told.Begins n

-- what is told of a line
abbrev pub told_of_line : Document → ℕ → Line → Told
told_of_line document levels (line.Text t) = told.Text t
told_of_line document levels (line.Part n) = told_of_part n levels (lines_at document n)

-- What one reader tells, who goes into each part where it is named: of a line, and then of the lines that are read for it.
abbrev pub tells : Document → ℕ → Line → List Told
tells document zero l = told_of_line document zero l ∷ []
tells document (suc levels) l = told_of_line document (suc levels) l ∷ flat_map (tells document levels) (lines_for document l)

abbrev pub to_read : ℕ → Line → LineToRead
to_read levels l = record { line = l; levels = levels }

abbrev pub told_of : Document → LineToRead → Told
told_of document p = told_of_line document p.levels p.line

-- the same, each with the levels that are left for it
abbrev pub to_read_for : Document → ℕ → Line → List LineToRead
to_read_for document zero l = []
to_read_for document (suc levels) l = map (to_read levels) (lines_for document l)

abbrev pub to_read_below : Document → LineToRead → List LineToRead
to_read_below document p = to_read_for document p.levels p.line

-- a document as a tree of lines to be read
abbrev pub document_tree : Document → PlanTree LineToRead Told
document_tree document = record { reading = told_of document; children = to_read_below document; height = λ p. p.levels }

lower : (levels : ℕ) (lines : List Line) → All (λ (c : LineToRead). c.levels < suc levels) (map (to_read levels) lines)
lower levels [] = All-nil _
lower levels (l ∷ lines) = All-cons (λ (c : LineToRead). c.levels < suc levels) (to_read levels l) (map (to_read levels) lines) (omega arith) (lower levels lines)

falls_from : (document : Document) (levels : ℕ) (l : Line) → All (λ (c : LineToRead). c.levels < levels) (to_read_for document levels l)
falls_from document zero l = All-nil _
falls_from document (suc levels) l = lower levels (lines_for document l)

-- levels are left until none is
pub document_falls : (document : Document) → Falls (document_tree document)
document_falls document p = falls_from document p.levels p.line
