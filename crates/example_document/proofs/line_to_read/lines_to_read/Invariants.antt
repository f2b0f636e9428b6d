use Rattle.std.proofs.Common.{◌≡◌, ◌≤◌, map, take, length}
use Rattle.example_document.specs.Document.{to_read}
use Rattle.example_document.proofs.line_to_read.lines_to_read.Given as goal

-- those so far are of the lines gone over, and there is room for all
abbrev pub invariant-loop-line : goal.invariant-loop-line
invariant-loop-line g l = record {
  items : l.to_read.items ≡ map (to_read l.levels) (take l.line-index l.lines);
  count : length l.to_read.items ≡ l.line-index;
  room : length l.lines ≤ l.to_read.cap;
}
