use Rattle.std.proofs.Common.{◌≡◌}
use Rattle.std.specs.Io.KnownBytes.{append_known}
use Rattle.std.specs.Iterator.{IsFinite, size}
use Rattle.seek_words.specs.Filter.{sought_of}
use Rattle.seek_words.specs.Lines.{form_of, gathered_of}
use Rattle.seek_found.specs.Found.{IfAsked}
use Rattle.seek_found.proofs.FoundFacts.{FoundSoFar}
use Rattle.seek_found.proofs.found.print_found.Given as goal

abbrev pub invariant-loop-below : goal.invariant-loop-below
invariant-loop-below g l =
    record {
      can : g.I.Iterator.can_next l.answers;
      ends : IsFinite (g.I.Iterator.remaining l.answers);
      so_far : IfAsked (g.S.FileSystem.IsFixed l.disk) (sought_of g.T.NameTest.takes (g.S.FileSystem.functions l.disk) l.fn.printer.filter) (form_of (g.S.FileSystem.functions l.disk) l.fn.printer.lines)
          → FoundSoFar g.I.Iterator.next_gives l.fn.answers
          (sought_of g.T.NameTest.takes (g.S.FileSystem.functions l.disk) l.fn.printer.filter) (form_of (g.S.FileSystem.functions l.disk) l.fn.printer.lines) l.fn.printer.left l.answers l.printer.left l.below
          (append_known (g.W.Write.contents l.fn.out) (gathered_of l.fn.printer.lines))
          (append_known (g.W.Write.contents l.out) (gathered_of l.printer.lines)) l.clean;
      sought : sought_of g.T.NameTest.takes (g.S.FileSystem.functions l.disk) l.printer.filter ≡ sought_of g.T.NameTest.takes (g.S.FileSystem.functions l.disk) l.fn.printer.filter;
      form : form_of (g.S.FileSystem.functions l.disk) l.printer.lines ≡ form_of (g.S.FileSystem.functions l.disk) l.fn.printer.lines;
    }

-- the greatest number of answers to come
abbrev pub decreases-loop-below : goal.decreases-loop-below
decreases-loop-below g l = size (g.I.Iterator.remaining l.answers)
