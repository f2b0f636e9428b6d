use Rattle.seek_words.specs.Lines.{gathered_of}
use Rattle.seek_found.proofs.RootsFacts.{such_written_last}
use Rattle.seek_search.proofs.RunFacts.{first_written_last}
use Rattle.seek_search.proofs.search.Search.print.Goals as goal

pub returns-clause-yielded : goal.returns-clause-yielded
returns-clause-yielded g c = λ none known.
    such_written_last (g.W.Write.contents c.args.out.now) (g.W.Write.contents c.below_roots.new.out) (g.W.Write.contents c.finish.new.out)
    (gathered_of c.args.printer.now.lines) (gathered_of c.below_roots.new.printer.lines) none (c.in_ok-clean.ensures.yielded known) c.in_ok-finish.ensures.written

pub returns-clause-whole : goal.returns-clause-whole
returns-clause-whole g c = λ fixed told none.
    first_written_last (g.W.Write.contents c.args.out.now) (g.W.Write.contents c.below_roots.new.out) (g.W.Write.contents c.finish.new.out)
    (gathered_of c.args.printer.now.lines) (gathered_of c.below_roots.new.printer.lines) none (c.in_ok-clean.ensures.whole fixed told) c.in_ok-finish.ensures.written
