use Rattle.std.proofs.Common.{◌∙◌, ◌∷◌, [], Bool, Ok, ap, sym}
use Rattle.std.specs.Prelude.{if◌then◌else◌}
use Rattle.jwalk_job.specs.Entry.{item}
use Rattle.seek_words.specs.Filter.{sought_of}
use Rattle.seek_found.specs.Limit.{left_after, one_less}
use Rattle.seek_found.proofs.LimitFacts.{left_one}
use Rattle.seek_found.proofs.printer.Printer.print_kept.Goals as goal

pub returns-in_ok-passes-in-Ok-clause-left : goal.returns-in_ok-passes-in-Ok-clause-left
returns-in_ok-passes-in-Ok-clause-left g c = λ known.
    let sought = sought_of g.T.NameTest.takes (g.S.FileSystem.functions c.args.disk.now) c.args.self.now.filter in
    let left = c.args.self.now.left in
    c.left_after-self.ensures
    ∙ ap (λ (b : Bool). if b then one_less left else left) (c.in_ok-passes-in-Ok.ensures.hit known)
    ∙ sym (left_one sought left (item (Ok c.in-Ok.found)))
    ∙ sym (ap (λ a. left_after sought left (item a ∷ [])) c.in-Ok.is)
