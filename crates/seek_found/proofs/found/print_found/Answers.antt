use Rattle.std.proofs.Common.{◌≡◌, ◌∙◌, ◌∷◌, [], refl, subst}
use Rattle.std.specs.Io.KnownBytes.{Appends, append_known}
use Rattle.jwalk_job.specs.Entry.{item}
use Rattle.seek_words.specs.Filter.{sought_of}
use Rattle.seek_words.specs.Lines.{form_of, gathered_of}
use Rattle.std.specs.List.{list_all}
use Rattle.seek_found.specs.Found.{found_lines, is_clean}
use Rattle.seek_found.specs.Limit.{left_after}
use Rattle.seek_found.specs.Prune.{unpruned_behind}
use Rattle.seek_found.proofs.PruneFacts.{next_below}
use Rattle.seek_found.proofs.FoundFacts.{appends_nothing, asked_if, none_found, one_found, enough_found, all_found}
use Rattle.seek_found.proofs.found.print_found.Goals as goal

pub loop-below-init : goal.loop-below-init
loop-below-init g c = record {
  can = c.requires.can;
  ends = c.requires.ends;
  so_far = λ known. none_found g.I.Iterator.next_gives c.args.answers.now
      (sought_of g.T.NameTest.takes (g.S.FileSystem.functions c.args.disk.now) c.args.printer.now.filter) (form_of (g.S.FileSystem.functions c.args.disk.now) c.args.printer.now.lines) c.args.printer.now.left
      (append_known (g.W.Write.contents c.args.out.now) (gathered_of c.args.printer.now.lines));
  sought = refl;
  form = refl;
}

pub loop-below-preserved : goal.loop-below-preserved
loop-below-preserved g c =
    let held = c.loop-below.invariant in
    let on = c.in-Some.ensures.goes.on held.ends in
    let old = append_known (g.W.Write.contents c.loop-below.out) (gathered_of c.loop-below.printer.lines) in
    let mid = append_known (g.W.Write.contents c.print.new.out) (gathered_of c.print.new.self.lines) in
    let new = append_known (g.W.Write.contents c.write_old.new.out) (gathered_of c.write_old.new.self) in
    let answer = item c.in-Some.answer in
    let above = c.loop-below.below in
    let below = c.print.new.below in
    let sought = sought_of g.T.NameTest.takes (g.S.FileSystem.functions c.args.disk.now) c.args.printer.now.filter in
    record {
      can = on.0;
      ends = on.1;
      so_far = λ known.
          let asked = asked_if held.sought held.form (λ fixed. fixed) known in
          let found = subst (λ s. Appends old mid (found_lines s (form_of (g.S.FileSystem.functions c.args.disk.now) c.loop-below.printer.lines) (unpruned_behind s above (answer ∷ [])))) held.sought (c.in_ok-clean.ensures.printed asked) in
          let printed = subst (λ s. Appends old mid (found_lines sought s (unpruned_behind sought above (answer ∷ [])))) held.form found in
          one_found g.I.Iterator.next_gives c.args.answers.now sought (form_of (g.S.FileSystem.functions c.args.disk.now) c.args.printer.now.lines) c.args.printer.now.left
          c.loop-below.answers c.next.new.self c.loop-below.printer.left c.print.new.self.left above below
          (append_known (g.W.Write.contents c.args.out.now) (gathered_of c.args.printer.now.lines)) old new
          c.loop-below.clean c.in_ok-clean.field-0 c.in-Some.answer (held.so_far known) (c.is_full.ensures.room c.loop-below-test.true) c.in-Some.ensures.steps
          (appends_nothing old mid new (found_lines sought (form_of (g.S.FileSystem.functions c.args.disk.now) c.args.printer.now.lines) (unpruned_behind sought above (answer ∷ []))) printed c.in_ok-write_old.ensures.kept)
          (subst (λ s. c.print.new.self.left ≡ left_after s c.loop-below.printer.left (unpruned_behind s above (answer ∷ []))) held.sought (c.in_ok-clean.ensures.left asked.0))
          (subst (λ s. below ≡ next_below s above answer) held.sought (c.in_ok-clean.ensures.below asked.0))
          (subst (λ s. c.in_ok-clean.field-0 ≡ list_all is_clean (unpruned_behind s above (answer ∷ []))) held.sought c.in_ok-clean.ensures.clean);
      sought = c.print.ensures.sought ∙ held.sought;
      form = c.write_old.ensures.form (g.S.FileSystem.functions c.args.disk.now) ∙ (c.print.ensures.form ∙ held.form);
    }

pub returns-clause-printed : goal.returns-clause-printed
returns-clause-printed g c =
    λ known. enough_found g.I.Iterator.next_gives c.args.answers.now
    (sought_of g.T.NameTest.takes (g.S.FileSystem.functions c.args.disk.now) c.args.printer.now.filter) (form_of (g.S.FileSystem.functions c.args.disk.now) c.args.printer.now.lines) c.args.printer.now.left c.loop-below.answers c.loop-below.printer.left c.loop-below.below
    (append_known (g.W.Write.contents c.args.out.now) (gathered_of c.args.printer.now.lines))
    (append_known (g.W.Write.contents c.loop-below.out) (gathered_of c.loop-below.printer.lines)) c.loop-below.clean (c.loop-below.invariant.so_far known) (c.is_full.ensures.full c.loop-below-test.false)

pub returns-in_default-clause-printed : goal.returns-in_default-clause-printed
returns-in_default-clause-printed g c =
    λ known. all_found g.I.Iterator.next_gives c.args.answers.now
    (sought_of g.T.NameTest.takes (g.S.FileSystem.functions c.args.disk.now) c.args.printer.now.filter) (form_of (g.S.FileSystem.functions c.args.disk.now) c.args.printer.now.lines) c.args.printer.now.left c.loop-below.answers c.next.new.self c.loop-below.printer.left c.loop-below.below
    (append_known (g.W.Write.contents c.args.out.now) (gathered_of c.args.printer.now.lines))
    (append_known (g.W.Write.contents c.loop-below.out) (gathered_of c.loop-below.printer.lines)) c.loop-below.clean (c.loop-below.invariant.so_far known) c.in_default.ensures.steps
