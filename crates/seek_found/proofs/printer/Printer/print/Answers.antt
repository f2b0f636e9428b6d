use Rattle.std.proofs.Common.{◌∙◌, append-nil, ap, subst, sym}
use Rattle.std.specs.Prelude.{if◌then◌else◌}
use Rattle.std.specs.Io.KnownBytes.{Appends, append_known}
use Rattle.std.specs.List.{list_all}
use Rattle.std.proofs.lemmas.Result.{IfOk-weaker, on_ok_weaker}
use Rattle.jwalk_job.specs.Entry.{item}
use Rattle.seek_words.specs.Filter.{sought_of}
use Rattle.seek_words.specs.Lines.{form_of, gathered_of}
use Rattle.seek_found.specs.Found.{found_line, found_lines, is_clean}
use Rattle.seek_found.specs.Limit.{left_after}
use Rattle.seek_found.specs.Prune.{below_after}
use Rattle.seek_found.proofs.FoundFacts.{and_true, appends_none}
use Rattle.seek_found.proofs.LimitFacts.{left_as_before}
use Rattle.seek_found.proofs.PruneFacts.{kept, left_out}
use Rattle.seek_found.proofs.printer.Printer.print.Goals as goal

pub returns-then-is_below-clause-clean : goal.returns-then-is_below-clause-clean
returns-then-is_below-clause-clean g c =
    let sought = sought_of g.T.NameTest.takes (g.S.FileSystem.functions c.args.disk.now) c.args.self.now.filter in
    ap (list_all is_clean) (sym (left_out sought c.args.below.now (item c.args.answer) (sym c.is_below.ensures ∙ c.if-is_below.true)))

pub returns-then-is_below-clause-printed : goal.returns-then-is_below-clause-printed
returns-then-is_below-clause-printed g c = λ known.
    let self = c.args.self.now in
    let fs = g.S.FileSystem.functions c.args.disk.now in
    let sought = sought_of g.T.NameTest.takes fs self.filter in
    let old = append_known (g.W.Write.contents c.args.out.now) (gathered_of self.lines) in
    subst (λ l. Appends old old (found_lines sought (form_of fs self.lines) l)) (sym (left_out sought c.args.below.now (item c.args.answer) (sym c.is_below.ensures ∙ c.if-is_below.true))) (appends_none old)

pub returns-then-is_below-clause-left : goal.returns-then-is_below-clause-left
returns-then-is_below-clause-left g c = λ known.
    let self = c.args.self.now in
    let sought = sought_of g.T.NameTest.takes (g.S.FileSystem.functions c.args.disk.now) self.filter in
    sym (left_as_before _ _ sought self.left)
    ∙ ap (left_after sought self.left) (sym (left_out sought c.args.below.now (item c.args.answer) (sym c.is_below.ensures ∙ c.if-is_below.true)))

pub returns-then-is_below-clause-below : goal.returns-then-is_below-clause-below
returns-then-is_below-clause-below g c = λ known.
    let sought = sought_of g.T.NameTest.takes (g.S.FileSystem.functions c.args.disk.now) c.args.self.now.filter in
    let below = c.args.below.now in
    ap (λ b. if b then below else below_after sought below (item c.args.answer)) (sym (sym c.is_below.ensures ∙ c.if-is_below.true))

pub returns-clause-clean : goal.returns-clause-clean
returns-clause-clean g c =
    let sought = sought_of g.T.NameTest.takes (g.S.FileSystem.functions c.args.disk.now) c.args.self.now.filter in
    let answer = item c.args.answer in
    let on = kept sought c.args.below.now answer (sym c.is_below.ensures ∙ c.if-is_below.false) in
    IfOk-weaker c.print_kept.result _ _ (λ clean is. is ∙ sym (and_true (is_clean answer)) ∙ ap (list_all is_clean) (sym on)) c.print_kept.ensures.clean

pub returns-clause-printed : goal.returns-clause-printed
returns-clause-printed g c =
    let self = c.args.self.now in
    let fs = g.S.FileSystem.functions c.args.disk.now in
    let sought = sought_of g.T.NameTest.takes fs self.filter in
    let answer = item c.args.answer in
    let on = kept sought c.args.below.now answer (sym c.is_below.ensures ∙ c.if-is_below.false) in
    let old = append_known (g.W.Write.contents c.args.out.now) (gathered_of self.lines) in
    let new = append_known (g.W.Write.contents c.print_kept.new.out) (gathered_of c.print_kept.new.self.lines) in
    on_ok_weaker c.print_kept.result
    (λ printed. λ known. subst (λ l. Appends old new (found_lines sought (form_of fs self.lines) l)) (sym on)
    (subst (λ l. Appends old new l) (sym (append-nil (found_line sought (form_of fs self.lines) answer))) (printed known)))
    c.print_kept.ensures.printed

pub returns-clause-left : goal.returns-clause-left
returns-clause-left g c =
    let self = c.args.self.now in
    let sought = sought_of g.T.NameTest.takes (g.S.FileSystem.functions c.args.disk.now) self.filter in
    let on = kept sought c.args.below.now (item c.args.answer) (sym c.is_below.ensures ∙ c.if-is_below.false) in
    on_ok_weaker c.print_kept.result (λ is. λ known. is known ∙ ap (left_after sought self.left) (sym on)) c.print_kept.ensures.left

pub returns-clause-below : goal.returns-clause-below
returns-clause-below g c =
    let sought = sought_of g.T.NameTest.takes (g.S.FileSystem.functions c.args.disk.now) c.args.self.now.filter in
    let below = c.args.below.now in
    on_ok_weaker c.print_kept.result
    (λ is. λ known. is known ∙ ap (λ b. if b then below else below_after sought below (item c.args.answer)) (sym (sym c.is_below.ensures ∙ c.if-is_below.false)))
    c.print_kept.ensures.below
