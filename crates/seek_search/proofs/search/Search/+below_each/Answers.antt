use Rattle.std.proofs.Common.{refl}
use Rattle.std.proofs.lemmas.Result.{IfOk-weaker}
use Rattle.std.specs.Arc.{arc_value}
use Rattle.program_parts.specs.Values.{texts_of}
use Rattle.seek_found.proofs.FirstFacts.{one_still}
use Rattle.seek_found.proofs.RootsFacts.{printed_such, roots_printed, roots_stopped}
use Rattle.seek_words.specs.Filter.{sought_of}
use Rattle.seek_found.specs.SoughtTest.{takes_of}
use Rattle.seek_search.specs.Search.{unpruned_below}
use Rattle.seek_found.proofs.FoundFacts.{asked_if}
use Rattle.seek_search.proofs.RunFacts.{none_printed, none_yielded, one_element, one_printed, others_printed, stopped_printed, texts_then}
use Rattle.seek_search.proofs.SearchFacts.{below_one, below_same, same_below}
use Rattle.seek_search.proofs.search.Search.+below_each.Goals as goal

pub returns-in-empty-clause-yielded : goal.returns-in-empty-clause-yielded
returns-in-empty-clause-yielded g t c = λ known. none_yielded _ _ c.args.roots.now c.in-empty.len_below _ _ _ _

pub returns-in-empty-clause-whole : goal.returns-in-empty-clause-whole
returns-in-empty-clause-whole g t c = λ fixed told.
    let f = unpruned_below (g.S.FileSystem.functions (arc_value c.args.self.now.disk)) (g.X.Texts.functions (arc_value c.args.self.now.texts)) c.args.self.now.lines.now c.args.self.now.asked.now in
    none_printed (f (sought_of takes_of (g.S.FileSystem.functions (arc_value c.args.self.now.disk)) c.args.printer.now.filter)) c.args.roots.now c.in-empty.len_below _ _ _ _ _

pub returns-in-len1-clause-yielded : goal.returns-in-len1-clause-yielded
returns-in-len1-clause-yielded g t c =
    IfOk-weaker c.below.result _ _ (λ clean prints. λ known. printed_such (below_one _ _ _ _ _ _ c.args.self.now.asked.now _ _ c.args.roots.now _ c.in-len1.len_at_least c.in-len1.len_below) (prints known)) c.below.ensures.yielded

pub returns-in-len1-clause-whole : goal.returns-in-len1-clause-whole
returns-in-len1-clause-whole g t c =
    let f = unpruned_below (g.S.FileSystem.functions (arc_value c.args.self.now.disk)) (g.X.Texts.functions (arc_value c.args.self.now.texts)) c.args.self.now.lines.now c.args.self.now.asked.now in
    IfOk-weaker c.below.result _ _
    (λ clean whole. λ fixed told. one_printed (f (sought_of takes_of (g.S.FileSystem.functions (arc_value c.args.self.now.disk)) c.args.printer.now.filter)) c.args.roots.now _ (one_element c.args.roots.now _ c.in-len1.len_at_least c.in-len1.len_below) (whole fixed told))
    c.below.ensures.whole

pub returns-then-is_full-clause-yielded : goal.returns-then-is_full-clause-yielded
returns-then-is_full-clause-yielded g t c = λ known.
    let parts = c.split_at.result in
    printed_such (below_same _ _ _ _ _ _ c.args.self.now.asked.now _ _ (texts_then c.args.roots.now parts.0.now parts.1.now c.split_at.ensures.by_index.0))
    (roots_stopped _ _ (texts_of parts.0.now) (texts_of parts.1.now) (c.is_full.ensures.full c.if-is_full.true) (c.in_ok-clean-in_default.ensures.yielded known))

pub returns-then-is_full-clause-whole : goal.returns-then-is_full-clause-whole
returns-then-is_full-clause-whole g t c = λ fixed told.
    let f = unpruned_below (g.S.FileSystem.functions (arc_value c.args.self.now.disk)) (g.X.Texts.functions (arc_value c.args.self.now.texts)) c.args.self.now.lines.now c.args.self.now.asked.now in
    let parts = c.split_at.result in
    stopped_printed (f (sought_of takes_of (g.S.FileSystem.functions (arc_value c.args.self.now.disk)) c.args.printer.now.filter)) c.args.roots.now parts.0.now parts.1.now c.split_at.ensures.by_index.0
    (c.is_full.ensures.full c.if-is_full.true) (c.in_ok-clean-in_default.ensures.whole fixed told)

pub returns-in_ok-below_each-in_default-clause-yielded : goal.returns-in_ok-below_each-in_default-clause-yielded
returns-in_ok-below_each-in_default-clause-yielded g t c = λ known.
    let parts = c.split_at.result in
    printed_such (below_same _ _ _ _ _ _ c.args.self.now.asked.now _ _ (texts_then c.args.roots.now parts.0.now parts.1.now c.split_at.ensures.by_index.0))
    (roots_printed _ _ (texts_of parts.0.now) (texts_of parts.1.now) _ _ _ _ _ _ c.in_ok-clean-in_default.clean c.in_ok-below_each-in_default.field-0 (c.is_full.ensures.room c.if-is_full.false) c.below_each.ensures.stays.sought c.below_each.ensures.stays.form
    (c.in_ok-clean-in_default.ensures.yielded known)
    (printed_such (same_below _ _ _ c.args.self.now.asked.now _ (texts_of parts.1.now) (λ _ _ at. at) refl refl c.below_each.ensures.stays.sought) (c.in_ok-below_each-in_default.ensures.yielded (asked_if c.below_each.ensures.stays.sought c.below_each.ensures.stays.form (λ fixed. fixed) known))))

pub returns-in_ok-below_each-in_default-clause-whole : goal.returns-in_ok-below_each-in_default-clause-whole
returns-in_ok-below_each-in_default-clause-whole g t c = λ fixed told.
    let f = unpruned_below (g.S.FileSystem.functions (arc_value c.args.self.now.disk)) (g.X.Texts.functions (arc_value c.args.self.now.texts)) c.args.self.now.lines.now c.args.self.now.asked.now in
    let parts = c.split_at.result in
    let first = c.in_ok-clean-in_default.ensures in
    let such = first.yielded (λ empty. fixed, λ links. fixed) in
    others_printed f c.args.roots.now parts.0.now parts.1.now c.split_at.ensures.by_index.0 c.below_each.ensures.stays.sought c.below_each.ensures.stays.form
    (λ one. one_still (sought_of takes_of (g.S.FileSystem.functions (arc_value c.args.self.now.disk)) c.args.printer.now.filter) such.answers one such.limit (c.is_full.ensures.room c.if-is_full.false))
    (first.whole fixed told) (c.in_ok-below_each-in_default.ensures.whole fixed told)
