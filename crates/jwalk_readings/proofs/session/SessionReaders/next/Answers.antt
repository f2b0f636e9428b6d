use Rattle.std.proofs.Common.{◌≡◌, ◌∙◌, true, false, sym, ap, subst}
use Rattle.jwalk_order.specs.Addressed.{addressed}
use Rattle.jwalk_order.specs.IndexPath.{address}
use Rattle.tree_crew.specs.Session.{origin_of}
use Rattle.jwalk_readings.specs.Due.{IsDue}
use Rattle.jwalk_readings.specs.Origin.{begun, IsMessageOf}
use Rattle.jwalk_readings.specs.Session.{awaited_by}
use Rattle.jwalk_readings.proofs.AtJob.{message_of}
use Rattle.jwalk_readings.proofs.DueFacts.{due_fits}
use Rattle.jwalk_readings.proofs.session.SessionReaders.next.Goals as goal

pub returns-then-fits-clause-of : goal.returns-then-fits-clause-of
returns-then-fits-clause-of g c origin from =
    subst (λ o. IsMessageOf g.S.FileSystem g.P.ProcessReadDir g.C.ReadDirState.Clone g.C.DirEntryState.Default o (addressed c.new-item.result)) from
    (message_of g.S.FileSystem g.P.ProcessReadDir g.C.ReadDirState.Clone g.C.DirEntryState.Default (origin_of c.args.self.now.readings) c.in-Some.item c.new-item.result
    (c.new-item.ensures.value ∙ c.of_crew.ensures) c.new-item.ensures.index_path (c.new-item.ensures.child_count ∙ c.child_count-child_count.ensures) (rw c.in-Some.is at c.in_ok-item.ensures.answer).of)

pub returns-else-fits-clause-due : goal.returns-else-fits-clause-due
returns-else-fits-clause-due g c lost origin from due =
    let began = origin_of c.args.self.now.readings in
    let here : IsDue g.S.FileSystem g.P.ProcessReadDir g.C.ReadDirState.Clone g.C.DirEntryState.Default (begun began) (awaited_by c.args.self.now) c.args.wanted.now
    = subst (λ o. IsDue g.S.FileSystem g.P.ProcessReadDir g.C.ReadDirState.Clone g.C.DirEntryState.Default o (awaited_by c.args.self.now) c.args.wanted.now) (sym from) due in
    let fits
    = due_fits g.S.FileSystem g.P.ProcessReadDir g.C.ReadDirState.Clone g.C.DirEntryState.Default (begun began) (awaited_by c.args.self.now) c.args.wanted.now c.new-item.result here
    (ap address c.new-item.ensures.index_path ∙ (rw c.in-Some.is at c.in_ok-item.ensures.answer).next)
    (message_of g.S.FileSystem g.P.ProcessReadDir g.C.ReadDirState.Clone g.C.DirEntryState.Default began c.in-Some.item c.new-item.result
    (c.new-item.ensures.value ∙ c.of_crew.ensures) c.new-item.ensures.index_path (c.new-item.ensures.child_count ∙ c.child_count-child_count.ensures) (rw c.in-Some.is at c.in_ok-item.ensures.answer).of) in
    let no : false ≡ true = sym c.if-fits.false ∙ c.fits.ensures.1 fits in absurd cc
