use Rattle.std.proofs.Common.{◌∙◌, Bool, ap, sym}
use Rattle.std.specs.Prelude.{None, if◌then◌else◌}
use Rattle.std.proofs.lemmas.Result.{IfOk-weaker}
use Rattle.program_walks.proofs.FolderFacts.{reads_if}
use Rattle.seek_found.proofs.RootsFacts.{printed_such}
use Rattle.seek_search.proofs.SearchFacts.{below_honouring, below_plain}
use Rattle.seek_search.proofs.search.Search.below.Goals.{then-branch, else-branch}
use Rattle.seek_search.proofs.search.Search.below.Goals as goal

pub returns-then-self-clause-yielded : goal.returns-then-self-clause-yielded
returns-then-self-clause-yielded g c =
    let self = c.args.self.now in
    let crewed = reads_if self.crew c.in_ok-needs_crew.field-0 c.in_ok-needs_crew.ensures (elim c.if-branch.branch [
      | then-branch w ↦ ap (λ it. it.now) w.crew-is ∙ ap (λ (b : Bool). if b then self.crew else None) (sym w.if-branch.true)
      | else-branch w ↦ ap (λ it. it.now) w.crew-is ∙ ap (λ (b : Bool). if b then self.crew else None) (sym w.if-branch.false)
    ]) in
    IfOk-weaker c.search_all.result _ _
    (λ clean prints. λ known. printed_such (λ answers y. record { reads = c.if-branch.crew.now; by = crewed; yielded = below_plain _ _ _ _ _ _ _ _ _ _ answers c.if-self.true y }) (prints known))
    c.search_all.ensures.yielded

pub returns-clause-yielded : goal.returns-clause-yielded
returns-clause-yielded g c =
    let self = c.args.self.now in
    let crewed = reads_if self.crew c.in_ok-needs_crew.field-0 c.in_ok-needs_crew.ensures (elim c.if-branch.branch [
      | then-branch w ↦ ap (λ it. it.now) w.crew-is ∙ ap (λ (b : Bool). if b then self.crew else None) (sym w.if-branch.true)
      | else-branch w ↦ ap (λ it. it.now) w.crew-is ∙ ap (λ (b : Bool). if b then self.crew else None) (sym w.if-branch.false)
    ]) in
    IfOk-weaker c.search_kept.result _ _
    (λ clean prints. λ known. printed_such (λ answers y. record { reads = c.if-branch.crew.now; by = crewed; yielded = below_honouring _ _ _ _ _ _ _ _ _ _ answers c.if-self.false y }) (prints known))
    c.search_kept.ensures.yielded
