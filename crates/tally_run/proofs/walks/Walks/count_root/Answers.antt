use Rattle.std.proofs.Common.{None, inl, inr, refl, subst}
use Rattle.std.specs.Arc.{arc_value}
use Rattle.std.proofs.lemmas.Result.{IfOk-weaker}
use Rattle.program_walks.proofs.FolderFacts.{none_reads_below, reads_below}
use Rattle.tally_run.specs.RootKind.{IsKindOf}
use Rattle.tally_run.proofs.WalkFacts.{below_as}
use Rattle.tally_run.proofs.walks.Walks.count_root.Goals as goal

pub returns-in_ok-report_root-in-LeftOut-clause-counts : goal.returns-in_ok-report_root-in-LeftOut-clause-counts
returns-in_ok-report_root-in-LeftOut-clause-counts g c = inl (record { untaken = refl; unwritten = refl; remembered = refl; without_error = refl })

pub returns-in-Directory-clause-first : goal.returns-in-Directory-clause-first
returns-in-Directory-clause-first g c = λ _.
    let self = c.args.self.now in
    IfOk-weaker c.count_below.result _ _
    (λ counted.
    below_as (λ always. always)
    (λ answers yielded. record {
      reads = self.crew;
      by = reads_below self.crew (λ fixed. subst (IsKindOf self.asked.now.follow ((g.S.FileSystem.functions (arc_value self.disk)).meta_of c.args.root.now)) c.in-Directory.is (c.in_ok-add.ensures.kind fixed));
      yielded = yielded;
    })
    refl)
    c.count_below.ensures

pub returns-in-Directory-clause-counts : goal.returns-in-Directory-clause-counts
returns-in-Directory-clause-counts g c =
    let self = c.args.self.now in
    IfOk-weaker c.count_below.result _ _
    (λ counted counts. inr (below_as (λ always. always)
    (λ answers yielded. record {
      reads = self.crew;
      by = reads_below self.crew (λ fixed. subst (IsKindOf self.asked.now.follow ((g.S.FileSystem.functions (arc_value self.disk)).meta_of c.args.root.now)) c.in-Directory.is (c.in_ok-add.ensures.kind fixed));
      yielded = yielded;
    })
    refl counts))
    c.count_below.ensures

pub returns-in-Other-clause-first : goal.returns-in-Other-clause-first
returns-in-Other-clause-first g c = λ _.
    let self = c.args.self.now in
    IfOk-weaker c.count_below-in-Other.result _ _
    (λ counted.
    below_as (λ always. always)
    (λ answers yielded. record {
      reads = None;
      by = none_reads_below self.crew (λ fixed. subst (IsKindOf self.asked.now.follow ((g.S.FileSystem.functions (arc_value self.disk)).meta_of c.args.root.now)) c.in-Other.is (c.in_ok-add.ensures.kind fixed));
      yielded = yielded;
    })
    refl)
    c.count_below-in-Other.ensures

pub returns-in-Other-clause-counts : goal.returns-in-Other-clause-counts
returns-in-Other-clause-counts g c =
    let self = c.args.self.now in
    IfOk-weaker c.count_below-in-Other.result _ _
    (λ counted counts. inr (below_as (λ always. always)
    (λ answers yielded. record {
      reads = None;
      by = none_reads_below self.crew (λ fixed. subst (IsKindOf self.asked.now.follow ((g.S.FileSystem.functions (arc_value self.disk)).meta_of c.args.root.now)) c.in-Other.is (c.in_ok-add.ensures.kind fixed));
      yielded = yielded;
    })
    refl counts))
    c.count_below-in-Other.ensures
