use Rattle.std.proofs.lemmas.Result.{IfOk-weaker}
use Rattle.jwalk.specs.DirEntryIter.{Answers}
use Rattle.jwalk_model.specs.Lines.{lines_of}
use Rattle.walk_run.specs.Totals.{totals_line}
use Rattle.walk_run.proofs.AskedWalkFacts.{totals_written, lines_written, printed_as}
use Rattle.walk_run.proofs.asked_walk.print_answers.Goals as goal

pub returns-then-asked-clause-printed : goal.returns-then-asked-clause-printed
returns-then-asked-clause-printed g c =
    let steps = Answers g.S.FileSystem g.P.ProcessReadDir g.C.ReadDirState.Clone g.C.DirEntryState.Default g.L.Readers in
    IfOk-weaker c.print_totals.result _ _ (λ clean. printed_as c.args.asked totals_line steps c.args.walk (g.W.Write.contents c.args.out.now) (g.W.Write.contents c.print_totals.new.out) clean (totals_written c.args.asked c.if-asked.true)) c.print_totals.ensures.printed

pub returns-clause-printed : goal.returns-clause-printed
returns-clause-printed g c =
    let steps = Answers g.S.FileSystem g.P.ProcessReadDir g.C.ReadDirState.Clone g.C.DirEntryState.Default g.L.Readers in
    IfOk-weaker c.print_walked.result _ _ (λ clean. printed_as c.args.asked lines_of steps c.args.walk (g.W.Write.contents c.args.out.now) (g.W.Write.contents c.print_walked.new.out) clean (lines_written c.args.asked c.if-asked.false)) c.print_walked.ensures.printed
