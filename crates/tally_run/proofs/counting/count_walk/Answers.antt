use Rattle.std.proofs.Common.{refl, subst, sym}
use Rattle.std.proofs.lemmas.Result.{IfOk-weaker}
use Rattle.jwalk_subtotals.specs.Files.{files_of}
use Rattle.tally_run.proofs.WalkFacts.{walk_counted}
use Rattle.tally_run.proofs.counting.count_walk.Goals as goal

pub count_answers-requires-clause-can : goal.count_answers-requires-clause-can
count_answers-requires-clause-can g c = record {
  may = subst g.P.ProcessReadDir.IsLawful (sym c.into_iter.ensures.starts.callback) c.requires;
  ends = tt;
}

pub returns : goal.returns
returns g c =
    let begun = c.into_iter.ensures in
    IfOk-weaker c.count_answers.result _ _
    (λ counted counts. walk_counted _ _ _ _ _ c.args.walk c.into_iter.result c.args.asked.now c.args.root.now (files_of c.args.files) _ _ _ _ counted _ _ refl c.root_before.ensures begun.starts begun.begins.1.holds begun.steady counts)
    c.count_answers.ensures
