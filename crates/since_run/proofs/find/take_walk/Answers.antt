use Rattle.std.proofs.Common.{◌∙◌, subst, sym}
use Rattle.jwalk.proofs.CleanFacts.{clean_whole}
use Rattle.jwalk.proofs.WholeFacts.{steady_begun}
use Rattle.since_run.proofs.FindFacts.{clean_ok}
use Rattle.since_run.proofs.find.take_walk.Goals as goal

pub take_all-requires-clause-can : goal.take_all-requires-clause-can
take_all-requires-clause-can g c = subst g.P.ProcessReadDir.IsLawful (sym c.into_iter-answers.ensures.starts.callback) c.requires

pub returns : goal.returns
returns g c =
    let walk = c.args.walk in
    let it = c.into_iter-answers.result in
    let begun = c.into_iter-answers.ensures in
    let takes = c.in_ok-take_all.ensures in
    record {
      it = it;
      starts = begun.starts;
      yielded = takes.yielded;
      drains = takes.drains;
      whole = λ clean given steady.
          clean_whole _ _ _ _ _ given walk it takes.yielded begun.begins.0 begun.begins.1.holds (steady_begun _ _ _ _ _ given walk it begun.steady begun.starts steady) begun.starts steady takes.drains
          (clean_ok takes.yielded (sym takes.has.clean_is ∙ clean));
      has = takes.has;
    }
