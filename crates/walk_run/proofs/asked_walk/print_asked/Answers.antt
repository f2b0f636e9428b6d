use Rattle.std.proofs.Common.{◌∙◌, refl, sym, ap, subst, map, is_ok}
use Rattle.std.specs.List.{list_all}
use Rattle.std.specs.Io.KnownBytes.{Appends}
use Rattle.jwalk_job.specs.Entry.{item}
use Rattle.jwalk_job.specs.Job.{IsSteady}
use Rattle.jwalk.specs.WalkDir.{file_system_of, callback_of, stateless}
use Rattle.jwalk.proofs.CleanFacts.{clean_whole}
use Rattle.jwalk.proofs.WholeFacts.{steady_begun, stateless_of}
use Rattle.walk_text.specs.Asked.{options_asked}
use Rattle.walk_run.specs.AskedWalk.{written}
use Rattle.walk_run.proofs.AskedWalkFacts.{all_entries, of_known, same_written}
use Rattle.walk_run.proofs.RunFacts.{first_makes}
use Rattle.walk_run.proofs.asked_walk.print_asked.Goals as goal

pub returns-clause-walked : goal.returns-clause-walked
returns-clause-walked g c = λ clean.
    let built = c.in_ok-walk.ensures in
    record {
      walk = c.in_ok-walk.walk;
      file_system = built.file_system;
      root_of_it = built.root ∙ c.in_ok-root.ensures.ok;
      options = built.options;
      crew = built.crew;
      it = c.into_iter-answers.result;
      starts = c.into_iter-answers.ensures.starts;
      one = c.into_iter-answers.ensures.one stateless (λ depth path state list. refl) (λ depth path state list. refl);
      prints = of_known c.print_answers.result _ _ (c.status_once.ensures.clean clean) c.print_answers.ensures.printed;
    }

pub returns-clause-failed : goal.returns-clause-failed
returns-clause-failed g c = λ failed.
    let built = c.in_ok-walk.ensures in
    first_makes (c.status_once.ensures.told failed) (λ known. record {
      walk = c.in_ok-walk.walk;
      file_system = built.file_system;
      root_of_it = built.root ∙ c.in_ok-root.ensures.ok;
      options = built.options;
      crew = built.crew;
      it = c.into_iter-answers.result;
      starts = c.into_iter-answers.ensures.starts;
      one = c.into_iter-answers.ensures.one stateless (λ depth path state list. refl) (λ depth path state list. refl);
      prints = of_known c.print_answers.result _ _ known c.print_answers.ensures.printed;
    })

pub returns-clause-printed : goal.returns-clause-printed
returns-clause-printed g c = λ clean fixed.
    let request = c.args.request.now in
    let walk = c.in_ok-walk.walk in
    let built = c.in_ok-walk.ensures in
    let none_failed = c.status_once.ensures.clean clean in
    let all = of_known c.print_answers.result _ _ none_failed c.print_answers.ensures.printed in
    let begun = c.into_iter-answers.ensures in
    let steady : IsSteady g.S.FileSystem _ _ _ (file_system_of walk) (callback_of walk) stateless
    = record { file_system = subst (g.S.FileSystem.IsFixed) (sym built.file_system) fixed; callback = λ depth path state list. refl; clones = λ x y is. refl; default = λ x is. refl } in
    let steadily = steady_begun _ _ _ _ _ stateless walk c.into_iter-answers.result begun.steady begun.starts steady in
    let listed = clean_whole _ _ _ _ _ stateless walk c.into_iter-answers.result all.0 begun.begins.0 begun.begins.1.holds steadily begun.starts steady all.1 (sym all.2) in
    let asked = listed ∙ stateless_of g.S.FileSystem.functions walk c.args.fs (options_asked request.asked) request.root.now built.file_system built.options (built.root ∙ c.in_ok-root.ensures.ok) in
    record {
      prints = subst (λ l. Appends (g.W.Write.contents c.args.out.now) (g.W.Write.contents c.print_answers.new.out) l) (sym (same_written stateless request.asked (map item all.0)) ∙ ap (written request.asked) asked) all.3;
      clean = ap (list_all is_ok) (sym asked) ∙ (all_entries stateless all.0 ∙ sym all.2);
    }
