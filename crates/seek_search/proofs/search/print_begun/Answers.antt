use Rattle.std.proofs.Common.{◌∙◌, [], append-nil, map, inl, inr, refl, subst, sym}
use Rattle.std.proofs.lemmas.Result.{IfOk-weaker}
use Rattle.jwalk.specs.jwalk_job.Entry.{item}
use Rattle.jwalk.specs.jwalk_job.Given.{counted_list}
use Rattle.jwalk.specs.WalkDir.{stateless}
use Rattle.jwalk.proofs.CleanFacts.{whole_unless_busy}
use Rattle.jwalk.proofs.WholeFacts.{steady_begun}
use Rattle.seek_words.specs.Filter.{sought_of}
use Rattle.seek_found.specs.Limit.{is_hit}
use Rattle.seek_found.specs.SoughtTest.{takes_of}
use Rattle.seek_found.proofs.FirstFacts.{first_printed}
use Rattle.seek_found.proofs.RootsFacts.{counted_printed}
use Rattle.seek_found.proofs.WholeFacts.{deep_errors}
use Rattle.seek_search.proofs.BeginFacts.{begins_whole, found_in_whole}
use Rattle.seek_search.proofs.SearchFacts.{none_busy, none_refused}
use Rattle.seek_search.proofs.search.print_begun.Goals as goal

pub print_found-requires-clause-can : goal.print_found-requires-clause-can
print_found-requires-clause-can g c = subst g.P.ProcessReadDir.IsLawful (sym c.into_iter-answers.ensures.starts.callback) c.requires.lawful

pub returns-clause-whole : goal.returns-clause-whole
returns-clause-whole g c =
    let walk = c.args.walk in
    let it = c.into_iter-answers.result in
    let begun = c.into_iter-answers.ensures in
    IfOk-weaker c.print_found.result _ _
    (λ clean printed. λ fixed given steady.
    let prints = printed (λ empty. fixed, λ links. fixed) in
    let xs = prints.answered in
    let steadily = steady_begun _ _ _ _ _ given walk it begun.steady begun.starts steady in
    let holds = begun.begins.1.holds in
    let sought = sought_of takes_of (g.S.FileSystem.functions c.args.disk.now) c.args.printer.now.filter in
    first_printed given sought _ _ (map item xs) _ _ _ _ clean prints.within prints.limit prints.lines prints.all
    (λ is.
    let deep = deep_errors sought xs (sym prints.all ∙ is) in
    elim prints.calls [
      | inl drains ↦ record {
        rest = [];
        begins = append-nil (counted_list given xs)
            ∙ whole_unless_busy _ _ _ _ _ given walk it xs begun.begins.0 holds steadily begun.starts steady drains (none_refused xs deep) (none_busy xs deep);
        last = inl refl;
      }
      | inr stopped ↦
          let begins = begins_whole _ _ _ _ _ given walk it begun.starts steady begun.begins.0 holds steadily xs stopped.1.0 stopped.1.1 (none_refused xs deep) (none_busy xs deep) in
          record { rest = begins.0; begins = begins.1; last = inr stopped.0 }
    ])
    (elim prints.calls [
      | inl drains ↦ found_in_whole _ _ _ _ _ given walk it begun.starts steady (is_hit sought) (λ k. refl) begun.begins.0 holds steadily xs drains.1.0 drains.1.1
      | inr stopped ↦ found_in_whole _ _ _ _ _ given walk it begun.starts steady (is_hit sought) (λ k. refl) begun.begins.0 holds steadily xs stopped.1.0 stopped.1.1
    ]))
    c.print_found.ensures.printed

pub returns-clause-yielded : goal.returns-clause-yielded
returns-clause-yielded g c =
    IfOk-weaker c.print_found.result _ _
    (λ clean printed. λ known. let prints = printed known in counted_printed stateless _ _ _ _ _ _ _ clean prints.answered (record {
      walk = c.args.walk;
      is_so = refl;
      it = c.into_iter-answers.result;
      starts = c.into_iter-answers.ensures.starts;
      begins = c.into_iter-answers.ensures.root c.requires.keeps;
      yielded = prints.answered;
      called = prints.calls;
      counted = refl;
    }) prints.within prints.limit prints.lines prints.all)
    c.print_found.ensures.printed
