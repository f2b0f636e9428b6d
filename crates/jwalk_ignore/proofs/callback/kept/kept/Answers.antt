use Rattle.std.proofs.Common.{◌∷◌, [], ◌++◌, map, ap, sym, ◌∙◌}
use Rattle.std.specs.List.{filter}
use Rattle.std.proofs.lemmas.List.{map-id}
use Rattle.std.proofs.lemmas.Iterator.Adapters.{YieldsList-from_vec}
use Rattle.std.proofs.lemmas.Iterator.Consumers.{YieldsList-end}
use Rattle.jwalk.specs.jwalk_job.Entry.{item}
use Rattle.jwalk_ignore.proofs.ListFacts.{filter_more}
use Rattle.jwalk_ignore.proofs.callback.kept.kept.Goals as goal

pub loop-found-init : goal.loop-found-init
loop-found-init g c = record {
  same = λ test decides. decides;
  kept = λ test decides. ap (map item) c.in_ok-kept.ensures.items;
}

pub loop-found-preserved : goal.loop-found-preserved
loop-found-preserved g c =
    let held = c.loop-found.invariant in
    record {
      same = λ test decides. c.in_ok-push_kept.ensures.same test (held.same test decides);
      kept = λ test decides. c.in_ok-push_kept.ensures.kept test (held.same test decides)
          ∙ ap (λ l. l ++ filter test (item c.in-Some.found ∷ [])) (held.kept test decides)
          ∙ sym (filter_more test item c.loop-found.yielded c.in-Some.found);
    }

pub returns : goal.returns
returns g c =
    let begins = c.into_iter-found-iterator.ensures.into_iter_gives in
    let all = YieldsList-end (YieldsList-from_vec {s = c.into_iter-found-iterator.result} c.args.list.items begins.0 (begins.1 ∙ c.args.list.ok.0)) c.loop-found.yielded c.loop-found.found-iterator c.loop-found.yielded_by c.next.result c.next.new.self c.in-None.is c.next.ensures.steps in
    λ test decides. c.loop-found.invariant.kept test decides ∙ ap (λ l. filter test (map item l)) (sym (map-id c.loop-found.yielded) ∙ all.0)
