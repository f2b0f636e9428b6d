use Rattle.std.proofs.Common.{map, ap, sym, ◌∙◌, ◌++◌, ◌∷◌, [], refl, subst, append-nil}
use Rattle.std.specs.Prelude.{fold}
use Rattle.std.proofs.lemmas.List.{map-id, append_assoc, map-append}
use Rattle.std.proofs.lemmas.Iterator.Adapters.{YieldsList-from_vec}
use Rattle.std.proofs.lemmas.Iterator.Consumers.{YieldsList-end}
use Rattle.std.proofs.lemmas.Result.{IfOk-from_err}
use Rattle.jwalk.specs.jwalk_job.Entry.{item}
use Rattle.jwalk_ignore.specs.Callback.Settings.{settings_value}
use Rattle.jwalk_ignore.specs.Callback.IgnoreFiles.{with_root_item}
use Rattle.jwalk_ignore.specs.Callback.MadeDepths.{more_at}
use Rattle.jwalk_ignore.specs.Callback.Sources.{made_value}
use Rattle.jwalk_ignore.proofs.ListFacts.{fold_more}
use Rattle.jwalk.specs.jwalk_job.Given.{AddsErrors}
use Rattle.jwalk.proofs.GivenFacts.{adds_behind, adds_more, adds_none}
use Rattle.jwalk_ignore.proofs.callback.rules_reader.RulesReader.add_roots.Goals as goal

pub loop-found-preserved : goal.loop-found-preserved
loop-found-preserved g c = record {
  value = λ fixed.
      let step = with_root_item (settings_value c.args.self.now.settings) (g.T.Texts.functions c.args.self.now.texts) in
      c.in_ok-add_root_item.ensures.value fixed ∙ ap (λ m. step m (item c.in-Some.found)) (c.loop-found.invariant.value fixed)
      ∙ sym (fold_more step item (made_value c.args.made.now) c.loop-found.yielded c.in-Some.found);
  depth = λ depth all before.
      let parts = more_at depth item c.loop-found.yielded c.in-Some.found all in
      c.in_ok-add_root_item.ensures.depth depth parts.1 (c.loop-found.invariant.depth depth parts.0 before);
  errors =
      let before = map item c.args.made.now.list.items in
      let more = ap (λ l. before ++ l) (map-append item c.loop-found.yielded (c.in-Some.found ∷ [])) ∙ sym (append_assoc before (map item c.loop-found.yielded) (item c.in-Some.found ∷ [])) in
      subst (λ l. AddsErrors l (map item c.add_root_item.new.made.list.items)) (sym more)
      (adds_more _ _ _ (adds_behind _ _ (item c.in-Some.found) c.loop-found.invariant.errors) c.in_ok-add_root_item.ensures.errors);
}

pub returns-clause-value : goal.returns-clause-value
returns-clause-value g c = λ fixed.
    let begins = c.into_iter-found-iterator.ensures.into_iter_gives in
    let all = YieldsList-end (YieldsList-from_vec {s = c.into_iter-found-iterator.result} c.args.list.items begins.0 (begins.1 ∙ c.args.list.ok.0)) c.loop-found.yielded c.loop-found.found-iterator c.loop-found.yielded_by c.next.result c.next.new.self c.in-None.is c.next.ensures.steps in
    c.loop-found.invariant.value fixed ∙ ap (λ l. fold (with_root_item (settings_value c.args.self.now.settings) (g.T.Texts.functions c.args.self.now.texts)) (made_value c.args.made.now) (map item l)) (sym (map-id c.loop-found.yielded) ∙ all.0)

pub returns-clause-depth : goal.returns-clause-depth
returns-clause-depth g c = λ depth all before.
    let begins = c.into_iter-found-iterator.ensures.into_iter_gives in
    let whole = YieldsList-end (YieldsList-from_vec {s = c.into_iter-found-iterator.result} c.args.list.items begins.0 (begins.1 ∙ c.args.list.ok.0)) c.loop-found.yielded c.loop-found.found-iterator c.loop-found.yielded_by c.next.result c.next.new.self c.in-None.is c.next.ensures.steps in
    c.loop-found.invariant.depth depth (rw (sym (map-id c.loop-found.yielded) ∙ whole.0) all) before

pub returns-in_err-add_root_item-clause-depth : goal.returns-in_err-add_root_item-clause-depth
returns-in_err-add_root_item-clause-depth g c = λ depth all before. IfOk-from_err c.from_residual.result _ c.from_residual.ensures.0

pub loop-found-init : goal.loop-found-init
loop-found-init g c = record {
  value = λ fixed. refl;
  depth = λ depth all before. before;
  errors = let old = map item c.args.made.now.list.items in subst (λ l. AddsErrors l old) (sym (append-nil old)) (adds_none old);
}

pub returns-clause-errors : goal.returns-clause-errors
returns-clause-errors g c =
    let begins = c.into_iter-found-iterator.ensures.into_iter_gives in
    let whole = YieldsList-end (YieldsList-from_vec {s = c.into_iter-found-iterator.result} c.args.list.items begins.0 (begins.1 ∙ c.args.list.ok.0)) c.loop-found.yielded c.loop-found.found-iterator c.loop-found.yielded_by c.next.result c.next.new.self c.in-None.is c.next.ensures.steps in
    subst (λ l. AddsErrors (map item c.args.made.now.list.items ++ map item l) (map item c.loop-found.made.list.items)) (sym (map-id c.loop-found.yielded) ∙ whole.0) c.loop-found.invariant.errors

pub returns-in_err-add_root_item-clause-errors : goal.returns-in_err-add_root_item-clause-errors
returns-in_err-add_root_item-clause-errors g c = IfOk-from_err c.from_residual.result _ c.from_residual.ensures.0
