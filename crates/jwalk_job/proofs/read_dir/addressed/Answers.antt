use Rattle.std.proofs.Common.{◌≡◌, ◌++◌, ◌∷◌, [], length, map, sym, ap, ◌∙◌, arith, subst}
use Rattle.std.specs.Prelude.{All}
use Rattle.std.proofs.lemmas.List.{map-id}
use Rattle.std.proofs.lemmas.Iterator.Adapters.{YieldsList-from_vec}
use Rattle.std.proofs.lemmas.Iterator.Consumers.{YieldsList-end}
use Rattle.jwalk_order.specs.Frontier.{children_from}
use Rattle.jwalk_order.specs.IndexPath.{address}
use Rattle.jwalk_order.specs.Ordered.{address_of, child_count_of}
use Rattle.jwalk_job.proofs.OrderedFacts.{values_more, addresses_more, unread_more}
use Rattle.jwalk_job.proofs.read_dir.addressed.Goals as goal

pub loop-value-preserved : goal.loop-value-preserved
loop-value-preserved g c =
    let old = c.loop-value.invariant in
    let before = c.loop-value.ordered.items in
    let one = c.new.result in
    let items = sym c.in_ok-push.ensures.items in
    let a = address c.args.address.now in
    let count : c.len-in-loop-value.result ≡ length before = omega (arith, c.loop-value.ordered.ok.0, c.len-in-loop-value.ensures) in
    let at : address_of one ≡ a ++ length before ∷ [] = ap address c.new.ensures.index_path ∙ c.in_ok-child.ensures ∙ ap (λ i. a ++ i ∷ []) count in
    record {
      values = subst (λ l. map (λ x. x.value) l ≡ c.loop-value.yielded ++ c.in-Some.value ∷ []) items (values_more before one c.loop-value.yielded c.in-Some.value old.values c.new.ensures.value);
      addresses = subst (λ l. map address_of l ≡ children_from 0 a (length l)) items (addresses_more before one a old.addresses at);
      unread = subst (All (λ x. child_count_of x ≡ 0)) items (unread_more before one old.unread c.new.ensures.child_count);
    }

pub returns-clause-same : goal.returns-clause-same
returns-clause-same g c =
    let values = c.args.values in
    let begins = c.into_iter-value-iterator.ensures.into_iter_gives in
    let all = YieldsList-end (YieldsList-from_vec {s = c.into_iter-value-iterator.result} values.items begins.0 (begins.1 ∙ values.ok.0)) c.loop-value.yielded c.loop-value.value-iterator c.loop-value.yielded_by c.next.result c.next.new.self c.in-None.is c.next.ensures.steps in
    c.loop-value.invariant.values ∙ sym (map-id c.loop-value.yielded) ∙ all.0
