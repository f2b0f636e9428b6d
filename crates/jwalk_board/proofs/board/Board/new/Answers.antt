use Rattle.std.proofs.Common.{◌≡◌, ◌∙◌, ◌++◌, [], length, refl, subst, ap}
use Rattle.std.proofs.lemmas.List.{append-nil}
use Rattle.std.specs.List.Sorted.{IsPermutation}
use Rattle.jwalk_order.specs.Frontier.{roots}
use Rattle.jwalk_order.specs.IndexPath.{address as indices_of}
use Rattle.jwalk_order.specs.Addressed.{numbered}
use Rattle.jwalk_board.proofs.Opens.{whole_new}
use Rattle.jwalk_board.proofs.board.Board.new.Goals as goal

pub returns-clause-made : goal.returns-clause-made
returns-clause-made g c =
    let specs = c.args.roots.items in
    let count-is : c.len.result ≡ length specs = c.len.ensures ∙ c.args.roots.ok.0 in
    let top : indices_of c.new-2.result ≡ [] = ap (λ v. v.items) c.new-2.ensures ∙ c.new.ensures.items in
    let all-is : numbered (indices_of c.new-2.result) 0 specs ++ c.new-queued.result ≡ numbered [] 0 specs =
    ap (λ a. numbered a 0 specs ++ c.new-queued.result) top ∙ ap (λ l. numbered [] 0 specs ++ l) c.new-queued.ensures ∙ append-nil (numbered [] 0 specs) in
    record {
      queued = subst (λ z. IsPermutation z c.push_children.new.self) all-is c.in_ok-push_children.ensures.pushed;
      in_hand = c.new-3.ensures;
      ready = c.new-4.ensures;
      frontier = c.in-Ok.ensures ∙ ap roots count-is;
      running = refl;
    }

pub invariant_of-result : goal.invariant_of-result
invariant_of-result g c = whole_new c.args.roots.items _ (returns-clause-made g c)
