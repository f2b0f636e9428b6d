use Rattle.std.proofs.Common.{◌≡◌, ◌∙◌, length, refl}
use Rattle.jwalk_order.specs.IndexPath.{address as indices_of}
use Rattle.jwalk_board.proofs.Steps.{pushed_as, keeps_finished}
use Rattle.jwalk_order.proofs.Tops.{addressed-is}
use Rattle.jwalk_board.proofs.board.Board.finish.Goals as goal

pub invariant_of-self-2 : goal.invariant_of-self-2
invariant_of-self-2 g c =
    let count-is : c.len-count.result ≡ length c.args.children.items = c.len-count.ensures ∙ c.args.children.ok.0 in
    let item-is = addressed-is c.new.result c.args.address c.args.reading (length c.args.children.items) c.new.ensures.value c.new.ensures.index_path (c.new.ensures.child_count ∙ count-is) in
    keeps_finished _ c.self.invariant (indices_of c.args.address) c.args.reading c.args.children.items _ _ _ (record {
      running = c.if-self.false;
      in_hand = c.remove.ensures;
      ready = pushed_as _ _ _ _ _ item-is c.queue_children.ensures.ready c.push_reserved.ensures;
      queued = c.in_default.ensures.queued;
      others = refl;
    })

pub returns-clause-finished : goal.returns-clause-finished
returns-clause-finished g c =
    let count-is : c.len-count.result ≡ length c.args.children.items = c.len-count.ensures ∙ c.args.children.ok.0 in
    let item-is = addressed-is c.new.result c.args.address c.args.reading (length c.args.children.items) c.new.ensures.value c.new.ensures.index_path (c.new.ensures.child_count ∙ count-is) in
    rw (← c.self.view_is) (record {
      running = c.if-self.false;
      in_hand = c.remove.ensures;
      ready = pushed_as _ _ _ _ _ item-is c.queue_children.ensures.ready c.push_reserved.ensures;
      queued = c.in_default.ensures.queued;
      others = refl;
    })
