use Rattle.std.proofs.Common.{◌≡◌, ◌+◌, ◌<◌, ◌^◌, length, arith, length-append}
use Rattle.std.proofs.lemmas.List.Sorted.{length_permutation}
use Rattle.std.specs.Vec.Iter.{into_iter_items}
use Rattle.jwalk_order.specs.IndexPath.{address}
use Rattle.jwalk_order.specs.Addressed.{addressed, numbered}
use Rattle.jwalk_order.specs.Siblings.{all_siblings}
use Rattle.jwalk_order.proofs.Children.{length-numbered}
use Rattle.jwalk_order.proofs.Siblings.{Joins, joins}
use Rattle.jwalk_order.proofs.Tops.{addressed-is}
use Rattle.jwalk_order.proofs.sibling_queue.SiblingQueue.push_children.Goals as goal

pub invariant_of-self-2 : goal.invariant_of-self-2
invariant_of-self-2 g c =
    let parent = address c.args.parent.now in
    let vs = c.args.values.items in
    let old = c.self.inside.entries.items in
    let new = c.push_reserved.new.self.items in
    let some : 0 < length vs = grind (arith, c.args.values.ok.0) in
    let fit : length vs < 2 ^ 64 = grind (arith, c.args.values.ok.0) in
    let item-is = addressed-is c.new.result c.in-Ok-Ok.first c.into_iter.result 0 c.new.ensures.value c.new.ensures.index_path c.new.ensures.child_count in
    let j : Joins into_iter_items parent vs old new =
    joins into_iter_items parent vs (addressed c.new.result) (address c.in-Ok-Ok.first) c.into_iter.result old c.reserve_one.new.self.items new item-is c.in-Ok-Ok.ensures c.into_iter.ensures.rest some fit c.in-Ok-Ok.ensures'.items c.self.invariant.0 c.push_reserved.ensures in
    let sum : length (all_siblings into_iter_items new) ≡ length vs + length (all_siblings into_iter_items old) =
    omega (arith, length_permutation _ _ j.permutation, length-append (numbered parent 0 vs) (all_siblings into_iter_items old), length-numbered parent 0 vs) in
    (j.are, grind (arith, sum, c.self.invariant.1, c.self.invariant.2, c.args.values.ok.0), grind (arith, c.if-len))

pub returns-clause-pushed : goal.returns-clause-pushed
returns-clause-pushed g c =
    let parent = address c.args.parent.now in
    let vs = c.args.values.items in
    let old = c.self.inside.entries.items in
    let new = c.push_reserved.new.self.items in
    let some : 0 < length vs = grind (arith, c.args.values.ok.0) in
    let fit : length vs < 2 ^ 64 = grind (arith, c.args.values.ok.0) in
    let item-is = addressed-is c.new.result c.in-Ok-Ok.first c.into_iter.result 0 c.new.ensures.value c.new.ensures.index_path c.new.ensures.child_count in
    rw (← c.self.view_is)
    (joins into_iter_items parent vs (addressed c.new.result) (address c.in-Ok-Ok.first) c.into_iter.result old c.reserve_one.new.self.items new item-is c.in-Ok-Ok.ensures c.into_iter.ensures.rest some fit c.in-Ok-Ok.ensures'.items c.self.invariant.0 c.push_reserved.ensures).permutation
