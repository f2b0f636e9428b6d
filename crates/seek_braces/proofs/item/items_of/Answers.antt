use Rattle.std.proofs.Common.{◌∙◌, ◌++◌, ◌∷◌, ◌+◌, ℕ, List, [], ap, arith, drop, sym}
use Rattle.std.proofs.Math.ListN.{get_or}
use Rattle.seek_braces.specs.Item.{after_item, items_in}
use Rattle.seek_braces.specs.Place.{after}
use Rattle.seek_braces.specs.declared.item.Item.{Item}
use Rattle.seek_braces.specs.declared.place.Place.{Place}
use Rattle.seek_braces.proofs.ItemFacts.{next_item, one_more_open}
use Rattle.seek_braces.proofs.item.items_of.Goals as goal

pub loop-byte-preserved : goal.loop-byte-preserved
loop-byte-preserved c =
    let items = c.loop-byte.items.items in
    let byte = get_or c.args.text.now c.loop-byte.byte-index 0 in
    let rest = drop (c.loop-byte.byte-index + 1) c.args.text.now in
    let most = one_more_open c.loop-byte.depth c.item_of-item.result in
    record {
      same = c.loop-byte.invariant.same ∙ next_item items c.loop-byte.place c.loop-byte.depth c.args.text.now c.loop-byte.byte-index 0 c.loop-byte-test.true
          ∙ ap (λ (it : Item). (items ++ it ∷ []) ++ items_in (after c.loop-byte.place byte) (after_item c.loop-byte.depth it) rest) (sym c.item_of-item.ensures)
          ∙ ap (λ (all : List Item). all ++ items_in (after c.loop-byte.place byte) (after_item c.loop-byte.depth c.item_of-item.result) rest) (sym c.in_ok-push.ensures.items)
          ∙ ap (λ (place : Place). c.push.new.self.items ++ items_in place (after_item c.loop-byte.depth c.item_of-item.result) rest) (sym c.after-place.ensures)
          ∙ ap (λ (depth : ℕ). c.push.new.self.items ++ items_in c.after-place.result depth rest) (sym c.after_item-depth.ensures);
      depth = omega (arith, most, c.loop-byte.invariant.depth, c.after_item-depth.ensures);
    }
