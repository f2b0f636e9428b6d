use Rattle.std.proofs.Common.{◌≡◌, ℕ, false, List, length, drop, sym, ◌∙◌, ap, arith, length-drop}
use Rattle.jwalk_ignore_rules.specs.Pattern.Class.{closes, items_in}
use Rattle.jwalk_ignore_rules.specs.declared.pattern.class_item.ClassItem.{ClassItem}
use Rattle.jwalk_ignore_rules.proofs.ClassFacts.{next_item_of}
use Rattle.jwalk_ignore_rules.proofs.pattern.class.read_items.Goals as goal

pub items-preserved : goal.items-preserved
items-preserved g c = record {
  within = omega (arith, c.items.invariant.within, ap length c.split_at.ensures.back, length-drop {A = ℕ}, c.split_at.ensures.back_len);
  same =
      let read = c.in-Some-item_in.read in
      let open_on : closes c.in-Some.byte.now (length c.items.items.items) ≡ false = ap (closes c.in-Some.byte.now) (sym c.items.items.ok.0) ∙ ap (closes c.in-Some.byte.now) (sym c.len.ensures) ∙ sym c.if-closes.ensures in
      c.items.invariant.same
      ∙ next_item_of c.items.items.items c.items.last c.items.rest.now c.in-Some.byte.now c.in-Some.behind.now read c.in-Some.ensures.cases.0
      open_on (sym c.in-Some-item_in.ensures.read) c.in-Some-item_in.ensures.within.0
      ∙ ap (λ (xs : List ClassItem). items_in xs read.last 0 (drop read.len c.items.rest.now)) (sym c.in_ok-push.ensures.items)
      ∙ ap (λ (t : List ℕ). items_in c.push.new.self.items read.last 0 t) (sym c.split_at.ensures.back);
}
