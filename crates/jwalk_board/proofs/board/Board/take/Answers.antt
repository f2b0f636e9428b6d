use Rattle.std.proofs.Common.{◌≡◌, ◌∙◌, ap}
use Rattle.jwalk_order.specs.IndexPath.{address}
use Rattle.jwalk_board.proofs.Steps.{not_in_hand, takes, keeps_taken}
use Rattle.jwalk_order.proofs.Tops.{addressed-is}
use Rattle.jwalk_board.proofs.board.Board.take.Goals as goal

pub insert-requires : goal.insert-requires
insert-requires g c =
    let path-is : address c.in-Ok.path ≡ address c.in-Some.least.now = c.in-Ok.ensures in
    rw path-is (not_in_hand _ c.self.invariant (address c.in-Some.least.now) c.in-Some.ensures.some)

pub invariant_of-self-2 : goal.invariant_of-self-2
invariant_of-self-2 g c =
    keeps_taken _ c.self.invariant c.new.result _ _
    (takes _ c.self.invariant c.new.result (address c.in-Some.least.now) (address c.in-Ok.path) c.in-Some-pop.value _ _ c.if-self.false c.in-Some.ensures.next c.in-Some.ensures.least
    (addressed-is c.new.result c.in-Ok.path c.in-Some-pop.value 0 c.new.ensures.value c.new.ensures.index_path c.new.ensures.child_count ∙ ap (λ a. record { at = a; value = c.in-Some-pop.value; child_count = 0 }) c.in-Ok.ensures)
    c.in-Ok.ensures c.in-Ok-insert.ensures.added c.in-Some-pop.ensures.some)

pub returns-clause-taken : goal.returns-clause-taken
returns-clause-taken g c =
    rw (← c.self.view_is)
    (takes _ c.self.invariant c.new.result (address c.in-Some.least.now) (address c.in-Ok.path) c.in-Some-pop.value _ _ c.if-self.false c.in-Some.ensures.next c.in-Some.ensures.least
    (addressed-is c.new.result c.in-Ok.path c.in-Some-pop.value 0 c.new.ensures.value c.new.ensures.index_path c.new.ensures.child_count ∙ ap (λ a. record { at = a; value = c.in-Some-pop.value; child_count = 0 }) c.in-Ok.ensures)
    c.in-Ok.ensures c.in-Ok-insert.ensures.added c.in-Some-pop.ensures.some)
