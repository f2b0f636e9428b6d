use Rattle.std.proofs.Common.{ap, refl, ◌∙◌}
use Rattle.std.proofs.lemmas.List.{map-id}
use Rattle.tree_walk.specs.Reads.{spec_of}
use Rattle.tree_walk.proofs.Steps.{gives-new}
use Rattle.tree_walk.proofs.AheadFacts.{begins}
use Rattle.tree_walk.proofs.board_walk.BoardWalk.begin.Goals as goal

pub returns-in-Ok-clause-to_read : goal.returns-in-Ok-clause-to_read
returns-in-Ok-clause-to_read g c = ap (λ left. left.to_read) (gives-new (λ s. s) spec_of c.args.roots.items c.in-Ok.board c.in-Ok.ensures.made) ∙ map-id c.args.roots.items

pub returns-in-Ok-clause-read_ahead : goal.returns-in-Ok-clause-read_ahead
returns-in-Ok-clause-read_ahead g c = begins c.args.roots.items c.in-Ok.board c.in-Ok.ensures.made

pub invariant_of-self : goal.invariant_of-self
invariant_of-self g c =
    let new = c.in-Ok.ensures.made in
    (c.self.invariant.0, record { running = new.running; none_in_hand = new.in_hand })

pub invariant_of-self-in-Err : goal.invariant_of-self-in-Err
invariant_of-self-in-Err g c = (c.self.invariant.0, tt)

pub returns-in-Ok-clause-early : goal.returns-in-Ok-clause-early
returns-in-Ok-clause-early g c = rw c.in-Ok.ensures.made.ready refl

pub returns-clause-stopped : goal.returns-clause-stopped
returns-clause-stopped g c = refl
