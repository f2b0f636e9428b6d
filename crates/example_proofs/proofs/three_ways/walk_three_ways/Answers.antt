use Rattle.std.proofs.Common.{◌∙◌, ap, subst, sym}
use Rattle.jwalk.specs.jwalk_model.Options.{defaults}
use Rattle.jwalk.specs.jwalk_model.Walk.{stateless_walk}
use Rattle.example_proofs.proofs.three_ways.walk_three_ways.Goals as goal

pub returns-clause-in_batches : goal.returns-clause-in_batches
returns-clause-in_batches g c = λ fixed one other.
    let first = c.in_ok-clone.ensures.cases in
    let second = c.in_ok-clone-2.ensures.cases in
    c.in_ok-walk_by-2.ensures (subst g.S.FileSystem.IsFixed (sym second) fixed) other.0 other.1
    ∙ ap (λ fs. stateless_walk (g.S.FileSystem.functions fs) defaults c.args.root.now) (second ∙ sym first)
    ∙ sym (c.in_ok-walk_by.ensures (subst g.S.FileSystem.IsFixed (sym first) fixed) one.0 one.1)

pub returns-clause-by_crew : goal.returns-clause-by_crew
returns-clause-by_crew g c = λ fixed one other.
    let first = c.in_ok-clone.ensures.cases in
    c.in_ok-walk_by-3.ensures fixed other.0 other.1
    ∙ ap (λ fs. stateless_walk (g.S.FileSystem.functions fs) defaults c.args.root.now) (sym first)
    ∙ sym (c.in_ok-walk_by.ensures (subst g.S.FileSystem.IsFixed (sym first) fixed) one.0 one.1)
