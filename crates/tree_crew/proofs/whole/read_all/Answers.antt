use Rattle.std.proofs.Common.{◌∙◌, ap, length, subst, sym}
use Rattle.std.specs.Result.{IfOk}
use Rattle.jwalk_order.specs.Frontier.{roots}
use Rattle.tree_crew.specs.Whole.{ArePreorder}
use Rattle.tree_crew.proofs.whole.read_all.Goals as goal

pub returns : goal.returns
returns g c =
    subst (λ origin. IfOk c.take_all.result (λ v. ArePreorder g.J.Plan origin.plan origin.roots v.items)) (c.in_ok-session.ensures.origin ∙ c.new.ensures) c.take_all.ensures

pub take_all-requires : goal.take_all-requires
take_all-requires g c =
    c.in_ok-session.ensures.awaits ∙ sym (ap (λ origin. roots (length origin.roots)) c.in_ok-session.ensures.origin)
