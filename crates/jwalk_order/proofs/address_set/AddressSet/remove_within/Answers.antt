use Rattle.std.proofs.Common.{rules, not, ◌&&◌, true}
use Rattle.std.proofs.lemmas.Fn.{filter_same}
use Rattle.jwalk_order.specs.IndexPath.{address, is_within}
use Rattle.jwalk_order.proofs.Within.{stay-apart}
use Rattle.jwalk_order.proofs.address_set.AddressSet.remove_within.Goals as goal

pub returns : goal.returns
returns g c =
    let a = address c.args.path.now in
    let kept = filter_same _ (λ other. true && not (is_within a (address other))) _ (λ x b f' k. search rules) _ _ c.retain.ensures.filtered in
    rw (← c.self.view_is, c.stays-self-inside.ensures, kept) (stay-apart address (λ z. not (is_within a z)) c.self.inside.has_apart c.self.inside.apart c.self.inside.others.keys)
