use Rattle.std.proofs.Common.{rules, ◌≢◌, ◌∷◌, [], cond, arith}
use Rattle.jwalk_order.specs.IndexPath.{address}
use Rattle.jwalk_order.specs.Addresses.{is_same}
use Rattle.jwalk_order.proofs.Sets.{same}
use Rattle.jwalk_order.proofs.Keys.{times-list_any, remove_key-permutation, apart-other, apart-removed}
use Rattle.jwalk_order.proofs.address_set.AddressSet.remove.Goals as goal
use Rattle.jwalk_order.proofs.address_set.AddressSet.remove.Goals.{else-self-via-then-self+else-eq, else-self-via-else-self}

pub returns : goal.returns
returns g c =
    let a = address c.args.path.now in
    let apart = cond c.self.inside.has_apart (c.self.inside.apart ∷ []) [] in
    let ks = c.self.inside.others.keys in
    rw (← c.self.view_is, c.remove.ensures.keys)
    (elim c.else-self.branch [
      | else-self-via-then-self+else-eq w ↦
          let other : address c.self.inside.apart ≢ a = search rules in
          let there = rw (← c.self.view_is, w.if-self.true) at c.requires in
          let found = times-list_any address a ks (omega (arith, there, apart-other address a c.self.inside.apart ks other)) in
          apart-removed address a apart ks _ (remove_key-permutation address (λ k. is_same a (address k)) a (λ k h. same a (address k) h) ks found)
      | else-self-via-else-self w ↦
          let there = rw (← c.self.view_is, w.if-self.false) at c.requires in
          let found = times-list_any address a ks there in
          apart-removed address a apart ks _ (remove_key-permutation address (λ k. is_same a (address k)) a (λ k h. same a (address k) h) ks found)
    ])
