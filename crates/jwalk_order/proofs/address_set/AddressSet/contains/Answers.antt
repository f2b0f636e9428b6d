use Rattle.std.proofs.Common.{rules, ◌≡◌, ◌≢◌, ◌∙◌, sym, refl, arith}
use Rattle.jwalk_order.specs.IndexPath.{address}
use Rattle.jwalk_order.proofs.Keys.{list_any-times, times-list_any, apart-same, apart-other}
use Rattle.jwalk_order.proofs.address_set.AddressSet.contains.Goals as goal
use Rattle.jwalk_order.proofs.address_set.AddressSet.contains.Goals.{else-self-via-then-self+else-eq, else-self-via-else-self}

pub returns-then-eq : goal.returns-then-eq
returns-then-eq g c =
    let is : address c.self.inside.apart ≡ address c.args.path.now = search rules in
    rw (← c.self.view_is, c.if-self.true) ((λ _. apart-same address (address c.args.path.now) c.self.inside.apart c.self.inside.others.keys is), (λ _. refl))

pub returns : goal.returns
returns g c =
    let a = address c.args.path.now in
    let ks = c.self.inside.others.keys in
    rw (← c.self.view_is)
    (elim c.else-self.branch [
      | else-self-via-then-self+else-eq w ↦
          let other : address c.self.inside.apart ≢ a = search rules in
          let as_often = apart-other address a c.self.inside.apart ks other in
          rw w.if-self.true (
            (λ h. omega (arith, as_often, list_any-times address a ks (sym c.contains.ensures ∙ h))),
            (λ h. c.contains.ensures ∙ times-list_any address a ks (omega (arith, as_often, h))),
          )
      | else-self-via-else-self w ↦
          rw w.if-self.false (
            (λ h. list_any-times address a ks (sym c.contains.ensures ∙ h)),
            (λ h. c.contains.ensures ∙ times-list_any address a ks h),
          )
    ])
