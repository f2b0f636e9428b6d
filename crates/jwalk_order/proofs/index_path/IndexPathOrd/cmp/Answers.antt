use Rattle.std.proofs.Common.{rules, ◌≡◌, ap, ◌∙◌}
use Rattle.std.specs.Cmp.Lexicographic.{slice_cmp}
use Rattle.std.specs.Ordering.{nat_cmp}
use Rattle.jwalk_order.proofs.AddressOrder.{slice_cmp-append_left}
use Rattle.jwalk_order.proofs.index_path.IndexPathOrd.cmp.Goals as goal

pub returns-clause-parent_first : goal.returns-clause-parent_first
returns-clause-parent_first g c = λ above.
    let order : c.cmp.result ≡ slice_cmp nat_cmp c.args.other.now.indices.items c.args.self.now.indices.items = search rules in
    order ∙ ap (λ b. slice_cmp nat_cmp b c.args.self.now.indices.items) above.2
    ∙ slice_cmp-append_left c.args.self.now.indices.items above.0 above.1
