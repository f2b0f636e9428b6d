use Rattle.std.proofs.Common.{◌≡◌, refl, map, rules}
use Rattle.std.specs.Ordering.{nat_cmp}
use Rattle.std.proofs.lemmas.Iterator.{YieldsList-from_map}
use Rattle.std.proofs.lemmas.Iterator.Adapters.{YieldsList-from_bytes}
use Rattle.std.proofs.lemmas.Iterator.Consumers.{YieldsList-at}
use Rattle.std.proofs.lemmas.Iterator.Search.{cmp_from_yields_List}
use Rattle.jwalk_changes.specs.AtPath.{rank}
use Rattle.jwalk_changes.proofs.at_path.compare_texts.Goals as goal

pub returns : goal.returns
returns c = cmp_from_yields_List {v = λ x. x} {xs = map rank c.args.a.now} {ys = map rank c.args.b.now} (λ x y. y ≡ x) _ nat_cmp _ c.cmp.ensures.ran
    (YieldsList-from_map _ rank (YieldsList-at c.map.ensures.source (YieldsList-from_bytes c.args.a.now cc)) c.map.ensures.closure (λ x r q h. search rules))
    (λ it e. YieldsList-at e (YieldsList-from_map _ rank (YieldsList-at c.map-2.ensures.source (YieldsList-from_bytes c.args.b.now cc)) c.map-2.ensures.closure (λ x r q h. search rules))) (λ x y. refl)
