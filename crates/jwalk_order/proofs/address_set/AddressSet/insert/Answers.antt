use Rattle.std.proofs.Common.{◌≡◌, ◌∷◌, ◌++◌, [], cond}
use Rattle.std.proofs.lemmas.List.Sorted.{IsPermutation-map}
use Rattle.jwalk_order.specs.IndexPath.{address, reversed_cmp}
use Rattle.jwalk_order.proofs.Keys.{list_any-absent, insert_key-permutation, apart-absent, apart-added}
use Rattle.jwalk_order.proofs.address_set.AddressSet.insert.Goals as goal

pub returns-then-self-clause-added : goal.returns-then-self-clause-added
returns-then-self-clause-added g c =
    let path = c.in_ok-try_clone.field-0 in
    let same : address path ≡ address c.args.path.now = c.in_ok-try_clone.ensures in
    let apart = cond c.self.inside.has_apart (c.self.inside.apart ∷ []) [] in
    let ks = c.self.inside.others.keys in
    let absent = list_any-absent address (address path) ks (apart-absent address (address path) apart ks (rw (same, c.self.view_is) c.requires)) in
    rw (← same, ← c.self.view_is, c.in_ok-insert.ensures.keys)
    (IsPermutation-map address (path ∷ (apart ++ ks)) _ (apart-added apart path ks _ (insert_key-permutation reversed_cmp path ks absent)))
