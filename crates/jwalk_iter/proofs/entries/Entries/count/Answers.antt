use Rattle.std.proofs.Common.{◌≡◌, ◌+◌, ◌-◌, ◌^◌, ◌∷◌, ◌++◌, [], ℕ, List, min, length, sym, arith}
use lib.ListN.{length-append}
use Rattle.jwalk_iter.proofs.entries.Entries.count.Goals as goal

-- one more is counted
counted_more : {X : Type 0} (xs : List X) (x : X) (count more : ℕ) → count ≡ min (length xs) (2 ^ 64 - 1) → more ≡ min (count + 1) (2 ^ 64 - 1) → more ≡ min (length (xs ++ x ∷ [])) (2 ^ 64 - 1)
counted_more xs x count more was is = omega (arith, was, is, length-append xs (x ∷ []))

pub returns : goal.returns
returns g c = (c.loop.yielded, (c.next.new.self, (c.loop.iterator', rw (sym c.into_iter-iterator.ensures.into_iter_gives) c.loop.yielded_by, c.in-None.ensures.steps)), c.loop.invariant)

pub loop-init : goal.loop-init
loop-init g c = omega arith

pub loop-preserved : goal.loop-preserved
loop-preserved g c = counted_more c.loop.yielded _ c.loop.count c.saturating_add-count.result c.loop.invariant c.saturating_add-count.ensures
