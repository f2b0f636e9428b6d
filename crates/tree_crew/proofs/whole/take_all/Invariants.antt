use Rattle.std.proofs.Common.{◌≡◌}
use Rattle.tree_crew.specs.Session.{origin_of, awaited_by}
use Rattle.tree_crew.proofs.AwaitFacts.{HasFound}
use Rattle.tree_crew.proofs.whole.take_all.Given as goal

-- what was found and what is awaited are the preorder
abbrev pub invariant-loop : goal.invariant-loop
invariant-loop g l =
    ((goal.iterator-loop g).can_next l.iterator' × (goal.iterator-loop g).is_finite l.iterator')
    × (origin_of l.session ≡ origin_of l.fn.session) × HasFound g.J.Plan (origin_of l.fn.session) l.found.items (awaited_by l.session)
