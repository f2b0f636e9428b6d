-- A crew as a value.
use Rattle.std.specs.Prelude.{ℕ}
use Rattle.tree_crew.specs.declared.crew.Crew.{Crew}

-- how many threads a walk is given at most
abbrev pub workers_of : {R : Type 0} → Crew R → ℕ
workers_of crew = crew.workers

-- how many readings of a walk may be ready or in hand
abbrev pub limit_of : {R : Type 0} → Crew R → ℕ
limit_of crew = crew.read_ahead
