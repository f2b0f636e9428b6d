-- How a walk's directories are read, seen as a value.
use Rattle.std.specs.Prelude.{◌≡◌, ◌==◌, Bool, true, false, if◌then◌else◌, Option, Some, None}
use Rattle.std.specs.Arc.{arc_value}
use Rattle.std.specs.declared.sync.Arc.{Arc}
use Rattle.std.specs.declared.time.Duration.{Duration}
use Rattle.jwalk_model.specs.Options as value
use Rattle.jwalk_model.specs.Options.{serial, batches, crew}
use Rattle.jwalk_readings.specs.declared.parallelism.Parallelism.{Parallelism}
use Rattle.jwalk_readings.specs.declared.parallelism.Parallelism.TheVariants.{Serial, RayonExistingPool, RayonNewPool}

-- how directories are read, as a value: a width of 0 means 8, and one crew counts as another
abbrev pub parallelism_value : {W A : Type 0} → Parallelism W A → value.Parallelism
parallelism_value Serial = serial
parallelism_value (RayonExistingPool pool busy_timeout) = crew
parallelism_value (RayonNewPool n) = batches (if n == 0 then 8 else n)

-- whether a crew reads
abbrev pub is_by_crew : value.Parallelism → Bool
is_by_crew serial = false
is_by_crew (batches n) = false
is_by_crew crew = true

-- the crew that reads, if one does, and how long a walk waits for a place there
abbrev pub crew_of : {W A : Type 0} → Parallelism W A → Option (Arc W A × Option Duration)
crew_of Serial = None
crew_of (RayonExistingPool pool busy_timeout) = Some (pool, busy_timeout)
crew_of (RayonNewPool n) = None

-- a clone: the same way, by the same crew and with the same limit
abbrev pub IsCloneOf : {W A : Type 0} → Parallelism W A → Parallelism W A → Type 0
IsCloneOf Serial new = new ≡ Serial
IsCloneOf {W} {A} (RayonExistingPool pool busy_timeout) new = (shared : Arc W A) × (new ≡ RayonExistingPool shared busy_timeout) × (arc_value shared ≡ arc_value pool)
IsCloneOf (RayonNewPool n) new = new ≡ RayonNewPool n
