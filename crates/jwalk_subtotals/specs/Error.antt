-- Why subtotals end, and what comes between them.
use Rattle.std.specs.Prelude.{Bool, true, false}
use Rattle.jwalk.specs.jwalk_model.Error as value
use Rattle.jwalk.specs.jwalk_model.Error.{Failure}
use Rattle.jwalk.specs.jwalk_job.Error.{failure}
use Rattle.jwalk_usage.specs.declared.report.UsageFault.{UsageFault}
use Rattle.jwalk_usage.specs.declared.report.UsageFault.TheVariants as fault
use Rattle.jwalk_subtotals.specs.declared.error.SubtotalError.{SubtotalError}
use Rattle.jwalk_subtotals.specs.declared.error.SubtotalError.TheVariants.{Walk, TooMany, Memory}

-- whether an error of a walk is one with which the walk ends: memory ran out, or it reports on a crew
abbrev pub ends_walk : Failure → Bool
ends_walk (value.io depth path kind) = false
ends_walk (value.unnamed depth directory kind) = false
ends_walk (value.looped depth ancestor child) = false
ends_walk value.busy = true
ends_walk value.memory = true
ends_walk value.lost = true

-- whether nothing is yielded behind an error
abbrev pub is_last : {A : Type 0} → SubtotalError A → Bool
is_last (Walk e) = ends_walk (failure e)
is_last TooMany = true
is_last Memory = true

-- why a sum fails, as an error
abbrev pub of_fault : {A : Type 0} → UsageFault → SubtotalError A
of_fault fault.TooMany = TooMany
of_fault fault.Memory = Memory
