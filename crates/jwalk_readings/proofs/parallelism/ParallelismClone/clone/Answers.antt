use Rattle.std.proofs.Common.{refl}
use Rattle.jwalk_readings.proofs.parallelism.ParallelismClone.clone.Goals as goal

pub returns-in_ok-clone-in-RayonExistingPool : goal.returns-in_ok-clone-in-RayonExistingPool
returns-in_ok-clone-in-RayonExistingPool g c =
    let shared = c.in_ok-clone-in-RayonExistingPool in
    record { cases = rw c.in-RayonExistingPool.is (shared.field-0, refl, shared.ensures.cases) }
