pub mod WalkDir
pub mod CrewStart
pub mod Each
-- what callers cite of a walk's answers and of its readings
pub use Rattle.jwalk_iter.specs.DirEntryIter as DirEntryIter
pub use Rattle.jwalk_iter.specs.Step as Step
pub use Rattle.jwalk_readings.specs.ReadDirIter as ReadDirIter
pub use Rattle.jwalk_readings.specs.CrewReads as CrewReads
pub use Rattle.jwalk_readings.specs.Parallelism as Parallelism
-- what callers cite of the crates below, each under its crate's name
pub use Rattle.jwalk_model.specs as jwalk_model
pub use Rattle.jwalk_fs.specs as jwalk_fs
pub use Rattle.jwalk_real_fs.specs as jwalk_real_fs
pub use Rattle.jwalk_memory_fs.specs as jwalk_memory_fs
pub use Rattle.jwalk_job.specs as jwalk_job
pub use Rattle.jwalk_readings.specs as jwalk_readings
pub use Rattle.jwalk_iter.specs as jwalk_iter
pub use Rattle.jwalk_callbacks.specs as jwalk_callbacks
pub use Rattle.jwalk_sort_by.specs as jwalk_sort_by
pub use Rattle.jwalk_order.specs as jwalk_order
pub use Rattle.jwalk_board.specs as jwalk_board
pub use Rattle.tree_walk.specs as tree_walk
pub use Rattle.tree_crew.specs as tree_crew
