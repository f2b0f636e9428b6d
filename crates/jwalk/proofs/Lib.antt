pub mod BeginFacts
pub mod BeginsFacts
pub mod WholeFacts
pub mod CleanFacts
pub mod AlikeFacts
mod CrewStartFacts
-- what callers cite of a walk's answers
pub use Rattle.jwalk_iter.proofs.FillFacts as FillFacts
pub use Rattle.jwalk_iter.proofs.SameFacts as SameFacts
pub use Rattle.jwalk_iter.proofs.PlacedFacts as PlacedFacts
-- what callers cite of a callback's lists
pub use Rattle.jwalk_job.proofs.GivenFacts as GivenFacts
-- what callers cite of callbacks that change states alone
pub use Rattle.jwalk_model.proofs.StatesFacts as StatesFacts
-- what callers cite of walks that keep metadata
pub use Rattle.jwalk_model.proofs.KeptFacts as KeptFacts
-- what callers cite of readings by readers of their own
pub use Rattle.jwalk_readings.proofs.OriginFacts as OriginFacts
pub use Rattle.jwalk_readings.proofs.DueFacts as DueFacts
pub use Rattle.jwalk_readings.proofs.AlikeFacts as CopyFacts
mod EachFacts
