use Rattle.std.proofs.Common.{[], ◌∷◌, Err}
use Rattle.std.specs.IoError.{error_kind}
use Rattle.jwalk_real_fs.proofs.FaultFacts.{same_error}
use Rattle.jwalk_real_fs.proofs.ListingFacts.{takes_if}
use Rattle.jwalk_real_fs.proofs.listing.end.Goals as goal

pub returns-in-Io : goal.returns-in-Io
returns-in-Io g c =
    takes_if g.K.Sink.Took c.take_error.result (Err (error_kind c.args.error) ∷ []) c.args.sink.now c.take_error.new.self (rw (same_error c.in-Io.ensures) at c.take_error.ensures)

pub returns-in-Memory : goal.returns-in-Memory
returns-in-Memory g c = tt
