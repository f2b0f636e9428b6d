use Rattle.std.proofs.Common.{arith}
use Rattle.seek_details.proofs.DateFacts.{month_found}
use Rattle.seek_details.proofs.date.month_at.Goals as goal

pub returns-clause-month : goal.returns-clause-month
returns-clause-month c = month_found c.args.day _ (omega arith) (omega arith) (omega arith)
