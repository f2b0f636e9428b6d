use Rattle.std.proofs.Common.{◌∙◌, sym, ap, subst}
use Rattle.jwalk_order.specs.Frontier.{passed}
use Rattle.jwalk_readings.specs.CrewReads.{job_of, to_read, IsSteadyOver}
use Rattle.jwalk_readings.proofs.SkipFacts.{passed_steady}
use Rattle.jwalk_readings.proofs.CrewSteadyFacts.{none_waits}
use Rattle.jwalk_readings.proofs.crew_reads.CrewReads.pass_address.Goals as goal
