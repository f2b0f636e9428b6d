use Rattle.std.proofs.Common.{◌∙◌, ap}
use Rattle.std.specs.Prelude.{is_some}
use Rattle.clap.specs.Words.{found_of}
use Rattle.clap.proofs.WalkLemmas.{first_value-rows}
use Rattle.program_parts.proofs.ValueFacts.{some_mapped}
use Rattle.program_parts.proofs.values.has_value.Goals as goal

pub returns : goal.returns
returns c = c.is_some.ensures ∙ some_mapped _ c.get_str.result ∙ ap is_some (c.get_str.ensures ∙ first_value-rows (found_of c.args.found.now) c.args.id.now)
