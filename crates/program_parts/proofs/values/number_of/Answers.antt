use Rattle.std.proofs.Common.{subst}
use Rattle.std.specs.Str.Parse.{ParsesUnsigned, ExplainsUnsignedError, HasUnsignedDigitsIfOk}
use Rattle.clap.specs.Words.{found_of}
use Rattle.clap.proofs.WalkLemmas.{one_text-rows}
use Rattle.program_parts.specs.Values.{IsNumberOf}
use Rattle.program_parts.proofs.ValueFacts.{number_read}
use Rattle.program_parts.proofs.values.number_of.Goals as goal

pub returns : goal.returns
returns c =
    subst (λ o. IsNumberOf o c.get_one.result) (one_text-rows (found_of c.args.found.now) c.args.id.now)
    (number_read (λ text r. ParsesUnsigned 64 10 text r × ExplainsUnsignedError 10 text r × HasUnsignedDigitsIfOk text r) (λ text r gives. gives.0) _ _ c.get_one.ensures.none c.get_one.ensures.value)
