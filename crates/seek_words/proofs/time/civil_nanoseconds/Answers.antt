use Rattle.std.proofs.Common.{◌∙◌, FitsSigned, ap, arith}
use Rattle.std.specs.Int.{w128}
use Rattle.std.proofs.lemmas.Int.{to_z-of_z}
use Rattle.jiff.specs.Words.{civil_nanos}
use Rattle.jiff.proofs.SpanFacts.{signed_arith}
use Rattle.seek_words.proofs.TimeFacts.{civil_parts}
use Rattle.seek_words.proofs.time.civil_nanoseconds.Goals as goal

pub returns : goal.returns
returns c =
    let bound = c.to_nanosecond.ensures.bound in
    let fits : FitsSigned w128 c.to_nanosecond.result = omega (arith, signed_arith, bound) in
    rw (to_z-of_z w128 c.to_nanosecond.result fits) (c.to_nanosecond.ensures.value ∙ ap civil_nanos c.to_plain.ensures ∙ civil_parts c.args.civil)
