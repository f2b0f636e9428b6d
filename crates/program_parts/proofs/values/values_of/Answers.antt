use Rattle.std.proofs.Common.{◌∙◌, ap}
use Rattle.std.proofs.lemmas.Result.{IfOk-weaker}
use Rattle.clap.specs.Words.{found_of}
use Rattle.clap.proofs.WalkLemmas.{raw_values-rows}
use Rattle.program_parts.specs.Values.{texts_of}
use Rattle.program_parts.proofs.ValueFacts.{values_some, values_none}
use Rattle.program_parts.proofs.values.values_of.Goals as goal

pub returns-in-Some : goal.returns-in-Some
returns-in-Some c =
    IfOk-weaker c.copied.result _ _
    (λ copy same. values_some c.in-Some.values copy.items c.get_strs.result _ c.in-Some.is (c.get_strs.ensures ∙ raw_values-rows (found_of c.args.found.now) c.args.id.now) same)
    c.copied.ensures

pub returns-in-None : goal.returns-in-None
returns-in-None c = ap texts_of c.new.ensures.items ∙ values_none c.get_strs.result _ c.in-None.is (c.get_strs.ensures ∙ raw_values-rows (found_of c.args.found.now) c.args.id.now)
