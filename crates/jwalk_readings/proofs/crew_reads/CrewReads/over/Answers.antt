use Rattle.std.proofs.Common.{◌∙◌, map, reverse, length, refl, sym, ap}
use Rattle.std.proofs.lemmas.List.{reverse-reverse, length-map}
use Rattle.jwalk_order.specs.Frontier.{roots}
use Rattle.jwalk_job.specs.ReadDirSpec.{spec}
use Rattle.jwalk_readings.proofs.ResultFacts.{none_ok}
use Rattle.jwalk_readings.proofs.crew_reads.CrewReads.over.Goals as goal

pub returns-in_err-matcher : goal.returns-in_err-matcher
returns-in_err-matcher g c = record { job = none_ok _ c.from_residual.result c.from_residual.ensures.0; to_read = none_ok _ c.from_residual.result c.from_residual.ensures.0; begins = none_ok _ c.from_residual.result c.from_residual.ensures.0; most = none_ok _ c.from_residual.result c.from_residual.ensures.0 }

pub returns-clause-to_read : goal.returns-clause-to_read
returns-clause-to_read g c = ap (map spec) (ap reverse c.reverse.ensures.items ∙ reverse-reverse c.args.roots.items)

pub returns-clause-begins : goal.returns-clause-begins
returns-clause-begins g c =
    let same = ap (map spec) (ap reverse c.reverse.ensures.items ∙ reverse-reverse c.args.roots.items) in
    record {
      addresses = c.in_ok-matcher.ensures ∙ ap roots (c.len.ensures ∙ c.args.roots.ok.0 ∙ sym (length-map c.args.roots.items spec) ∙ ap length (sym same));
      readers = refl;
    }
