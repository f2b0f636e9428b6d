use Rattle.std.proofs.Common.{◌≡◌, ◌∙◌, ◌+◌, map, reverse, length, refl, sym, ap, subst}
use Rattle.std.proofs.lemmas.List.{reverse-reverse, length-map}
use Rattle.jwalk_order.specs.Frontier.{roots}
use Rattle.jwalk_job.specs.ReadDirSpec.{spec}
use Rattle.jwalk_job.specs.Job.{callback}
use Rattle.tree_crew.specs.Crew.{limit_of}
use Rattle.jwalk_readings.specs.Origin.{begun, CountAlike}
use Rattle.jwalk_readings.proofs.CrewSteadyFacts.{origin_same, alike_length}
use Rattle.jwalk_readings.proofs.ResultFacts.{none_on_ok, on_err}
use Rattle.jwalk_readings.proofs.crew_reads.started.CrewReads+C+S+P+A+Session+R+C+S+P+A.start.Goals as goal

pub returns-in_err-matcher : goal.returns-in_err-matcher
returns-in_err-matcher g c = record { job = refl; to_read = none_on_ok _ c.from_residual.result c.from_residual.ensures.0; begins = none_on_ok _ c.from_residual.result c.from_residual.ensures.0; most = none_on_ok _ c.from_residual.result c.from_residual.ensures.0; unchanged = on_err c.from_residual.result refl }

pub returns-in_err-job : goal.returns-in_err-job
returns-in_err-job g c = record { job = refl; to_read = none_on_ok _ c.from_residual-in_err-job.result c.from_residual-in_err-job.ensures.0; begins = none_on_ok _ c.from_residual-in_err-job.result c.from_residual-in_err-job.ensures.0; most = none_on_ok _ c.from_residual-in_err-job.result c.from_residual-in_err-job.ensures.0; unchanged = on_err c.from_residual-in_err-job.result refl }

pub returns-in_err-place : goal.returns-in_err-place
returns-in_err-place g c = record { job = refl; to_read = none_on_ok _ c.from_residual-in_err-place.result c.from_residual-in_err-place.ensures.0; begins = none_on_ok _ c.from_residual-in_err-place.result c.from_residual-in_err-place.ensures.0; most = none_on_ok _ c.from_residual-in_err-place.result c.from_residual-in_err-place.ensures.0; unchanged = on_err c.from_residual-in_err-place.result refl }

pub returns-in_err-start : goal.returns-in_err-start
returns-in_err-start g c = record { job = refl; to_read = none_on_ok _ c.from_residual-in_err-start.result c.from_residual-in_err-start.ensures.0; begins = none_on_ok _ c.from_residual-in_err-start.result c.from_residual-in_err-start.ensures.0; most = none_on_ok _ c.from_residual-in_err-start.result c.from_residual-in_err-start.ensures.0; unchanged = on_err c.from_residual-in_err-start.result refl }

pub start-requires-clause-lawful : goal.start-requires-clause-lawful
start-requires-clause-lawful g c κs within = subst (λ j. g.P.ProcessReadDir.IsLawful (callback j)) (sym (ap (λ o. o.plan) c.new-origin.ensures ∙ c.in_ok-job.ensures.cases)) c.requires.lawful

pub start-requires-clause-alike : goal.start-requires-clause-alike
start-requires-clause-alike g c κs within = subst (CountAlike g.C.ReadDirState.Clone (map spec c.args.shared.items)) (sym (ap (λ o. map spec o.roots) c.new-origin.ensures)) c.requires.alike

pub returns-clause-job : goal.returns-clause-job
returns-clause-job g c = refl

pub returns-clause-to_read : goal.returns-clause-to_read
returns-clause-to_read g c = ap (map spec) (ap reverse c.reverse.ensures.items ∙ reverse-reverse c.into_roots-own.result.items ∙ c.into_roots-own.ensures ∙ ap (λ o. o.roots) c.new-origin.ensures)

pub returns-clause-begins : goal.returns-clause-begins
returns-clause-begins g c =
    let own = c.args.own.items in
    let same : map spec (reverse c.reverse.new.self.items) ≡ map spec own
    = ap (map spec) (ap reverse c.reverse.ensures.items ∙ reverse-reverse c.into_roots-own.result.items ∙ c.into_roots-own.ensures ∙ ap (λ o. o.roots) c.new-origin.ensures) in
    record {
      addresses = c.in_ok-matcher.ensures ∙ ap roots (c.len.ensures ∙ c.args.own.ok.0 ∙ sym (length-map own spec) ∙ ap length (sym same));
      readers = (c.in_ok-start.ensures.origin ∙ ap begun c.new-origin.ensures ∙ origin_same _ _ _ _ c.in_ok-job.ensures.cases (sym same), c.in_ok-start.ensures.awaits ∙ ap roots (sym (length-map c.args.shared.items spec) ∙ alike_length g.C.ReadDirState.Clone (map spec c.args.shared.items) (map spec own) c.requires.alike ∙ length-map own spec ∙ sym c.args.own.ok.0 ∙ sym c.len.ensures) ∙ sym c.in_ok-matcher.ensures);
    }

pub returns-clause-most : goal.returns-clause-most
returns-clause-most g c = ap (λ n. n + 1) (c.in_ok-start.ensures.read_ahead ∙ ap limit_of c.in_ok-place.ensures)

pub returns-clause-unchanged : goal.returns-clause-unchanged
returns-clause-unchanged g c = tt
