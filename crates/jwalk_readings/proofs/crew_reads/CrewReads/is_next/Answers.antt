use Rattle.std.proofs.Common.{◌≡◌, ◌∙◌, true, Ok, map, reverse, sym, ap, subst}
use Rattle.jwalk_job.specs.Entry.{entry}
use Rattle.jwalk_job.specs.ReadDirSpec.{spec}
use Rattle.jwalk_readings.specs.CrewReads.{IsNextBelow}
use Rattle.jwalk_readings.proofs.StackFacts.{last_first, no_last}
use Rattle.jwalk_readings.proofs.crew_reads.CrewReads.is_next.Goals as goal

pub returns-in-Some : goal.returns-in-Some
returns-in-Some g c =
    let first = ap (λ l. map spec (reverse l)) (sym c.deref.ensures.value) ∙ last_first spec c.deref.result.now c.in-Some.of.now c.in-Some.ensures.value in
    record {
      some = λ no none. let nothing = sym first ∙ none in cc;
      below = λ yes. subst (IsNextBelow true (Ok (entry c.args.found.now))) (sym first) (c.is_below.ensures.0 yes);
      other = λ no below. let yes : c.is_below.result ≡ true = c.is_below.ensures.1 (subst (IsNextBelow true (Ok (entry c.args.found.now))) first below) in cc;
    }

pub returns-in-None : goal.returns-in-None
returns-in-None g c =
    let nothing = ap (λ l. map spec (reverse l)) (sym c.deref.ensures.value ∙ no_last c.deref.result.now c.in-None.ensures.value) in
    record {
      some = λ no. absurd cc;
      below = λ yes. subst (IsNextBelow true (Ok (entry c.args.found.now))) (sym nothing) tt;
      other = λ no. absurd cc;
    }
