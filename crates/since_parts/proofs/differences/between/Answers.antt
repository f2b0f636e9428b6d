use Rattle.std.proofs.Common.{List, ℕ, Bor, subst}
use Rattle.jwalk_changes.specs.Differences.{IsDifferences}
use Rattle.since_parts.specs.Differences.{facts_found, facts_held, names_found, names_held, place_of}
use Rattle.since_parts.proofs.differences.between.Goals as goal

pub returns-in-Ok : goal.returns-in-Ok
returns-in-Ok c = λ none.
    subst (λ (l : List (Bor (List ℕ))). IsDifferences names_held facts_held names_found facts_found place_of c.args.old.items c.args.new.items l c.in-Ok.changes.items) none c.in-Ok.ensures.all
