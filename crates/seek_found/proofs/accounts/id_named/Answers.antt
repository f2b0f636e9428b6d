use Rattle.std.proofs.Common.{◌∙◌, sym}
use Rattle.seek_found.proofs.AccountFacts.{id_behind, id_found}
use Rattle.seek_found.proofs.accounts.id_named.Goals as goal

pub returns-in-Some : goal.returns-in-Some
returns-in-Some c =
    id_found c.args.name.now c.loop-rest.rest.now c.split.result.0.now c.split.result.1.now c.split.ensures.front c.split.ensures.behind c.in-Some.id
    (sym c.id_in_line.ensures ∙ c.in-Some.is)
    ∙ c.loop-rest.invariant

pub loop-rest-preserved : goal.loop-rest-preserved
loop-rest-preserved c =
    id_behind c.args.name.now c.loop-rest.rest.now c.split.result.0.now c.split.result.1.now c.split.ensures.front c.split.ensures.behind
    (sym c.id_in_line.ensures ∙ c.in_default.is)
    ∙ c.loop-rest.invariant
