use Rattle.std.proofs.Common.{[], ◌∷◌}
use Rattle.jwalk_model.specs.Paths.{slash}
use Rattle.jwalk_changes.proofs.TextFacts.{names_behind, strips}
use Rattle.jwalk_changes.proofs.at_path.rest_below.Goals as goal

pub returns-in-Some : goal.returns-in-Some
returns-in-Some c =
    names_behind c.args.folder.now c.in-Some.names.now c.in_ok-rest.rest.now c.args.path.now c.if-not-is_empty.ensures c.if-not-is_empty-2.ensures
    (strips c.args.folder.now c.args.path.now c.in_ok-rest.rest.now c.in_ok-rest.ensures.cases)
    (strips (slash ∷ []) c.in_ok-rest.rest.now c.in-Some.names.now c.in-Some.ensures.cases)
