use Rattle.std.proofs.Common.{rules, arith, ap, ◌∙◌, ◌<◌, ◌+◌, ◌^◌, [], length, map, subst, sym}
use Rattle.std.specs.Prelude.{fold}
use Rattle.std.specs.Path.{path_components}
use Rattle.jwalk_model.specs.Paths.{after_one}
use Rattle.jwalk_model.specs.PathTexts.{component_read}
use Rattle.jwalk_model.proofs.PathFacts.{path_components-read}
use Rattle.jwalk_fs.proofs.PlaceFacts.{few_components}
use Rattle.jwalk_fs.proofs.place.Rest.new.Goals as goal

pub returns-clause-countable : goal.returns-clause-countable
returns-clause-countable c =
    let short : length c.args.path.now < 2 ^ 63 = search rules in
    subst (λ cs. 0 + length cs < 2 ^ 64) (sym (c.components.ensures ∙ ap path_components c.new.ensures)) (omega (arith, short, few_components c.args.path.now))

pub returns-clause-value : goal.returns-clause-value
returns-clause-value c = ap (fold after_one []) (ap (map component_read) (c.components.ensures ∙ ap path_components c.new.ensures) ∙ path_components-read c.args.path.now)
