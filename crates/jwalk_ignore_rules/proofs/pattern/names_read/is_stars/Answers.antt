use Rattle.std.proofs.Common.{rules, tests, sym, ◌∙◌}
use Rattle.std.proofs.lemmas.Iterator.{YieldsList-from_slice}
use Rattle.std.proofs.lemmas.Iterator.Search.{all_from_yields_List}
use Rattle.jwalk_ignore_rules.specs.Pattern.ByteTest.{test_value}
use Rattle.jwalk_ignore_rules.specs.Pattern.Fits.{part_map}
use Rattle.jwalk_ignore_rules.specs.Pattern.NamesRead.{is_many}
use Rattle.jwalk_ignore_rules.proofs.PartsFacts.{list_all-map}
use Rattle.jwalk_ignore_rules.proofs.pattern.names_read.is_stars.Goals as goal

pub returns : goal.returns
returns g c =
    all_from_yields_List (λ part. is_many (part_map test_value part)) _ _ _ c.all.ensures.ran
    (YieldsList-from_slice c.args.name.now c.iter.ensures.rest) (λ x b q k. search (rules, tests))
    ∙ sym (list_all-map (part_map test_value) is_many c.args.name.now)
