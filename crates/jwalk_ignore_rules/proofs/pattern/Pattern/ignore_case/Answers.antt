use Rattle.std.proofs.Common.{List, length, map, ap, sym, ◌∙◌}
use Rattle.std.proofs.lemmas.List.{with_items_is}
use Rattle.jwalk_ignore_rules.specs.Pattern.{Pattern}
use Rattle.jwalk_ignore_rules.specs.Pattern.ByteTest.{ByteTest}
use Rattle.jwalk_ignore_rules.specs.declared.pattern.part.Part.{Part}
use Rattle.jwalk_ignore_rules.specs.Pattern.Fits.{part_map}
use Rattle.jwalk_ignore_rules.specs.Pattern.Glob.{glob_in_either_case, glob_value}
use Rattle.jwalk_ignore_rules.proofs.ChangedFacts.{changed_more, changed_all}
use Rattle.jwalk_ignore_rules.proofs.pattern.Pattern.ignore_case.Goals as goal

pub loop-part-preserved : goal.loop-part-preserved
loop-part-preserved g c =
    let long = ap length c.deref_mut-part-items.ensures.value in
    changed_more (part_map glob_value) (part_map glob_in_either_case) c.args.self.now.parts.items
    c.loop-part.part-items c.loop-part.part-index c.ignore_case_of.new.part c.part-item.result
    (c.loop-part.auto.part-items ∙ long) (rw long at c.loop-part-test.true) c.ignore_case_of.ensures c.loop-part.invariant

pub returns : goal.returns
returns g c =
    let long = ap length c.deref_mut-part-items.ensures.value in
    ap (λ (parts : List (Part (List (Part ByteTest)))). let all : Pattern = record { keeps = c.args.self.now.keeps; only_dirs = c.args.self.now.only_dirs; parts = parts } in all)
    (ap (map (part_map glob_value)) (with_items_is c.args.self.now.parts c.loop-part.part-items (c.loop-part.auto.part-items ∙ long ∙ sym c.args.self.now.parts.ok.0))
    ∙ changed_all (part_map glob_value) (part_map glob_in_either_case) c.args.self.now.parts.items
    c.loop-part.part-items c.loop-part.part-index (rw long at c.loop-part-test.false) c.loop-part.invariant)
