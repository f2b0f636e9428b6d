use Rattle.std.proofs.Common.{◌∙◌, map, sym}
use Rattle.std.specs.Prelude.{is_ok}
use Rattle.std.proofs.lemmas.List.{length-map}
use Rattle.jwalk_ignore_rules.specs.Pattern.{pattern_value}
use Rattle.jwalk_ignore_rules.proofs.IndexFacts.{added_indexed, after_add, after_push, more_indexed}
use Rattle.jwalk_ignore_rules.proofs.rules.patterns.Patterns.push.Goals as goal

pub invariant_of-self : goal.invariant_of-self
invariant_of-self g c =
    let items = c.args.self.now.items in
    record {
      indexed = after_add c.args.self.now.last_names c.add.new.self (map pattern_value items.items) c.in_ok-last_name.last_name c.len.result
          (c.len.ensures ∙ items.ok.0 ∙ sym (length-map items.items pattern_value)) c.add.result c.add.ensures.added c.add.ensures.failed c.args.self.now.indexed;
    }

pub invariant_of-self-2 : goal.invariant_of-self-2
invariant_of-self-2 g c =
    let items = c.args.self.now.items in
    let at = c.len.ensures ∙ items.ok.0 ∙ sym (length-map items.items pattern_value) in
    record {
      indexed = after_push c.add.new.self pattern_value items.items c.args.pattern (is_ok c.push.result) c.push.new.self.items c.push.ensures.items
          (added_indexed c.args.self.now.last_names c.add.new.self (map pattern_value items.items) c.in_ok-last_name.last_name c.len.result at c.in_ok-add.ensures.added c.args.self.now.indexed)
          (more_indexed c.args.self.now.last_names c.add.new.self (map pattern_value items.items) c.in_ok-last_name.last_name c.len.result at c.in_ok-add.ensures.added
          (pattern_value c.args.pattern) c.in_ok-last_name.ensures c.args.self.now.indexed);
    }
