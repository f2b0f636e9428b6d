use Rattle.std.proofs.Common.{◌≡◌, ◌∙◌, ℕ, List, rules, string_bytes, subst, sym}
use Rattle.regex.specs.Patterns.{ReadsAsText}
use Rattle.seek_found.proofs.name_pattern.NamePattern.expression_of.Goals as goal

pub returns-in-Ok-clause-expression : goal.returns-in-Ok-clause-expression
returns-in-Ok-clause-expression c =
    let text : c.as_str.result.now ≡ string_bytes c.in_ok-source.source = search rules in
    let same = text ∙ c.in_ok-source.ensures.source in
    record {
      source = c.in-Ok.ensures.source ∙ same;
      options = c.in-Ok.ensures.options;
      literal = λ fixed. subst (λ (s : List ℕ). ReadsAsText s c.args.pattern.now) (sym (c.in-Ok.ensures.source ∙ text)) (c.in_ok-source.ensures.literal fixed);
      read = c.in-Ok.ensures.read;
    }
