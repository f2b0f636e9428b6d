use Rattle.std.proofs.Common.{◌≡◌, rules, string_bytes, subst}
use Rattle.since_parts.specs.Tree.{own_texts, IsOwnOf}
use Rattle.since_parts.proofs.tree.Tree.new.Goals as goal

pub returns-clause-own : goal.returns-clause-own
returns-clause-own g c = λ fixed.
    let same : c.as_str.result.now ≡ string_bytes c.in_ok-absolute.absolute = search rules in
    record {
      absolute = c.in_ok-absolute.ensures fixed;
      own = subst (λ absolute. IsOwnOf (g.X.Texts.functions c.args.texts.now) c.args.file.now absolute (own_texts c.in_ok-own.own)) same (c.in_ok-own.ensures fixed);
    }
