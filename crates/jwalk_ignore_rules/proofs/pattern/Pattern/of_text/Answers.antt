use Rattle.std.proofs.Common.{subst}
use Rattle.std.specs.Option.{ForSome}
use Rattle.jwalk_ignore_rules.specs.Pattern.NamePattern.{globs_value, LastByteIs}
use Rattle.jwalk_ignore_rules.proofs.pattern.Pattern.of_text.Goals as goal

pub invariant_of-result : goal.invariant_of-result
invariant_of-result g c = record {
  ended = subst (λ parts. ForSome c.last_byte_of.result (λ byte. LastByteIs (globs_value parts) byte)) c.deref.ensures.value c.last_byte_of.ensures;
}
