use Rattle.std.proofs.Common.{◌≡◌, Some, None, length, ap, sym, ◌∙◌, arith}
use Rattle.std.specs.Option.{option_map}
use Rattle.jwalk_ignore_rules.specs.Pattern.Glob.{parts_value}
use Rattle.jwalk_ignore_rules.specs.Pattern.NamePattern.{globs_value}
use Rattle.jwalk_ignore_rules.specs.Pattern.NamesRead.{NamesRead, parts_in, read_value}
use Rattle.jwalk_ignore_rules.specs.Pattern.Token.{token_in, token_read, token_value}
use Rattle.jwalk_ignore_rules.proofs.PartsFacts.{no_token, at_end, next_token}
use Rattle.jwalk_ignore_rules.proofs.pattern.names_read.NamesRead.read.Goals as goal

pub tokens-init : goal.tokens-init
tokens-init g c = (
  length c.args.text.now,
  omega arith,
  ap (λ xs. parts_in (length c.args.text.now) (record { parts = globs_value c.args.parts.items; name = parts_value xs }) c.args.text.now) (sym c.new.ensures.items),
)

pub returns-in_default : goal.returns-in_default
returns-in_default g c =
    let none : token_in c.tokens.rest.now ≡ None = sym c.in_ok-token.ensures.read ∙ ap (option_map token_read) c.in_default.is in
    sym (c.tokens.invariant.2 ∙ no_token c.tokens.invariant.0 (read_value c.tokens.read) c.tokens.rest.now (sym c.tokens-test.ensures) none)

pub tokens-preserved : goal.tokens-preserved
tokens-preserved g c =
    let n = c.tokens.invariant.0 in
    let is : token_in c.tokens.rest.now ≡ Some (token_value c.in-Some.token, c.in-Some.behind.now) =
    sym c.in_ok-token.ensures.read ∙ ap (option_map token_read) c.in-Some.is in
    let shorter = rw c.in-Some.is at c.in_ok-token.ensures.shorter in
    let next = next_token n (read_value c.tokens.read) c.tokens.rest.now (token_value c.in-Some.token) c.in-Some.behind.now is c.tokens.invariant.1 shorter in
    (next.0, next.1, c.tokens.invariant.2 ∙ next.2 ∙ ap (λ (r : NamesRead). parts_in next.0 r c.in-Some.behind.now) (sym c.in_ok-add.ensures))

pub returns : goal.returns
returns g c =
    sym (c.tokens.invariant.2 ∙ at_end c.tokens.invariant.0 (read_value c.tokens.read) c.tokens.rest.now (sym c.tokens-test.ensures)
    ∙ ap Some (sym c.in_ok-finish.ensures))
