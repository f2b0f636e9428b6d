use Rattle.std.proofs.Common.{◌<◌, length, map, get_or, ap, sym, subst, arith}
use Rattle.jwalk_ignore_rules.specs.Pattern.{pattern_value}
use Rattle.jwalk_ignore_rules.proofs.LastMatchFacts.{found_last, found_none, front_before, last_of_all, left_before, none_from}
use Rattle.jwalk_ignore_rules.proofs.rules.patterns.Patterns.last_other.Goals as goal

pub others-init : goal.others-init
others-init g c =
    let e = c.as_slice-rest.ensures.value in
    record {
      front = (omega (arith, ap length e), (λ k within. ap (λ xs. get_or xs k 0) e));
      left = λ all place p within hit nowhere. all place p within hit (λ other. nowhere (other.0, subst (λ xs. other.0 < length xs) (sym e) other.1, other.2));
    }

pub returns-then-place-from : goal.returns-then-place-from
returns-then-place-from g c = λ all.
    none_from (map pattern_value c.args.self.now.items.items) c.args.path.now c.args.is_dir c.args.from c.args.self.now.last_names.others.items c.args.self.now.indexed.1
    c.others.rest.now c.in-Some.before.now c.in-Some.place.now c.in-Some.ensures.cases.0 c.others.invariant.front (c.others.invariant.left all) c.if-place-from.true

pub returns-then-is_some : goal.returns-then-is_some
returns-then-is_some g c = λ all.
    found_last _ _ _ _ c.match_at-found.result (sym c.if-is_some.ensures) c.match_at-found.ensures (λ found hit.
    last_of_all (map pattern_value c.args.self.now.items.items) c.args.path.now c.args.is_dir c.args.from c.args.self.now.last_names.others.items c.args.self.now.indexed.1
    c.others.rest.now c.in-Some.before.now c.in-Some.place.now c.in-Some.ensures.cases.0 c.others.invariant.front (c.others.invariant.left all) c.if-place-from.false (pattern_value found.now) hit)

pub others-preserved : goal.others-preserved
others-preserved g c = record {
  front = front_before (map pattern_value c.args.self.now.items.items) c.args.path.now c.args.is_dir c.args.from c.args.self.now.last_names.others.items c.args.self.now.indexed.1
      c.others.rest.now c.in-Some.before.now c.in-Some.place.now c.in-Some.ensures.cases.0 c.others.invariant.front;
  left = λ all. left_before (map pattern_value c.args.self.now.items.items) c.args.path.now c.args.is_dir c.args.from c.args.self.now.last_names.others.items c.args.self.now.indexed.1
      c.others.rest.now c.in-Some.before.now c.in-Some.place.now c.in-Some.ensures.cases.0 c.others.invariant.front (c.others.invariant.left all)
      (found_none _ _ c.match_at-found.result (sym c.if-is_some.ensures) c.match_at-found.ensures);
}

pub returns : goal.returns
returns g c = λ all place p within hit. c.others.invariant.left all place p within hit (λ at. omega (arith, at.1, c.in_default.ensures.cases))
