use Rattle.std.proofs.Common.{rules, tests, ◌≡◌, ◌∙◌, ◌<◌, length, map, true, false, ap, sym, refl, subst, arith}
use Rattle.std.proofs.lemmas.List.{get_or-map, length-map}
use Rattle.jwalk_ignore_rules.specs.Pattern.{Matches, pattern_value}
use Rattle.jwalk_ignore_rules.specs.Rules.LastNames.{MatchesAt}
use Rattle.jwalk_ignore_rules.proofs.LastMatchFacts.{match_here, matched_at}
use Rattle.jwalk_ignore_rules.proofs.rules.patterns.Patterns.match_at.Goals as goal

pub returns-then-matches : goal.returns-then-matches
returns-then-matches g c =
    let all = c.deref.result.now in
    let found = c.in_ok-pattern.pattern.now in
    let within : c.args.place < length all = search (rules, tests) in
    let long = length-map all pattern_value in
    subst (λ items. MatchesAt (map pattern_value items) c.args.path.now c.args.is_dir c.args.place (pattern_value found)) c.deref.ensures.value
    (match_here (map pattern_value all) c.args.path.now c.args.is_dir c.args.place (pattern_value found) (pattern_value found) (omega (arith, long, within))
    (get_or-map pattern_value all c.args.place found (pattern_value found) within ∙ ap pattern_value (sym c.in_ok-pattern.ensures.lookup.1)) (c.if-matches.ensures.0 refl))

pub returns-else-matches : goal.returns-else-matches
returns-else-matches g c = λ p hit.
    let all = c.deref.result.now in
    let found = c.in_ok-pattern.pattern.now in
    let within : c.args.place < length all = search (rules, tests) in
    let there = matched_at (map pattern_value all) c.args.path.now c.args.is_dir c.args.place p (pattern_value found)
    (subst (λ items. MatchesAt (map pattern_value items) c.args.path.now c.args.is_dir c.args.place p) (sym c.deref.ensures.value) hit) in
    let same : pattern_value found ≡ p = ap pattern_value c.in_ok-pattern.ensures.lookup.1 ∙ sym (get_or-map pattern_value all c.args.place found (pattern_value found) within) ∙ there.1 in
    let clash : false ≡ true = c.if-matches.ensures.1 (subst (λ q. Matches q c.args.path.now c.args.is_dir) (sym same) there.2) in
    cc
