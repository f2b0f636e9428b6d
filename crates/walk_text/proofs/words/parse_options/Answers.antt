use Rattle.std.proofs.Common.{[], refl, arith, map, string_bytes, sym, subst, ◌∙◌}
use Rattle.std.proofs.lemmas.List.{length-map}
use Rattle.walk_text.specs.Asked.{nothing}
use Rattle.walk_text.proofs.Lists.{map-none, map-some}
use Rattle.walk_text.proofs.Texts.{on_none}
use Rattle.walk_text.proofs.WordFacts.{AsksAlike, alike_at_first, alike_behind, asks_no_option, asks_twice, asks_only, fewer_behind}
use Rattle.walk_text.proofs.words.parse_options.Goals as goal

pub returns-in_err-choice-clause-none : goal.returns-in_err-choice-clause-none
returns-in_err-choice-clause-none g c =
    let left = c.loop-left.left.now in
    let some = map-some string_bytes left (sym c.is_empty.ensures ∙ c.loop-left-test.true) in
    on_none _ (asks_no_option nothing (map string_bytes c.args.words.now) c.loop-left.asked (map string_bytes left) c.loop-left.invariant some c.in_err-choice.ensures.none)

pub returns-in_err-asked-clause-none : goal.returns-in_err-asked-clause-none
returns-in_err-asked-clause-none g c =
    let left = c.loop-left.left.now in
    let some = map-some string_bytes left (sym c.is_empty.ensures ∙ c.loop-left-test.true) in
    on_none _ (asks_twice nothing (map string_bytes c.args.words.now) c.loop-left.asked (map string_bytes left) (map string_bytes c.in_ok-choice.others.now) c.in_ok-choice.choice
    c.loop-left.invariant some c.in_ok-choice.ensures.some (sym c.also.ensures ∙ c.in_err-asked.was))

pub loop-left-preserved : goal.loop-left-preserved
loop-left-preserved g c =
    let left = c.loop-left.left.now in
    let some = map-some string_bytes left (sym c.is_empty.ensures ∙ c.loop-left-test.true) in
    alike_behind nothing (map string_bytes c.args.words.now) c.loop-left.asked c.in_ok-asked.asked (map string_bytes left) (map string_bytes c.in_ok-choice.others.now) c.in_ok-choice.choice
    c.loop-left.invariant some c.in_ok-choice.ensures.some (sym c.also.ensures ∙ c.in_ok-asked.was)

pub loop-left-smaller : goal.loop-left-smaller
loop-left-smaller g c =
    let left = c.loop-left.left.now in
    let others = c.in_ok-choice.others.now in
    let fewer = fewer_behind (map string_bytes left) c.in_ok-choice.choice (map string_bytes others) c.in_ok-choice.ensures.some in
    omega (arith, fewer, length-map left string_bytes, length-map others string_bytes)

pub returns-clause-only : goal.returns-clause-only
returns-clause-only g c =
    let words = map string_bytes c.args.words.now in
    let none = map-none string_bytes c.loop-left.left.now (sym c.is_empty.ensures ∙ c.loop-left-test.false) in
    asks_only nothing words c.loop-left.asked (subst (AsksAlike nothing words c.loop-left.asked) none c.loop-left.invariant)

pub loop-left-init : goal.loop-left-init
loop-left-init g c = alike_at_first nothing (map string_bytes c.args.words.now) c.nothing-asked.result c.nothing-asked.ensures

pub returns-clause-some : goal.returns-clause-some
returns-clause-some g c =
    let none = map-none string_bytes c.loop-left.left.now (sym c.is_empty.ensures ∙ c.loop-left-test.false) in
    c.loop-left.invariant.forth c.loop-left.asked ([], (none, refl))
