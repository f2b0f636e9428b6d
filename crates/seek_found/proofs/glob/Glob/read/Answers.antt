use Rattle.std.proofs.Common.{◌≡◌, ◌∙◌, ◌<◌, ◌+◌, Bool, Global, List, None, Option, Some, [], ap, arith, drop, length, map, string_bytes, sym}
use Rattle.std.specs.Prelude.{if◌then◌else◌}
use Rattle.std.proofs.Math.ListN.{get_or}
use Rattle.std.proofs.lemmas.List.{get_or-map, length-map}
use Rattle.jwalk_ignore_rules.specs.Pattern.{Pattern}
use Rattle.seek_found.specs.Glob.{added, patterns_in, patterns_of, values_of}
use Rattle.seek_found.proofs.GlobFacts.{next_text}
use Rattle.seek_found.proofs.glob.Glob.read.Goals as goal

pub returns-then-not-branch : goal.returns-then-not-branch
returns-then-not-branch c =
    let bytes = string_bytes {Z = Global} in
    let texts = map bytes c.args.texts.now in
    let at = c.loop-text.text-index in
    let before : Option (List Pattern) = Some (values_of c.loop-text.patterns.items) in
    let after = λ (good : Bool). if good then Some (values_of c.push_pattern.new.patterns.items) else None in
    let rest = patterns_in c.args.ignores_case (drop (at + 1) texts) in
    let below : at < length texts = omega (arith, c.loop-text-test.true, length-map c.args.texts.now bytes) in
    let text : c.as_bytes.result.now ≡ get_or texts at []
    = c.as_bytes.ensures.value ∙ ap bytes c.text-item.is ∙ sym (get_or-map bytes c.args.texts.now at c.text-item.result [] c.loop-text-test.true) in
    let step = next_text c.args.ignores_case texts at [] before (after c.in_ok-push_pattern.field-0) below
    (c.in_ok-push_pattern.ensures ∙ ap (λ t. added before (patterns_of c.args.ignores_case t)) text) in
    sym (sym c.loop-text.invariant ∙ step ∙ ap (λ good. added (after good) rest) c.if-not-branch.true)

pub loop-text-preserved : goal.loop-text-preserved
loop-text-preserved c =
    let bytes = string_bytes {Z = Global} in
    let texts = map bytes c.args.texts.now in
    let at = c.loop-text.text-index in
    let before : Option (List Pattern) = Some (values_of c.loop-text.patterns.items) in
    let after = λ (good : Bool). if good then Some (values_of c.push_pattern.new.patterns.items) else None in
    let rest = patterns_in c.args.ignores_case (drop (at + 1) texts) in
    let below : at < length texts = omega (arith, c.loop-text-test.true, length-map c.args.texts.now bytes) in
    let text : c.as_bytes.result.now ≡ get_or texts at []
    = c.as_bytes.ensures.value ∙ ap bytes c.text-item.is ∙ sym (get_or-map bytes c.args.texts.now at c.text-item.result [] c.loop-text-test.true) in
    let step = next_text c.args.ignores_case texts at [] before (after c.in_ok-push_pattern.field-0) below
    (c.in_ok-push_pattern.ensures ∙ ap (λ t. added before (patterns_of c.args.ignores_case t)) text) in
    sym (ap (λ good. added (after good) rest) c.if-not-branch.false) ∙ sym step ∙ c.loop-text.invariant
