use Rattle.std.proofs.Common.{◌≡◌, ◌∙◌, ◌<◌, ◌≤◌, ◌-◌, ◌∷◌, Global, [], List, ℕ, ap, ap₂, arith, length, map, sym, take}
use Rattle.std.specs.declared.vec.Vec.{Vec}
use Rattle.std.proofs.Math.ListN.{get_or}
use Rattle.std.proofs.lemmas.List.{get_or-map, length-append, length-map, map-append}
use Rattle.seek_braces.specs.Reading.{bytes_of}
use Rattle.seek_braces.proofs.ListFacts.{all_copied, copied_to, none_copied, one_copied}
use Rattle.seek_braces.proofs.ReadingFacts.{kept_count}
use Rattle.seek_braces.proofs.reading.push_copies.Goals as goal

pub loop-at-init : goal.loop-at-init
loop-at-init c =
    let kept = bytes_of c.args.texts.now.items in
    let count : length kept ≡ c.len-len.result = kept_count c.args.texts.now ∙ sym c.len-len.ensures in
    none_copied c.args.width c.args.cut kept ∙ ap (copied_to c.args.width c.args.cut kept) (ap (λ n. n - c.args.width) count ∙ sym c.saturating_sub-at.ensures)

pub loop-at-preserved : goal.loop-at-preserved
loop-at-preserved c =
    let bytes = λ (t : Vec ℕ Global). t.items in
    let kept = bytes_of c.args.texts.now.items in
    let texts = c.loop-at.texts.items in
    let at = c.loop-at.at in
    let count : length kept ≡ c.len-len.result = kept_count c.args.texts.now ∙ sym c.len-len.ensures in
    let below : at < length kept = omega (arith, count, c.loop-at-test.true) in
    let above : length kept - c.args.width ≤ at = omega (arith, count, c.saturating_sub-at.ensures, c.loop-at.auto.at) in
    let within : at < length texts = omega (arith, below, ap length c.loop-at.invariant, length-map texts bytes, length-append {A = List ℕ}) in
    let measured : c.index.result.now.items ≡ get_or (bytes_of texts) at []
    = ap bytes c.index.ensures ∙ sym (get_or-map bytes texts at c.index.result.now [] within) in
    let read : c.index-in-loop-at.result.now.items ≡ get_or (bytes_of texts) at []
    = ap bytes c.index-in-loop-at.ensures ∙ sym (get_or-map bytes texts at c.index-in-loop-at.result.now [] within) in
    let long = c.saturating_sub-kept.ensures ∙ ap (λ n. n - c.args.cut) (c.len.ensures ∙ c.index.result.now.ok.0 ∙ ap length measured) in
    ap (map bytes) c.in_ok-push.ensures.items ∙ map-append bytes texts (c.in_ok-copy.copy ∷ [])
    ∙ one_copied c.args.width c.args.cut kept at (bytes_of texts) c.in_ok-copy.copy.items above below c.loop-at.invariant
    (c.in_ok-copy.ensures.items ∙ ap₂ take long (c.deref.ensures.value ∙ read))

pub returns : goal.returns
returns c =
    let kept = bytes_of c.args.texts.now.items in
    let count : length kept ≡ c.len-len.result = kept_count c.args.texts.now ∙ sym c.len-len.ensures in
    let end : c.loop-at.at ≡ length kept = omega (arith, count, c.loop-at-test.false, c.loop-at.auto.at-end, c.saturating_sub-at.ensures) in
    c.loop-at.invariant ∙ ap (copied_to c.args.width c.args.cut kept) end ∙ all_copied c.args.width c.args.cut kept
