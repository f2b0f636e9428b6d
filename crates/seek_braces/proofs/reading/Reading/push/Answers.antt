use Rattle.std.proofs.Common.{◌≡◌, ◌∙◌, List, ℕ, ap, length, reverse, subst, sym}
use Rattle.std.proofs.lemmas.List.{with_items_is}
use Rattle.std.proofs.lemmas.Result.{IfOk-weaker}
use Rattle.std.specs.Vec.{with_items}
use Rattle.seek_braces.specs.Expanded.{with_byte}
use Rattle.seek_braces.specs.Reading.{HoldsBy, bytes_of, pushed}
use Rattle.seek_braces.proofs.ReadingFacts.{held_byte}
use Rattle.seek_braces.proofs.reading.Reading.push.Goals as goal

pub returns : goal.returns
returns c =
    let reading = c.args.self.now in
    let kept = bytes_of reading.texts.items in
    let long = ap length c.as_mut_slice.ensures.value in
    IfOk-weaker c.push_each.result _ _
    (λ u is read held.
    let all : bytes_of (with_items reading.texts c.push_each.new.texts).items ≡ pushed reading.start c.args.byte kept
    = ap bytes_of (with_items_is reading.texts c.push_each.new.texts (c.push_each.auto.texts ∙ long ∙ sym reading.texts.ok.0)) ∙ is
    ∙ ap (λ l. pushed reading.start c.args.byte (bytes_of l)) c.as_mut_slice.ensures.value in
    subst (λ (k : List (List ℕ)). HoldsBy (with_byte c.args.byte read) k reading.start (reverse reading.groups.items)) (sym all)
    (held_byte read kept reading.start c.args.byte (reverse reading.groups.items) held))
    c.push_each.ensures
