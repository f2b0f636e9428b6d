use Rattle.std.proofs.Common.{◌≡◌, ◌∙◌, ◌++◌, chars, string_bytes, IsUtf8, encode_utf8, append_assoc, sym, ap, subst}
use Rattle.std.specs.Str.Iter.{chars_rest}
use Rattle.std.proofs.lemmas.Str.{IsUtf8-past_char, chars_past_char}
use Rattle.program_parts.specs.Masked.{masked, shown_char, shown_chars}
use Rattle.program_parts.proofs.MaskedFacts.{all_shown}
use Rattle.program_parts.proofs.masked.masked.Goals as goal

pub loop-next-init : goal.loop-next-init
loop-next-init g c =
    let all : chars_rest c.into_iter-next-iterator.result ≡ c.args.text.now
    = ap chars_rest c.into_iter-next-iterator.ensures.into_iter_gives ∙ c.chars-next-items.ensures.rest in
    (subst IsUtf8 (sym all) c.utf8.text, ap (λ l. l ++ shown_chars (chars (chars_rest c.into_iter-next-iterator.result))) c.new-shown.ensures.bytes ∙ ap masked all)

pub loop-next-preserved : goal.loop-next-preserved
loop-next-preserved g c =
    let held = c.loop-next.invariant in
    let parts = c.in-Some.ensures.steps.0 in
    let step = chars_past_char _ _ c.in-Some.next held.0 parts in
    let old = string_bytes c.loop-next.shown in
    let left = shown_chars (chars (chars_rest c.next.new.self)) in
    let pushed : string_bytes c.push.new.self ≡ old ++ encode_utf8 (shown_char c.in-Some.next)
    = (rw c.in_ok-push.was at c.push.ensures.bytes) ∙ ap (λ ch. old ++ encode_utf8 ch) c.shown_char.ensures in (
      IsUtf8-past_char _ _ c.in-Some.next held.0 parts,
      ap (λ l. l ++ left) pushed ∙ append_assoc old (encode_utf8 (shown_char c.in-Some.next)) left
          ∙ ap (λ l. old ++ l) (sym (ap shown_chars step)) ∙ held.1,
    )

pub returns : goal.returns
returns g c = all_shown (string_bytes c.loop-next.shown) _ _ c.in-None.ensures.steps.0.0 c.loop-next.invariant.1
