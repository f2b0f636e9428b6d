use Rattle.std.proofs.Common.{◌≡◌, ◌∙◌, ◌-◌, ◌∷◌, [], List, ap, length, refl, reverse, subst, sym}
use Rattle.std.proofs.lemmas.List.{reverse-append}
use Rattle.seek_braces.specs.Expanded.{with_close}
use Rattle.seek_braces.specs.Reading.{HoldsBy, bytes_of, last_len}
use Rattle.seek_braces.specs.declared.reading.OpenGroup.{OpenGroup}
use Rattle.seek_braces.proofs.ReadingFacts.{held_close, kept_count}
use Rattle.seek_braces.proofs.reading.Reading.close.Goals as goal

pub returns : goal.returns
returns c =
    λ read held.
    let reading = c.args.self.now in
    let kept = bytes_of reading.texts.items in
    let group : OpenGroup = record { start = reading.start; width = c.saturating_sub.result; len = c.last_len.result } in
    let same : reverse c.push.new.self.items ≡ group ∷ reverse reading.groups.items
    = ap reverse c.in_ok-push.ensures.items ∙ reverse-append reading.groups.items (group ∷ []) in
    let wide : c.saturating_sub.result ≡ length kept - reading.start
    = c.saturating_sub.ensures ∙ ap (λ n. n - reading.start) (c.len.ensures ∙ sym (kept_count reading.texts)) in
    let long : c.last_len.result ≡ last_len kept = c.last_len.ensures ∙ ap (λ l. last_len (bytes_of l)) c.as_slice.ensures.value in
    subst (λ (ks : List OpenGroup). HoldsBy (with_close read) kept reading.start ks) (sym same)
    (held_close read kept reading.start (reverse reading.groups.items) group held refl wide long)
