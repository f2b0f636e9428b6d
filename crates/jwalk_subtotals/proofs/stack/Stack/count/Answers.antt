use Rattle.std.proofs.Common.{◌≡◌, ◌∷◌, map, reverse, refl, sym, ap, ◌∙◌, subst}
use Rattle.jwalk_subtotals.specs.Subtotal.{plus}
use Rattle.jwalk_subtotals.specs.Stack.{frame, added, AreTooMany}
use Rattle.jwalk_subtotals.proofs.LastFacts.{index_last, reverse_set, reverse_last, on_ok, if_err}
use Rattle.jwalk_subtotals.proofs.stack.Stack.count.Goals as goal

pub returns-in-Some-clause-counted : goal.returns-in-Some-clause-counted
returns-in-Some-clause-counted g c =
    let v = c.args.self.now.«open» in
    let last = c.in-Some.last.now in
    let ends = index_last v.items v.len last v.ok.0 (c.in-Some.ensures.variant.0 refl) c.in-Some.ensures.value in
    let more = c.args.more.now in
    on_ok _ _ c.add.result
    (λ (sums : c.add.new.self ≡ plus last.subtotal more).
    reverse_set frame v.items v.len last (record { entry = last.entry; subtotal = c.add.new.self }) v.ok.0 ends
    ∙ ap (λ t. record (frame last) { counted = t } ∷ map frame (reverse ends.front)) sums
    ∙ ap (added more) (sym (reverse_last frame v.items last ends)))
    c.add.ensures.sums

pub returns-in-Some-clause-too_many : goal.returns-in-Some-clause-too_many
returns-in-Some-clause-too_many g c =
    let v = c.args.self.now.«open» in
    let last = c.in-Some.last.now in
    let ends = index_last v.items v.len last v.ok.0 (c.in-Some.ensures.variant.0 refl) c.in-Some.ensures.value in
    let more = c.args.more.now in
    if_err _ _ c.add.result (λ fault h. (h.0, subst (AreTooMany more) (sym (reverse_last frame v.items last ends)) h.1)) c.add.ensures.too_many
