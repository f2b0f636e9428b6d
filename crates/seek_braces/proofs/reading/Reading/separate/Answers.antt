use Rattle.std.proofs.Common.{◌≡◌, ◌∙◌, ◌∷◌, ◌≤◌, ◌-◌, List, Some, ℕ, ap, arith, length, reverse, subst, sym}
use Rattle.std.specs.List.{slice_get}
use Rattle.seek_braces.specs.Expanded.{with_item}
use Rattle.seek_braces.specs.Reading.{HoldsBy, bytes_of, copied, last_len}
use Rattle.seek_braces.specs.declared.item.Item.TheVariants.{Comma}
use Rattle.seek_braces.specs.declared.reading.OpenGroup.{OpenGroup}
use Rattle.seek_braces.proofs.ReadingFacts.{first_some, held_comma, kept_count}
use Rattle.seek_braces.proofs.reading.Reading.separate.Goals as goal

pub returns : goal.returns
returns c =
    λ read held.
    let reading = c.args.self.now in
    let kept = bytes_of reading.texts.items in
    let group = c.in-Some.group in
    let more = with_item Comma read in
    let found : slice_get (reverse reading.groups.items) 0 ≡ Some group
    = sym (c.in-Some.ensures ∙ ap (λ (l : List OpenGroup). slice_get (reverse l) 0) c.as_slice.ensures.value) in
    let first = first_some (reverse reading.groups.items) group found in
    let fits : group.width ≤ 1024 - length kept
    = omega (arith, c.if-group-saturating_sub.false, c.saturating_sub.ensures, c.len.ensures, kept_count reading.texts) in
    let count : c.len-self.result ≡ length kept = c.len-self.ensures ∙ sym (kept_count reading.texts) in
    let texts : bytes_of c.push_copies.new.texts.items ≡ copied group.width (last_len kept - group.len) kept
    = c.in_ok-push_copies.ensures
    ∙ ap (λ n. copied group.width n kept) (c.saturating_sub-cut.ensures ∙ ap (λ n. n - group.len) (c.last_len.ensures ∙ ap (λ l. last_len (bytes_of l)) c.as_slice-2.ensures.value)) in
    let next = held_comma read kept reading.start group first.0 (subst (λ (ks : List OpenGroup). HoldsBy read kept reading.start ks) first.1 held) fits in
    subst (λ (ks : List OpenGroup). HoldsBy more (bytes_of c.push_copies.new.texts.items) c.len-self.result ks) (sym first.1)
    (subst (λ n. HoldsBy more (bytes_of c.push_copies.new.texts.items) n (group ∷ first.0)) (sym count)
    (subst (λ (k : List (List ℕ)). HoldsBy more k (length kept) (group ∷ first.0)) (sym texts) next))
