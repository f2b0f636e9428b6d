use Rattle.std.proofs.Common.{◌≡◌, ◌∙◌, ◌∷◌, [], List, ap, reverse, subst}
use Rattle.std.proofs.lemmas.List.{reverse-append}
use Rattle.seek_braces.specs.Reading.{HoldsBy, bytes_of}
use Rattle.seek_braces.specs.declared.reading.OpenGroup.{OpenGroup}
use Rattle.seek_braces.proofs.ReadingFacts.{held_open}
use Rattle.seek_braces.proofs.reading.Reading.open.Goals as goal

pub returns : goal.returns
returns c =
    λ read held.
    let reading = c.args.self.now in
    let kept = bytes_of reading.texts.items in
    let group = c.in-Some.group in
    let rest = reverse c.pop.new.self.items in
    let same : reverse reading.groups.items ≡ group ∷ rest = ap reverse c.in-Some.ensures.items ∙ reverse-append c.pop.new.self.items (group ∷ []) in
    held_open read kept reading.start group rest (subst (λ (ks : List OpenGroup). HoldsBy read kept reading.start ks) same held)
