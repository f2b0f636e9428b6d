use Rattle.std.proofs.Common.{◌∙◌, [], false, ap, refl, sym}
use Rattle.std.specs.Prelude.{not, ◌==◌, length}
use Rattle.seek_words.specs.Empty.{has_no_items}
use Rattle.seek_words.proofs.EmptyFacts.{none_noted}
use Rattle.seek_words.proofs.empty.is_bare.Goals as goal

pub returns-in-Ok : goal.returns-in-Ok
returns-in-Ok g c = λ fixed.
    let taken = c.in-Ok.ensures.taken in
    ap not (taken.1 (record { has_items = false }) [] refl) ∙ none_noted (length taken.0 == 0) ∙ ap has_no_items (sym (taken.2 fixed))
