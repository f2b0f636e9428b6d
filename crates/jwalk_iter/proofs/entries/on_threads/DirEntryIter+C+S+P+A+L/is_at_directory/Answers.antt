use Rattle.std.proofs.Common.{◌∙◌, Ok, Err, map, reverse, refl, sym, ap}
use Rattle.jwalk_job.specs.Entry.{item, children}
use Rattle.jwalk_readings.proofs.StackFacts.{last_first, no_last, is_some-map}
use Rattle.jwalk_iter.proofs.AheadFacts.{at_entry, not_at_entry, none_at}
use Rattle.jwalk_iter.proofs.entries.on_threads.DirEntryIter+C+S+P+A+L.is_at_directory.Goals as goal

pub returns-in-Some-Ok-clause-yes : goal.returns-in-Some-Ok-clause-yes
returns-in-Some-Ok-clause-yes g c = λ yes some.
    let first = ap (λ l. map item (reverse l)) (sym c.deref.ensures.value) ∙ last_first item c.deref.result.now (Ok c.in-Some-Ok.found) (rw c.in-Some-Ok.field-0-is at c.in-Some-Ok.ensures.value) in
    at_entry _ _ _ _ first (is_some-map children c.in-Some-Ok.found.read_children ∙ sym c.is_some.ensures ∙ yes) some

pub returns-in-Some-Ok-clause-no : goal.returns-in-Some-Ok-clause-no
returns-in-Some-Ok-clause-no g c = λ no.
    let first = ap (λ l. map item (reverse l)) (sym c.deref.ensures.value) ∙ last_first item c.deref.result.now (Ok c.in-Some-Ok.found) (rw c.in-Some-Ok.field-0-is at c.in-Some-Ok.ensures.value) in
    not_at_entry _ _ _ _ first (is_some-map children c.in-Some-Ok.found.read_children ∙ sym c.is_some.ensures ∙ no)

pub returns-in-Some-Err-clause-no : goal.returns-in-Some-Err-clause-no
returns-in-Some-Err-clause-no g c = λ no.
    let first = ap (λ l. map item (reverse l)) (sym c.deref.ensures.value) ∙ last_first item c.deref.result.now (Err c.in-Some-Err._error) (rw c.in-Some-Err.field-0-is at c.in-Some-Err.ensures.value) in
    not_at_entry _ _ _ _ first refl

pub returns-in-None-clause-no : goal.returns-in-None-clause-no
returns-in-None-clause-no g c = λ no.
    none_at _ _ (ap (λ l. map item (reverse l)) (sym c.deref.ensures.value ∙ no_last c.deref.result.now c.in-None.ensures.value))
