-- The items that were received, of which the last in the vector is the next one.
use Rattle.std.proofs.Common.{◌≡◌, ◌∙◌, ◌∷◌, [], ◌++◌, List, Result, Ok, Err, OnOk, map, reverse, ap}
use Rattle.std.specs.Prelude.{if◌then◌else◌, is_ok}
use Rattle.std.proofs.lemmas.List.{map-append, reverse-append, reverse-reverse}
use Rattle.jwalk_model.specs.Entry.{Item}
use Rattle.jwalk_job.specs.declared.error.Error.{Error}
use Rattle.jwalk_job.specs.declared.dir_entry.DirEntry.{DirEntry}
use Rattle.jwalk_job.specs.Entry.{item}
use Rattle.jwalk_readings.proofs.StackFacts as lists

pub popped : {C A R E : Type 0} (stack left : List (Result (DirEntry C A R E) (Error A))) (x : Result (DirEntry C A R E) (Error A)) → stack ≡ left ++ x ∷ [] → map item (reverse stack) ≡ item x ∷ map item (reverse left)
popped = lists.popped item

-- items that were added the last first come first
pub received : {T F C A R E : Type 0} (r : Result T F) (old added new given : List (Result (DirEntry C A R E) (Error A))) (list : List (Item R E)) → new ≡ (if is_ok r then old ++ added else old) → added ≡ reverse given → map item given ≡ list → OnOk r (map item (reverse new) ≡ list ++ map item (reverse old))
received (Ok done) old added new given list is turned same =
    ap (λ l. map item (reverse l)) (is ∙ ap (λ l. old ++ l) turned)
    ∙ ap (map item) (reverse-append old (reverse given) ∙ ap (λ l. l ++ reverse old) (reverse-reverse given))
    ∙ map-append item given (reverse old)
    ∙ ap (λ l. l ++ map item (reverse old)) same
received (Err refused) old added new given list is turned same = tt
