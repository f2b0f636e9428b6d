-- Texts that are written one after another.
use Rattle.std.proofs.Common.{◌≡◌, ◌∙◌, ℕ, List, ◌++◌, Option, Some, None, Bor, ap, append_assoc, codes, sym, unwrap_or}
use Rattle.std.specs.Fmt.{decimal}
use Rattle.std.specs.Io.KnownBytes.{Appends}
use Rattle.std.specs.Option.{option_copied}
use Rattle.std.specs.declared.io.ErrorKind.{ErrorKind}
use Rattle.jwalk_job.specs.Error.{depth_of, kind_of, path_of}
use Rattle.jwalk_model.specs.Error.{Failure, io, unnamed, looped, busy, memory, lost}
use Rattle.jwalk_model.specs.Entry.{Children}
use Rattle.jwalk_model.specs.Lines.{failure_line, failure_name, kind_name, reading_part}

-- one text more in front
pub then : (old mid new : Option (List ℕ)) (first rest : List ℕ) → Appends old mid first → Appends mid new rest → Appends old new (first ++ rest)
then None mid new first rest one more = tt
then (Some xs) None new first rest one more = absurd one
then (Some xs) (Some ys) None first rest one more = absurd more
then (Some xs) (Some ys) (Some zs) first rest one more = more ∙ ap (λ l. l ++ rest) one ∙ append_assoc xs first rest

-- the same, of a text that is known to be another
pub then_is : (old mid new : Option (List ℕ)) (first part rest : List ℕ) → first ≡ part → Appends old mid first → Appends mid new rest → Appends old new (part ++ rest)
then_is old mid new first part rest is one more = rw (← is) (then old mid new first rest one more)

-- the text behind a reference, or another one
pub text_or : (found : Option (Bor (List ℕ))) (other : Bor (List ℕ)) (text : Bor (List ℕ)) (known : Option (List ℕ)) → text ≡ unwrap_or found other → option_copied found ≡ known → text.now ≡ unwrap_or known other.now
text_or None other text known is copied = ap (λ t. t.now) is ∙ ap (λ o. unwrap_or o other.now) copied
text_or (Some t) other text known is copied = ap (λ t. t.now) is ∙ ap (λ o. unwrap_or o other.now) copied

-- the line of an error that has a kind
pub kind_line : (failure : Failure) (kind : ErrorKind) → kind_of failure ≡ Some kind
    → codes "! " ++ (decimal (depth_of failure) ++ (codes " " ++ (unwrap_or (path_of failure) (codes "-") ++ (codes " " ++ (kind_name kind ++ codes "\n"))))) ≡ failure_line failure
kind_line (io depth path found) kind is = let same : kind ≡ found = cc in rw same
kind_line (unnamed depth directory found) kind is = let same : kind ≡ found = cc in rw same
kind_line (looped depth ancestor child) kind is = cc
kind_line busy kind is = cc
kind_line memory kind is = cc
kind_line lost kind is = cc

-- the text for a reading that ended in an error
pub reading_failed : {R : Type 0} (reading : Option (Children R)) (children : Children R) (failure : Failure) → reading ≡ Some children → children.error ≡ Some failure
    → codes " ! " ++ failure_name failure ≡ reading_part reading
reading_failed reading children failure is failed =
    sym (ap reading_part is ∙ ap (λ error. reading_part (Some (record children { error = error }))) failed)
