-- The records of directories, one after another.
use Rattle.std.proofs.Common.{◌≡◌, ◌∙◌, ℕ, Bool, true, false, List, [], ◌∷◌, ◌++◌, Option, Some, ap, refl, reverse}
use Rattle.std.specs.Prelude.{find, option_and_then, if◌then◌else◌}
use Rattle.std.proofs.lemmas.List.{reverse-append}
use Rattle.jwalk_snapshot.specs.Text.{Folder}
use Rattle.jwalk_snapshot_index.specs.Records.{is_kept_at, record_in, record_kept, record_of}

found_first : (f : Folder) (others : Option Folder) (b : Bool) → option_and_then record_of (if b then Some f else others) ≡ (if b then record_of f else option_and_then record_of others)
found_first f others true = refl
found_first f others false = refl

-- a directory behind others
pub record_more : (root : List ℕ) (folders : List Folder) (f : Folder) (at : List ℕ) → record_in root (folders ++ f ∷ []) at ≡ record_kept root f (record_in root folders at) at
record_more root folders f at =
    ap (λ l. option_and_then record_of (find (is_kept_at root at) l)) (reverse-append folders (f ∷ []))
    ∙ found_first f (find (is_kept_at root at) (reverse folders)) (is_kept_at root at f)
