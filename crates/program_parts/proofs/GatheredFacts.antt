-- Output that is gathered, and written in the end.
use Rattle.std.proofs.Common.{◌≡◌, ◌∙◌, ℕ, List, [], ◌++◌, Option, None, Some, append-nil, ap}
use Rattle.std.specs.Io.KnownBytes.{Appends, append_known}

-- nothing was gathered at the beginning, and what is gathered is written at the end
pub gathered_written : (old mid new : Option (List ℕ)) (none gathered text : List ℕ) → none ≡ [] → Appends (append_known old none) (append_known mid gathered) text → Appends mid new gathered → Appends old new text
gathered_written None mid new none gathered text empty taken rest = tt
gathered_written (Some ws) None new none gathered text empty taken rest = absurd taken
gathered_written (Some ws) (Some vs) None none gathered text empty taken rest = absurd rest
gathered_written (Some ws) (Some vs) (Some us) none gathered text empty taken rest =
    rest ∙ taken ∙ ap (λ (l : List ℕ). l ++ text) (ap (λ (l : List ℕ). ws ++ l) empty ∙ append-nil ws)
