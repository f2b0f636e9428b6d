-- The folders above a path, one after another.
use Prim.Native.Nat.{zero}
use Rattle.std.proofs.Common.{◌≡◌, ◌∙◌, ℕ, suc, Bool, List, [], ◌∷◌, ◌++◌, map, Option, Some, None, ap, refl, sym, append_assoc, append-nil}
use Rattle.std.proofs.lemmas.List.{map-append}
use Rattle.jwalk_model.specs.Paths.{parent}
use Rattle.jwalk_ignore_rules.specs.Rules.Folder.{Folder, ends_git, folder_at, folders_above}
use Rattle.jwalk_ignore_rules.specs.Rules.Texts.{Texts}

module _ (texts : Texts) where
  -- what is above a parent
  abbrev from : Bool → ℕ → Option (List ℕ) → List Folder
  from is_outer n found = elim found [
    | None ↦ []
    | Some above ↦ folder_at texts is_outer above ∷ folders_above texts (ends_git (folder_at texts is_outer above)) n above
  ]

  none_above : (is_outer : Bool) (n : ℕ) (path : List ℕ) → parent path ≡ None → folders_above texts is_outer n path ≡ []
  none_above is_outer zero path is = refl
  none_above is_outer (suc n) path is = ap (from is_outer n) is

  more_above : (is_outer : Bool) (n m : ℕ) (path above : List ℕ) → n ≡ suc m → parent path ≡ Some above
      → folders_above texts is_outer n path ≡ folder_at texts is_outer above ∷ folders_above texts (ends_git (folder_at texts is_outer above)) m above
  more_above is_outer n m path above less is = ap (λ (k : ℕ). folders_above texts is_outer k path) less ∙ ap (from is_outer m) is

  module _ {X : Type 0} (value : X → Folder) (found : List X) (all : List Folder) (is_outer : Bool) (n : ℕ) (path : List ℕ) (inv : all ≡ map value found ++ folders_above texts is_outer n path) where
    -- where there is no parent, all are found
    pub all_found : parent path ≡ None → map value found ≡ all
    all_found is = sym (inv ∙ ap (λ (l : List Folder). map value found ++ l) (none_above is_outer n path is) ∙ append-nil (map value found))

    -- one folder more
    pub more_found : (x : X) (above : List ℕ) (m : ℕ) (next : Bool) → n ≡ suc m → parent path ≡ Some above → value x ≡ folder_at texts is_outer above → next ≡ ends_git (value x)
        → all ≡ map value (found ++ x ∷ []) ++ folders_above texts next m above
    more_found x above m next less is same ends =
        inv ∙ ap (λ (l : List Folder). map value found ++ l) (more_above is_outer n m path above less is)
        ∙ ap (λ (f : Folder). map value found ++ f ∷ folders_above texts (ends_git f) m above) (sym same)
        ∙ ap (λ (b : Bool). map value found ++ value x ∷ folders_above texts b m above) (sym ends)
        ∙ sym (append_assoc (map value found) (value x ∷ []) (folders_above texts next m above))
        ∙ ap (λ (l : List Folder). l ++ folders_above texts next m above) (sym (map-append value found (x ∷ [])))
