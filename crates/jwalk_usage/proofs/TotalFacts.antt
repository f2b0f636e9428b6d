-- Totals with one more answer, and of other answers.
use Rattle.std.proofs.Common.{◌≡◌, ◌+◌, ℕ, Bool, List, [], ◌∷◌, ◌++◌, map, refl, sym, ap, ap₂, ◌∙◌}
use Rattle.std.specs.List.{sum_by}
use Rattle.std.proofs.lemmas.List.Sums.{sum_by_push, sum_by-cons}
use Rattle.jwalk.specs.jwalk_model.declared.file_type.FileType.{FileType}
use Rattle.jwalk.specs.jwalk_model.FileType.{is_dir, is_file, is_symlink}
use Rattle.jwalk.specs.jwalk_model.Entry.{Item}
use Rattle.jwalk_usage.specs.declared.report.Usage.{Usage}
use Rattle.jwalk_usage.specs.Totals.{is_other, entry_of, totals_by, with_answer}
use Rattle.jwalk_usage.specs.Counts.{CountsType, CountsTypes}

-- the usage of six numbers
abbrev pub usage_of : ℕ → ℕ → ℕ → ℕ → ℕ → ℕ → Usage
usage_of files dirs links others errors bytes = record { files = files; dirs = dirs; links = links; others = others; errors = errors; bytes = bytes }

-- usages whose numbers are the same are the same
pub by_numbers : (f f' d d' l l' o o' e e' b b' : ℕ) → f ≡ f' → d ≡ d' → l ≡ l' → o ≡ o' → e ≡ e' → b ≡ b' → usage_of f d l o e b ≡ usage_of f' d' l' o' e' b'
by_numbers f f' d d' l l' o o' e e' b b' files dirs links others errors bytes = cc

-- totals with one more answer
pub totals_push : {R E : Type 0} (errors bytes : Item R E → ℕ) (l : List (Item R E)) (x : Item R E) → totals_by errors bytes (l ++ x ∷ []) ≡ with_answer errors bytes x (totals_by errors bytes l)
totals_push errors bytes l x = by_numbers _ _ _ _ _ _ _ _ _ _ _ _
    (sum_by_push (entry_of is_file) l x) (sum_by_push (entry_of is_dir) l x) (sum_by_push (entry_of is_symlink) l x) (sum_by_push (entry_of is_other) l x) (sum_by_push errors l x) (sum_by_push bytes l x)

-- a sum over other items that count the same
pub sum_same : {X Y : Type 0} (view : X → Y) (f : Y → ℕ) (g : X → ℕ) → ((x : X) → f (view x) ≡ g x) → (l : List X) → sum_by f (map view l) ≡ sum_by g l
sum_same view f g each [] = refl
sum_same view f g each (x ∷ l) = sum_by-cons f (view x) (map view l) ∙ ap₂ (λ a b. a + b) (each x) (sum_same view f g each l) ∙ sym (sum_by-cons g x l)

module _ {Q D R E : Type 0} (view : Item R E → Item Q D) (errors' bytes' : Item Q D → ℕ) (errors bytes : Item R E → ℕ) where
  -- totals of other answers that count the same
  pub totals_same : ((is : FileType → Bool) (x : Item R E) → entry_of is (view x) ≡ entry_of is x) → ((x : Item R E) → errors' (view x) ≡ errors x) → ((x : Item R E) → bytes' (view x) ≡ bytes x) → (l : List (Item R E)) → totals_by errors' bytes' (map view l) ≡ totals_by errors bytes l
  totals_same types errors_same bytes_same l = by_numbers _ _ _ _ _ _ _ _ _ _ _ _
      (sum_same view _ _ (types is_file) l) (sum_same view _ _ (types is_dir) l) (sum_same view _ _ (types is_symlink) l) (sum_same view _ _ (types is_other) l) (sum_same view _ _ errors_same l) (sum_same view _ _ bytes_same l)

module _ {R E : Type 0} (l : List (Item R E)) (x : Item R E) where
  -- entries with one more answer
  pub types_push : (old new : Usage) → CountsTypes l old → CountsType x old new → CountsTypes (l ++ x ∷ []) new
  types_push old new before more = record {
    files = more.files ∙ ap (λ n. n + entry_of is_file x) before.files ∙ sym (sum_by_push (entry_of is_file) l x);
    dirs = more.dirs ∙ ap (λ n. n + entry_of is_dir x) before.dirs ∙ sym (sum_by_push (entry_of is_dir) l x);
    links = more.links ∙ ap (λ n. n + entry_of is_symlink x) before.links ∙ sym (sum_by_push (entry_of is_symlink) l x);
    others = more.others ∙ ap (λ n. n + entry_of is_other x) before.others ∙ sym (sum_by_push (entry_of is_other) l x);
  }
