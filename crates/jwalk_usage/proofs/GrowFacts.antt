-- Totals only grow.
use Rattle.std.proofs.Common.{◌≤◌, ◌^◌, ℕ, max, List, ◌++◌, arith}
use Rattle.std.specs.List.{sum_by}
use Rattle.std.proofs.lemmas.List.Sums.{sum_by-append}
use Rattle.jwalk.specs.jwalk_model.FileType.{is_dir, is_file, is_symlink}
use Rattle.jwalk.specs.jwalk_model.FileSystem.{Functions}
use Rattle.jwalk.specs.jwalk_model.Entry.{Item}
use Rattle.jwalk_usage.specs.Totals.{is_other, entry_of, errors_of, bytes_of, totals}
use Rattle.jwalk_usage.specs.Counts.{IsTooGreat}

grown : {X : Type 0} (f : X → ℕ) (l m : List X) → sum_by f l ≤ sum_by f (l ++ m)
grown f l m = omega (arith, sum_by-append f l m)

pub either : (n a b a' b' : ℕ) → a ≤ a' → (n ≤ b → n ≤ b') → n ≤ max a b → n ≤ max a' b'
either n a b a' b' first second most = grind arith

-- If a number of some answers' totals is too great, so is one of the totals of more.
pub too_great_on : {R E : Type 0} (fs : Functions) (l m : List (Item R E)) → IsTooGreat (totals fs l) → IsTooGreat (totals fs (l ++ m))
too_great_on fs l m =
    let n : ℕ = 2 ^ 128 in
    either n _ _ _ _ (grown (entry_of is_file) l m)
    (either n _ _ _ _ (grown (entry_of is_dir) l m)
    (either n _ _ _ _ (grown (entry_of is_symlink) l m)
    (either n _ _ _ _ (grown (entry_of is_other) l m)
    (either n _ _ _ _ (grown (errors_of fs) l m)
    (λ bytes. omega (arith, bytes, grown (bytes_of fs) l m))))))
