-- Totals don't depend on states.
use Rattle.std.proofs.Common.{◌≡◌, Bool, List, map, Some, None, Ok, Err, refl}
use Rattle.jwalk.specs.jwalk_model.declared.file_type.FileType.{FileType}
use Rattle.jwalk.specs.jwalk_model.FileSystem.{Functions}
use Rattle.jwalk.specs.jwalk_model.Entry.{Item}
use Rattle.jwalk.specs.jwalk_job.Given.{Given, counted_item}
use Rattle.jwalk_usage.specs.Totals.{entry_of, errors_of, bytes_of, totals}
use Rattle.jwalk_usage.specs.Kept.{errors_kept, bytes_kept, kept_totals}
use Rattle.jwalk_usage.proofs.TotalFacts.{totals_same}

module _ {R E : Type 0} (given : Given R E) where
  same_errors : (fs : Functions) (x : Item R E) → errors_of fs (counted_item given x) ≡ errors_of fs x
  same_errors fs (Err f) = refl
  same_errors fs (Ok e) = elim e.read_children as (λ o. errors_of fs (counted_item given (Ok (record e { read_children = o }))) ≡ errors_of {R = R} {E = E} fs (Ok (record e { read_children = o }))) [ None ↦ refl | Some c ↦ refl ]

  same_bytes : (fs : Functions) (x : Item R E) → bytes_of fs (counted_item given x) ≡ bytes_of fs x
  same_bytes fs (Err f) = refl
  same_bytes fs (Ok e) = refl

  same_type : (is : FileType → Bool) (x : Item R E) → entry_of is (counted_item given x) ≡ entry_of is x
  same_type is (Err f) = refl
  same_type is (Ok e) = refl

  -- the totals of items as their states count
  pub same_totals : (fs : Functions) (l : List (Item R E)) → totals fs (map (counted_item given) l) ≡ totals fs l
  same_totals fs l = totals_same (counted_item given) (errors_of fs) (bytes_of fs) (errors_of fs) (bytes_of fs) same_type (same_errors fs) (same_bytes fs) l

  same_kept_errors : (x : Item R E) → errors_kept (counted_item given x) ≡ errors_kept x
  same_kept_errors (Err f) = refl
  same_kept_errors (Ok e) = elim e.read_children as (λ o. errors_kept (counted_item given (Ok (record e { read_children = o }))) ≡ errors_kept {R = R} {E = E} (Ok (record e { read_children = o }))) [ None ↦ refl | Some c ↦ refl ]

  same_kept_bytes : (x : Item R E) → bytes_kept (counted_item given x) ≡ bytes_kept x
  same_kept_bytes (Err f) = refl
  same_kept_bytes (Ok e) = refl

  -- and so are those by the metadata that items keep
  pub same_kept : (l : List (Item R E)) → kept_totals (map (counted_item given) l) ≡ kept_totals l
  same_kept l = totals_same (counted_item given) errors_kept bytes_kept errors_kept bytes_kept same_type same_kept_errors same_kept_bytes l
