-- One entry counted by what it keeps, and then by what the file system returns of it.
use Rattle.std.proofs.Common.{◌≡◌, ◌+◌, ◌≤◌, ◌^◌, ℕ, Bool, true, false, cond, ◌&&◌, Option, Some, None, Result, Ok, refl, arith}
use Rattle.std.specs.Prelude.{option_map, unwrap_or, is_err}
use Rattle.std.specs.Option.{is_none}
use Rattle.std.specs.declared.io.ErrorKind.{ErrorKind}
use Rattle.jwalk.specs.jwalk_model.declared.metadata.Metadata.{Metadata}
use Rattle.jwalk.specs.jwalk_model.FileType.{is_file}
use Rattle.jwalk.specs.jwalk_model.FileSystem.{Functions}
use Rattle.jwalk.specs.jwalk_model.Entry.{Entry, metadata_of}
use Rattle.jwalk_usage.specs.declared.report.Usage.{Usage}
use Rattle.jwalk_usage.specs.Totals.{one_if, has_failed, length_in, is_asked}
use Rattle.jwalk_usage.specs.Kept.{length_kept, with_kept}
use Rattle.jwalk_usage.specs.Counts.{with_length, with_one, IsTooGreat}
use Rattle.jwalk_usage.proofs.TotalFacts.{by_numbers}
use Rattle.jwalk_usage.proofs.GrowFacts.{either}

-- what is known of an entry that keeps these
abbrev known : Option Metadata → Result Metadata ErrorKind → Result Metadata ErrorKind
known seen asked = unwrap_or (option_map Ok seen) asked

module _ (asked : Result Metadata ErrorKind) (n m : ℕ) where
  errors_if_asked : (file : Bool) (seen : Option Metadata) → (file && is_none seen) ≡ true → ((n + m) + one_if (is_err asked)) ≡ (n + (m + one_if (file && is_err (known seen asked))))
  errors_if_asked true None is = omega arith
  errors_if_asked true (Some x) is = absurd cc
  errors_if_asked false seen is = absurd cc

  errors_if_known : (file : Bool) (seen : Option Metadata) → (file && is_none seen) ≡ false → (n + m) ≡ (n + (m + one_if (file && is_err (known seen asked))))
  errors_if_known true None is = absurd cc
  errors_if_known true (Some x) is = omega arith
  errors_if_known false seen is = omega arith

  bytes_if_asked : (file : Bool) (seen : Option Metadata) → (file && is_none seen) ≡ true → ((n + cond file (length_kept seen) 0) + length_in asked) ≡ (n + cond file (length_in (known seen asked)) 0)
  bytes_if_asked true None is = omega arith
  bytes_if_asked true (Some x) is = absurd cc
  bytes_if_asked false seen is = absurd cc

  bytes_if_known : (file : Bool) (seen : Option Metadata) → (file && is_none seen) ≡ false → (n + cond file (length_kept seen) 0) ≡ (n + cond file (length_in (known seen asked)) 0)
  bytes_if_known true None is = absurd cc
  bytes_if_known true (Some x) is = refl
  bytes_if_known false seen is = refl

  bytes_grow : (file : Bool) (seen : Option Metadata) → cond file (length_kept seen) 0 ≤ cond file (length_in (known seen asked)) 0
  bytes_grow true None = omega arith
  bytes_grow true (Some x) = omega arith
  bytes_grow false seen = omega arith

module _ {R E : Type 0} (fs : Functions) (e : Entry R E) (u : Usage) where
  -- a file that keeps no metadata is counted by what the file system returns
  pub counted_as_asked : is_asked e ≡ true → with_length (metadata_of fs e) (with_kept (Ok e) u) ≡ with_one fs (Ok e) u
  counted_as_asked is = by_numbers _ _ _ _ _ _ _ _ _ _ _ _ refl refl refl refl
      (errors_if_asked (metadata_of fs e) u.errors (one_if (has_failed e.read_children)) (is_file e.file_type) e.seen is)
      (bytes_if_asked (metadata_of fs e) u.bytes 0 (is_file e.file_type) e.seen is)

  -- for any other entry it doesn't matter what that returns
  pub counted_as_known : is_asked e ≡ false → with_kept (Ok e) u ≡ with_one fs (Ok e) u
  counted_as_known is = by_numbers _ _ _ _ _ _ _ _ _ _ _ _ refl refl refl refl
      (errors_if_known (metadata_of fs e) u.errors (one_if (has_failed e.read_children)) (is_file e.file_type) e.seen is)
      (bytes_if_known (metadata_of fs e) u.bytes 0 (is_file e.file_type) e.seen is)

  -- What is too great by what is kept is so by what the file system returns too.
  pub too_great_asked : IsTooGreat (with_kept (Ok e) u) → IsTooGreat (with_one fs (Ok e) u)
  too_great_asked =
      let n : ℕ = 2 ^ 128 in
      either n _ _ _ _ (omega arith)
      (either n _ _ _ _ (omega arith)
      (either n _ _ _ _ (omega arith)
      (either n _ _ _ _ (omega arith)
      (either n _ _ _ _ (omega arith)
      (λ bytes. omega (arith, bytes, bytes_grow (metadata_of fs e) 0 0 (is_file e.file_type) e.seen))))))
