-- What a list of answers comes to by the metadata that they keep.
use Rattle.std.specs.Prelude.{ℕ, Bool, true, not, List, Option, None, Some, Ok, Err, if◌then◌else◌}
use Rattle.jwalk.specs.jwalk_model.declared.metadata.Metadata.{Metadata}
use Rattle.jwalk.specs.jwalk_model.FileType.{is_file}
use Rattle.jwalk.specs.jwalk_model.Metadata.{len_of}
use Rattle.jwalk.specs.jwalk_model.Entry.{Item}
use Rattle.jwalk_usage.specs.declared.report.Usage.{Usage}
use Rattle.jwalk_usage.specs.Totals.{one_if, has_failed, totals_by, with_answer, is_asked}

-- the length in metadata that are kept, and 0 if none are
abbrev pub length_kept : Option Metadata → ℕ
length_kept None = 0
length_kept (Some m) = len_of m

module _ {R E : Type 0} where
  -- whether an answer is counted without asking: it is no file that keeps no metadata
  abbrev pub is_known : Item R E → Bool
  is_known (Ok e) = not (is_asked e)
  is_known (Err f) = true

  -- the errors of an answer: itself, or that of the directory below an entry
  abbrev pub errors_kept : Item R E → ℕ
  errors_kept (Ok e) = one_if (has_failed e.read_children)
  errors_kept (Err f) = 1

  -- the bytes of an answer: the length that a file keeps
  abbrev pub bytes_kept : Item R E → ℕ
  bytes_kept (Ok e) = if is_file e.file_type then length_kept e.seen else 0
  bytes_kept (Err f) = 0

  -- the totals of a list of answers by the metadata that they keep, whatever any file system returns
  abbrev pub kept_totals : List (Item R E) → Usage
  kept_totals l = totals_by errors_kept bytes_kept l

  -- the usage with one more answer
  abbrev pub with_kept : Item R E → Usage → Usage
  with_kept x u = with_answer errors_kept bytes_kept x u
