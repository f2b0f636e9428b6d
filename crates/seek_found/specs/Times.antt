-- The times that a call names, by the clock and the disk.
use Rattle.std.specs.Prelude.{◌≡◌, ℕ, ℤ, pos, Bool, List, Option, None, Some, option_map, Result, Ok, Err, if◌then◌else◌}
use Rattle.std.specs.declared.io.ErrorKind.{ErrorKind}
use Rattle.jwalk_model.specs.FileSystem.{Functions}
use Rattle.jwalk_model.specs.Metadata.{details_of}
use Rattle.jwalk_model.specs.declared.metadata.Metadata.{Metadata}
use Rattle.seek_words.specs.Time.{nanoseconds_at}
use Rattle.seek_words.specs.Times.{nanoseconds_of}
use Rattle.seek_words.specs.declared.asked.Asked.{Asked}
use Rattle.seek_words.specs.declared.times.Times.{Times}

-- the time of modification, if it is known
abbrev pub modified_in : Result Metadata ErrorKind → Option ℤ
modified_in (Ok m) = option_map (λ details. nanoseconds_of details.modified) (details_of m)
modified_in (Err kind) = None

-- the time of modification of a file: of a link's target, if links are followed, and else of the link
abbrev pub file_time : Functions → Bool → List ℕ → Option ℤ
file_time fs follow path = modified_in (if follow then fs.meta_of path else fs.link_meta_of path)

-- The times are those that a call names, by one time now, in nanoseconds since the beginning of 1970. If the file system
-- always answers the same, the time of modification of a named file is known.
pub record AreTimes (fixed : Type 0) (fs : Functions) (asked : Asked) (times : Times) : Type 0 where
  pub now : ℕ
  pub after : times.after ≡ option_map (nanoseconds_at (pos now)) asked.changed_within
  pub before : times.before ≡ option_map (nanoseconds_at (pos now)) asked.changed_before
  pub after_file : fixed → option_map Some times.after_file ≡ option_map (λ file. file_time fs asked.follow file.now) asked.newer_than
