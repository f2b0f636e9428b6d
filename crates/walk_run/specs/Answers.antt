-- The answers of a walk, printed.
use Rattle.std.specs.Prelude.{◌≡◌, ℕ, Bool, List, Option, Result, map, is_ok}
use Rattle.std.specs.List.{list_all}
use Rattle.std.specs.Iterator.{Drains}
use Rattle.std.specs.Io.KnownBytes.{Appends}
use Rattle.jwalk_job.specs.declared.dir_entry.DirEntry.{DirEntry}
use Rattle.jwalk_job.specs.declared.error.Error.{Error}
use Rattle.jwalk_job.specs.Entry.{item}
use Rattle.jwalk_model.specs.Entry.{Item}

module _ {S C A R E : Type 0} (text : List (Item R E) → List ℕ) (steps : S → Option (Result (DirEntry C A R E) (Error A)) → S → Type 0) (answers : S) where
  -- The iterator was called until it ended, the text of its answers was written, and the result says whether none was an error.
  abbrev pub PrintsAll : Option (List ℕ) → Option (List ℕ) → Bool → Type 0
  PrintsAll old new clean =
      (answered : List (Result (DirEntry C A R E) (Error A))) × Drains steps answers answered × (clean ≡ list_all is_ok answered) × Appends old new (text (map item answered))
