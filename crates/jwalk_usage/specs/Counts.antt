-- How answers are counted, one after another.
use Rattle.std.specs.Prelude.{◌≡◌, ◌≤◌, ◌+◌, ◌^◌, ℕ, max, true, List, [], ◌∷◌, ◌++◌, map, Option, Some, None, Result, Ok, Err, is_err}
use Rattle.std.specs.List.{sum_by, list_all}
use Rattle.std.specs.Iterator.{Drains, YieldsThen}
use Rattle.jwalk.specs.jwalk_model.declared.file_type.FileType.{FileType}
use Rattle.jwalk.specs.jwalk_model.declared.metadata.Metadata.{Metadata}
use Rattle.jwalk.specs.jwalk_model.FileType.{is_dir, is_file, is_symlink}
use Rattle.jwalk.specs.jwalk_model.FileSystem.{Functions}
use Rattle.jwalk.specs.jwalk_model.Entry.{Item}
use Rattle.jwalk.specs.jwalk_job.declared.dir_entry.DirEntry.{DirEntry}
use Rattle.jwalk.specs.jwalk_job.declared.error.Error.{Error}
use Rattle.jwalk.specs.jwalk_job.Entry.{item}
use Rattle.jwalk.specs.DirEntryIter.{TellsMemory, NoneRefused}
use Rattle.jwalk_usage.specs.declared.report.Usage.{Usage}
use Rattle.jwalk_usage.specs.declared.report.UsageFault.{UsageFault}
use Rattle.jwalk_usage.specs.declared.report.UsageFault.TheVariants.{TooMany, Memory}
use Rattle.jwalk_usage.specs.Totals.{one_if, is_other, length_in, entry_of, with_answer, is_asked, errors_of, bytes_of, totals}
use Rattle.jwalk_usage.specs.Kept.{is_known, kept_totals, with_kept}

-- the usage of no answers
abbrev pub nothing : Usage
nothing = record { files = 0; dirs = 0; links = 0; others = 0; errors = 0; bytes = 0 }

-- the greatest of its six numbers
abbrev pub greatest : Usage → ℕ
greatest u = max u.files (max u.dirs (max u.links (max u.others (max u.errors u.bytes))))

-- A number of it is no `u128`.
abbrev pub IsTooGreat : Usage → Type 0
IsTooGreat u = 2 ^ 128 ≤ greatest u

-- the usage with one more entry of this type
abbrev pub with_type : FileType → Usage → Usage
with_type type u = record u {
  files = u.files + one_if (is_file type);
  dirs = u.dirs + one_if (is_dir type);
  links = u.links + one_if (is_symlink type);
  others = u.others + one_if (is_other type);
}

-- the usage with the length of one more file, or with the error of asking for it
abbrev pub with_length : {X : Type 0} → Result Metadata X → Usage → Usage
with_length metadata u = record u { errors = u.errors + one_if (is_err metadata); bytes = u.bytes + length_in metadata }

module _ {R E : Type 0} where
  -- the usage with one more answer
  abbrev pub with_one : Functions → Item R E → Usage → Usage
  with_one fs x u = with_answer (errors_of fs) (bytes_of fs) x u

  -- One more answer is counted by its type, whatever the file system returns.
  pub record CountsType (x : Item R E) (old new : Usage) : Type 0 where
    pub files : new.files ≡ old.files + entry_of is_file x
    pub dirs : new.dirs ≡ old.dirs + entry_of is_dir x
    pub links : new.links ≡ old.links + entry_of is_symlink x
    pub others : new.others ≡ old.others + entry_of is_other x

  -- All answers are counted by their types, whatever the file system returns.
  pub record CountsTypes (l : List (Item R E)) (usage : Usage) : Type 0 where
    pub files : usage.files ≡ sum_by (entry_of is_file) l
    pub dirs : usage.dirs ≡ sum_by (entry_of is_dir) l
    pub links : usage.links ≡ sum_by (entry_of is_symlink) l
    pub others : usage.others ≡ sum_by (entry_of is_other) l

  -- Memory ran out: the answer says so, or it is a file that keeps no metadata, which was asked for.
  abbrev pub MayRunOut : Item R E → Type 0
  MayRunOut (Ok e) = is_asked e ≡ true
  MayRunOut (Err f) = TellsMemory {R = R} {E = E} (Err f)

  -- Why one more answer can't be counted: a number gets too great with it, over a fixed file system or if it is no file to be asked, or memory ran out.
  abbrev pub CannotCount : Type 0 → Functions → Item R E → Usage → UsageFault → Type 0
  CannotCount fixed fs x u TooMany = (fixed → IsTooGreat (with_one fs x u)) × (is_known x ≡ true → IsTooGreat (with_kept x u))
  CannotCount fixed fs x u Memory = MayRunOut x

  -- Why the last of these answers can't be counted: a number of their totals is too great, over a fixed file system or if every file keeps its metadata, or memory ran out.
  abbrev pub TellsOfLast : Type 0 → Functions → List (Item R E) → Item R E → UsageFault → Type 0
  TellsOfLast fixed fs l last TooMany =
      (fixed → IsTooGreat (totals fs (l ++ last ∷ []))) × (list_all is_known (l ++ last ∷ []) ≡ true → IsTooGreat (kept_totals (l ++ last ∷ [])))
  TellsOfLast fixed fs l last Memory = MayRunOut last

module _ {C A R E : Type 0} (fixed : Type 0) (fs : Functions) where
  -- None of the answers reports that memory ran out, and the usage is what they come to: by their types whatever the file system returns, and all of it over a fixed one, or if every file keeps its metadata.
  pub record Counts (answered : List (Result (DirEntry C A R E) (Error A))) (usage : Usage) : Type 0 where
    pub none_refused : NoneRefused answered
    pub types : CountsTypes (map item answered) usage
    pub totals : fixed → usage ≡ totals fs (map item answered)
    pub kept : list_all is_known (map item answered) ≡ true → usage ≡ kept_totals (map item answered)

module _ {I C A R E : Type 0} (next : I → Option (Result (DirEntry C A R E) (Error A)) → I → Type 0) (fixed : Type 0) (fs : Functions) where
  -- Calls from the start yielded answers and then `None`, which left the iterator so, and the usage is what the answers come to.
  abbrev pub CountsRest : I → I → Usage → Type 0
  CountsRest start end usage =
      (answered : List (Result (DirEntry C A R E) (Error A))) × YieldsThen next start answered None end × Counts fixed fs answered usage

  -- the same, wherever the iterator was left
  abbrev pub CountsAll : I → Usage → Type 0
  CountsAll start usage = (answered : List (Result (DirEntry C A R E) (Error A))) × Drains next start answered × Counts fixed fs answered usage

  -- Calls from the start yielded answers up to one that can't be counted, which left the iterator so, and this is why.
  pub record StopsCountingRest (start end : I) (fault : UsageFault) : Type 0 where
    pub answered : List (Result (DirEntry C A R E) (Error A))
    pub last : Result (DirEntry C A R E) (Error A)
    pub calls : YieldsThen next start answered (Some last) end
    pub tells : TellsOfLast fixed fs (map item answered) (item last) fault

  -- the same, wherever the iterator was left
  abbrev pub StopsCounting : I → UsageFault → Type 0
  StopsCounting start fault = (end : I) × StopsCountingRest start end fault
