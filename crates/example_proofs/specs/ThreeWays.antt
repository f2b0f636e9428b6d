-- What walks yield whose directories are read in different ways.
use Rattle.std.specs.Prelude.{◌≡◌, List, Result}
use Rattle.jwalk.specs.jwalk_job.Given.{counted_list}
use Rattle.jwalk.specs.jwalk_job.declared.dir_entry.DirEntry.{DirEntry}
use Rattle.jwalk.specs.jwalk_job.declared.error.Error.{Error}
use Rattle.jwalk.specs.WalkDir.{stateless, NoneBusy}
use Rattle.jwalk.specs.DirEntryIter.{NoneRefused}

module _ {C A R E : Type 0} where
  -- None of the answers reports that memory ran out, or that the crew was busy.
  abbrev pub IsWhole : List (Result (DirEntry C A R E) (Error A)) → Type 0
  IsWhole found = NoneRefused found × NoneBusy found

  -- Two lists of answers are the same, if both are whole.
  abbrev pub AreSame : List (Result (DirEntry C A R E) (Error A)) → List (Result (DirEntry C A R E) (Error A)) → Type 0
  AreSame one other = IsWhole one → IsWhole other → counted_list stateless other ≡ counted_list stateless one
