-- Readings as values.
use Rattle.std.specs.Prelude.{map, Result, Ok, Err}
use Rattle.jwalk_model.specs.ReadDir.{Reading, Outcome}
use Rattle.jwalk_job.specs.declared.read_dir.ReadDir.{ReadDir}
use Rattle.jwalk_job.specs.declared.error.Error.{Error}
use Rattle.jwalk_job.specs.Error.{failure}
use Rattle.jwalk_job.specs.Entry.{item}

module _ {C A R E : Type 0} where
  abbrev pub reading : ReadDir C A R E → Reading R E
  reading r = record { state = r.read_dir_state; list = map item r.results_list.items }

  abbrev pub outcome : Result (ReadDir C A R E) (Error A) → Outcome R E
  outcome (Ok r) = Ok (reading r)
  outcome (Err e) = Err (failure e)
