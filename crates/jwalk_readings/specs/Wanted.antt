-- The awaited reading.
use Rattle.std.specs.Prelude.{◌≡◌, ℕ, List}
use Rattle.jwalk_model.specs.Options.{Options, ReadsAs}
use Rattle.jwalk_model.specs.ReadDir.{Directory, Spec}
use Rattle.jwalk_order.specs.IndexPath.{address}
use Rattle.jwalk_order.specs.Ordered.{address_of}
use Rattle.jwalk_order.specs.declared.ordered.Ordered.{Ordered}
use Rattle.jwalk_job.specs.Options.{options_value}
use Rattle.jwalk_job.specs.ReadDirSpec.{directory_at, spec}
use Rattle.jwalk_job.specs.Job.{options_of}
use Rattle.jwalk_readings.specs.declared.wanted.Wanted.{Wanted}
use Rattle.jwalk_readings.specs.Message.{Message}

-- the awaited directory
abbrev pub wanted_directory : {A : Type 0} → Wanted A → Directory
wanted_directory wanted = directory_at wanted.depth wanted.path wanted.ancestors

-- The awaited reading is that of this directory, at this address and by these options.
pub record IsFor {A R : Type 0} (where_at : List ℕ) (asked : Spec R) (by : Options) (wanted : Wanted A) : Type 0 where
  pub at : address wanted.address ≡ where_at
  pub of : asked.directory ≡ wanted_directory wanted
  pub options : options_value wanted.options ≡ by

-- The message is the awaited reading: at its address, of its directory, by its options.
pub record Fits {C S P A R E : Type 0} (wanted : Wanted A) (item : Ordered (Message C S P A R E) A) : Type 0 where
  pub at : address_of item ≡ address wanted.address
  pub of : (spec item.value.of).directory ≡ wanted_directory wanted
  pub options : ReadsAs (options_of item.value.job) (options_value wanted.options)
