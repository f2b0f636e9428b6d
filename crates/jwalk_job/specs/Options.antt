-- The options of a walk as a value.
use Rattle.std.specs.Prelude.{ℕ, ◌==◌, if◌then◌else◌}
use Rattle.jwalk_model.specs.Options as value
use Rattle.jwalk_model.specs.Options.{serial, batches, crew}
use Rattle.jwalk_job.specs.declared.mode.Mode.{Mode}
use Rattle.jwalk_job.specs.declared.mode.Mode.TheVariants.{Serial, Batches, Crew}
use Rattle.jwalk_job.specs.declared.options.Options.{Options}

-- how directories are read, as a value: a width of 0 means 8
abbrev pub mode_value : Mode → value.Parallelism
mode_value Serial = serial
mode_value (Batches n) = batches (if n == 0 then 8 else n)
mode_value Crew = crew

-- how many directories are read together: one by a serial walk, and one by each worker of a crew
abbrev pub width_of : value.Parallelism → ℕ
width_of serial = 1
width_of (batches n) = n
width_of crew = 1

abbrev pub options_value : Options → value.Options
options_value it = record {
  sort = it.sort;
  skip_hidden = it.skip_hidden;
  follow_links = it.follow_links;
  same_file_system = it.same_file_system;
  keep_metadata = it.keep_metadata;
  min_depth = it.min_depth;
  max_depth = it.max_depth;
  parallelism = mode_value it.mode;
}
