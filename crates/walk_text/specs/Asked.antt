-- What the options of a call ask for.
use Rattle.std.specs.Prelude.{◌-◌, ◌^◌, true, false, not, Option, Some, None, is_some, unwrap_or, if◌then◌else◌}
use Rattle.jwalk_model.specs.Options.{Parallelism, serial, crew, Options, defaults, with_min_depth, with_max_depth, with_parallelism}
use Rattle.jwalk_job.specs.Options.{mode_value}
use Rattle.jwalk_job.specs.declared.mode.Mode.TheVariants.{Batches}
use Rattle.walk_text.specs.declared.asked.Asked.{Asked}
use Rattle.walk_text.specs.declared.asked.Choice.{Choice}
use Rattle.walk_text.specs.declared.asked.Choice.TheVariants.{Tree, Sort, Hidden, Follow, Usage, Min, Max, Read}
use Rattle.walk_text.specs.declared.read_by.ReadBy.{ReadBy}
use Rattle.walk_text.specs.declared.read_by.ReadBy.TheVariants.{Batch, Crew}

-- what no option asks for
abbrev pub nothing : Asked
nothing = record { tree = false; sort = false; hidden = false; follow = false; usage = false; min = None; max = None; read_by = None }

-- what is asked for with one more option; each is taken at most once
abbrev pub also : Choice → Asked → Option Asked
also Tree asked = if asked.tree then None else Some (record asked { tree = true })
also Sort asked = if asked.sort then None else Some (record asked { sort = true })
also Hidden asked = if asked.hidden then None else Some (record asked { hidden = true })
also Follow asked = if asked.follow then None else Some (record asked { follow = true })
also Usage asked = if asked.usage then None else Some (record asked { usage = true })
also (Min depth) asked = if is_some asked.min then None else Some (record asked { min = Some depth })
also (Max depth) asked = if is_some asked.max then None else Some (record asked { max = Some depth })
also (Read by) asked = if is_some asked.read_by then None else Some (record asked { read_by = Some by })

-- how directories are read: in batches of a width, where 0 means 8, by a crew, or one at a time if neither is named
abbrev pub parallelism_named : Option ReadBy → Parallelism
parallelism_named None = serial
parallelism_named (Some (Batch width)) = mode_value (Batches width)
parallelism_named (Some (Crew workers)) = crew

-- the options of the walk that is asked for: metadata is kept for totals
abbrev pub options_asked : Asked → Options
options_asked asked =
    with_parallelism (parallelism_named asked.read_by) (with_max_depth (unwrap_or asked.max (2 ^ 64 - 1)) (with_min_depth (unwrap_or asked.min 0) (record defaults {
      sort = asked.sort;
      skip_hidden = not asked.hidden;
      follow_links = asked.follow;
      keep_metadata = asked.usage;
    })))
